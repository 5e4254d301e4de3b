-- RUNS: lists of calls on one head with its board, memory and line record, each call finding what the earlier ones left.
-- A step is what the call's own contract says of it. Assumes nothing.
use Rattle.std.specs.Prelude.{◌≡◌, ℕ, ◌≤◌, List, [], ◌∷◌, length, take, Some, None, Ok, Err, Option, Result}
use Rattle.board.specs.Meaning.{Rules, Same}
use Rattle.head.specs.Burst.{Accepting, Bursting, Cabinet}
use Rattle.head.specs.Calls.{Conditioning, Putting, Ticking}
use Rattle.head.specs.State.{stations}
use Rattle.head.specs.declared.arrival.Answered.{Answered}
use Rattle.head.specs.declared.BurstFault.{BurstFault}
use Rattle.head.specs.declared.ConditionFault.{ConditionFault}
use Rattle.head.specs.declared.PutFault.{PutFault}
use Rattle.readings.specs.declared.outcome.Outcome.{Outcome}
use Rattle.runs.specs.Calls.{Input, burst, put, condition, tick, Output, silence, reply, done, burst_refused, put_refused, condition_refused, Exchange}

-- what the results of the calls draw; a reply lies at the front of its buffer
abbrev pub burst_drew : Result (Option Answered) BurstFault → List ℕ → Output
burst_drew (Err e) buffer = burst_refused e
burst_drew (Ok None) buffer = silence
burst_drew (Ok (Some by)) buffer = reply by.slot (take by.length buffer)

abbrev pub put_drew : Result (Unit {0}) PutFault → Output
put_drew (Err e) = put_refused e
put_drew (Ok u) = done

abbrev pub condition_drew : Result (Unit {0}) ConditionFault → Output
condition_drew (Err e) = condition_refused e
condition_drew (Ok u) = done

pub record BurstStep (R : Rules) (slots : ℕ) (a b : Cabinet) (bytes : List ℕ) (room : ℕ) (o : Output) : Type 0 where
  -- the reply buffer, as it was brought and afterwards
  pub before : List ℕ
  pub after : List ℕ
  pub long : length before ≡ room
  pub result : Result (Option Answered) BurstFault
  pub did : Bursting R a b slots bytes before after result
  pub accepted : Accepting a slots bytes before result
  pub drew : o ≡ burst_drew result after

pub record PutStep (R : Rules) (slots : ℕ) (a b : Cabinet) (slot channel : ℕ) (outcome : Outcome) (o : Output) : Type 0 where
  pub result : Result (Unit {0}) PutFault
  pub did : Putting R.stored (stations a.head) slots a.shares b.shares slot channel outcome result
  pub head : b.head ≡ a.head
  pub memory : b.memory ≡ a.memory
  pub drew : o ≡ put_drew result

pub record ConditionStep (a b : Cabinet) (slot code : ℕ) (o : Output) : Type 0 where
  pub result : Result (Unit {0}) ConditionFault
  pub did : Conditioning a.head b.head slot code result
  pub memory : b.memory ≡ a.memory
  pub shares : Same a.shares b.shares
  pub drew : o ≡ condition_drew result

pub record TickStep (a b : Cabinet) (seconds : ℕ) (o : Output) : Type 0 where
  pub did : Ticking a.head b.head seconds
  pub memory : b.memory ≡ a.memory
  pub shares : Same a.shares b.shares
  pub drew : o ≡ done

-- a call over a board with these rules and so many slots
abbrev pub Step : Rules → ℕ → Cabinet → Input → Output → Cabinet → Type 0
Step R slots a (burst bytes room) o b = BurstStep R slots a b bytes room o
Step R slots a (put slot channel outcome) o b = PutStep R slots a b slot channel outcome o
Step R slots a (condition slot code) o b = ConditionStep a b slot code o
Step R slots a (tick seconds) o b = TickStep a b seconds o

abbrev pub Run : Rules → ℕ → Cabinet → List Exchange → Cabinet → Type 0
Run R slots a [] b = b ≡ a
Run R slots a (x ∷ xs) b = (c : Cabinet) × Step R slots a x.brought x.drew c × Run R slots c xs b

-- head, memory and board are those of one start: the memory has the length that it had there, the board a slot for each
-- station
pub record OfOneStart (a : Cabinet) (slots : ℕ) : Type 0 where
  pub memory : length a.memory ≡ a.head.lines.memory
  pub enough : stations a.head ≤ slots
