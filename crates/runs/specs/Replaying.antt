-- What a replay does. Assumes nothing.
use Rattle.std.specs.Prelude.{◌≡◌, ℕ, ◌<◌, Bool, false, List, [], ◌∷◌, ◌++◌, map, length, drop, Ok, Err, Result}
use Rattle.board.specs.Meaning.{Rules}
use Rattle.head.specs.Burst.{Cabinet, Stayed}
use Rattle.head.specs.State.{stations}
use Rattle.runs.specs.Calls.{Output, waiting, silence, reply, done, burst_refused, put_refused, condition_refused, Exchange, exchanges}
use Rattle.runs.specs.Neighbours.{Law}
use Rattle.runs.specs.Runs.{Run, OfOneStart}
use Rattle.runs.specs.declared.call.Call.{Call}
use Rattle.runs.specs.declared.call.Entry.{Entry}
use Rattle.runs.specs.declared.runner.ReplayRefusal.{ReplayRefusal}
use Rattle.runs.specs.declared.runner.ReplayRefusal.TheVariants.{OtherMemory, TooFewSlots}

abbrev pub number : ReplayRefusal → ℕ
number OtherMemory = 12
number TooFewSlots = 12

-- when a list is not run, in this order
abbrev pub Refused : Cabinet → ℕ → ReplayRefusal → Type 0
Refused a slots OtherMemory = length a.memory ≡ a.head.lines.memory → ⊥
Refused a slots TooFewSlots = (length a.memory ≡ a.head.lines.memory) × (slots < stations a.head)

-- the bytes that are lent for replies, and whether the line talks
pub record Scene : Type 0 where
  pub buffer : List ℕ
  pub talking : Bool

-- a reply lies at the front of the bytes, and when it is written the line listens
abbrev pub left_by : Scene → Output → Scene
left_by s waiting = s
left_by s silence = s
left_by s (reply slot bytes) = record { buffer = bytes ++ drop (length bytes) s.buffer; talking = false }
left_by s done = s
left_by s (burst_refused e) = s
left_by s (put_refused e) = s
left_by s (condition_refused e) = s

abbrev pub left : Scene → List Exchange → Scene
left s [] = s
left s (x ∷ xs) = left (left_by s x.drew) xs

abbrev pub calls : List Entry → List Call
calls entries = map (λ (e : Entry). e.call) entries

-- The calls of the list were made in their order, beside each stands what it drew, and they are a run, which obeys the law.
pub record Replayed (R : Rules) (slots : ℕ) (a b : Cabinet) (lent : ℕ) (entries entries' : List Entry) : Type 0 where
  pub started : OfOneStart a slots
  pub same : calls entries' ≡ calls entries
  pub run : Run R slots a (exchanges lent entries') b
  pub law : Law R a b (exchanges lent entries')

-- WHAT A REPLAY DOES
abbrev pub Replaying : Rules → ℕ → Cabinet → Cabinet → ℕ → List Entry → List Entry → Result (Unit {0}) ReplayRefusal → Type 0
Replaying R slots a b lent entries entries' (Ok u) = Replayed R slots a b lent entries entries'
Replaying R slots a b lent entries entries' (Err e) = Refused a slots e × Stayed a b × (entries' ≡ entries)

-- and what it leaves of the bytes lent for replies and of the line
abbrev pub Leaving : ℕ → List Entry → Scene → Scene → Result (Unit {0}) ReplayRefusal → Type 0
Leaving lent entries' s s' (Ok u) = s' ≡ left s (exchanges lent entries')
Leaving lent entries' s s' (Err e) = s' ≡ s
