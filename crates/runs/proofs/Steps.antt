-- Every call, for every station of the cabinet. Assumes nothing.
use Rattle.std.proofs.Common.{◌≡◌, ℕ, ◌<◌, List, length, Some, None, Ok, Err, Option, Result, sym, refl, ap, ◌∙◌, arith}
use Rattle.std.proofs.lemmas.Bool.Decides.{nat_tests}
use Rattle.board.specs.Meaning.{Rules, Stored, kept, not_puttable, wrong_type}
use Rattle.burst.specs.Telegram.{telegram_of}
use Rattle.head.specs.Burst.{Bursting, Cabinet, Silent}
use Rattle.head.specs.Calls.{put_by}
use Rattle.head.specs.State.{stations}
use Rattle.head.specs.declared.arrival.Answered.{Answered}
use Rattle.head.specs.declared.BurstFault.{BurstFault}
use Rattle.head.specs.declared.ConditionFault.{ConditionFault}
use Rattle.head.specs.declared.PutFault.{PutFault}
use Rattle.lines.specs.declared.Lines.{Lines}
use Rattle.readings.specs.declared.outcome.Outcome.{Outcome}
use Rattle.telegram.specs.Layout.{Frame}
use Rattle.runs.specs.Calls.{Input, burst, put, condition, tick, Output, reply}
use Rattle.runs.specs.Feeding.{put_said}
use Rattle.runs.specs.Neighbours.{said_at}
use Rattle.runs.specs.Runs.{Step, PutStep, ConditionStep, TickStep, OfOneStart, put_drew, condition_drew}
use Rattle.runs.proofs.Bursts.{burst_stepped}
use Rattle.runs.proofs.Places.{Stepped}

put_is_no_reply : (r : Result (Unit {0}) PutFault) (k : ℕ) (bytes : List ℕ) → put_drew r ≡ reply k bytes → ⊥
put_is_no_reply (Ok u) k bytes e = cc
put_is_no_reply (Err f) k bytes e = cc

condition_is_no_reply : (r : Result (Unit {0}) ConditionFault) (k : ℕ) (bytes : List ℕ) → condition_drew r ≡ reply k bytes → ⊥
condition_is_no_reply (Ok u) k bytes e = cc
condition_is_no_reply (Err f) k bytes e = cc

put_says : (k : ℕ) (s : Stored) → said_at k (put_drew (put_by s)) ≡ put_said s
put_says k (kept s) = refl
put_says k not_puttable = refl
put_says k wrong_type = refl

module _ (R : Rules) (slots : ℕ) (a b : Cabinet) (ready : OfOneStart a slots) (k : ℕ) (there : k < stations a.head) where
  put_stepped : (slot channel : ℕ) (outcome : Outcome) (o : Output) → PutStep R slots a b slot channel outcome o → Stepped R a b (put slot channel outcome) o k
  put_stepped slot channel outcome o s =
      record {
        turned = grind (arith, nat_tests, s.did.share k, ready.enough);
        said = λ same. grind (arith, nat_tests, put_says k (R.stored (a.shares k) channel outcome), ready.enough);
        others = λ out bytes e. put_is_no_reply s.result k bytes (sym s.drew ∙ e);
      }

  condition_stepped : (slot code : ℕ) (o : Output) → ConditionStep a b slot code o → Stepped R a b (condition slot code) o k
  condition_stepped slot code o s =
      record {
        turned = grind (arith, nat_tests, s.did.records k, s.shares k);
        said = λ same. grind (arith, nat_tests);
        others = λ out bytes e. condition_is_no_reply s.result k bytes (sym s.drew ∙ e);
      }

  tick_stepped : (seconds : ℕ) (o : Output) → TickStep a b seconds o → Stepped R a b (tick seconds) o k
  tick_stepped seconds o s =
      record {
        turned = grind (arith, nat_tests, s.did.records k, s.shares k);
        said = λ same. cc;
        others = λ out bytes e. cc;
      }

  -- EVERY STEP does for the station in a slot what the model says
  pub stepped : (i : Input) (o : Output) → Step R slots a i o b → Stepped R a b i o k
  stepped (burst bytes room) o s = burst_stepped R a b k there slots ready bytes room s.before s.after s.long o s.result s.did s.accepted s.drew
  stepped (put slot channel outcome) o s = put_stepped slot channel outcome o s
  stepped (condition slot code) o s = condition_stepped slot code o s
  stepped (tick seconds) o s = tick_stepped seconds o s

-- lines and the length of the memory stay, so head, memory and board still belong together
pub record Kept (a b : Cabinet) : Type 0 where
  pub lines : b.head.lines ≡ a.head.lines
  pub long : length b.memory ≡ length a.memory

module _ (R : Rules) (slots : ℕ) (a b : Cabinet) where
  kept_silent : (t : Option Frame) → Silent R a b t → Kept a b
  kept_silent None stayed = record { lines = stayed.lines; long = cc }
  kept_silent (Some f) moved = record { lines = moved.0.lines; long = moved.0.long }

  kept_burst : (bytes before after' : List ℕ) (r : Result (Option Answered) BurstFault) → Bursting R a b slots bytes before after' r → Kept a b
  kept_burst bytes before after' (Err e) did = record { lines = did.1.lines; long = cc }
  kept_burst bytes before after' (Ok None) did = kept_silent (telegram_of bytes) did.0
  kept_burst bytes before after' (Ok (Some by)) did = record { lines = did.moved.lines; long = did.moved.long }

  pub step_keeps : (i : Input) (o : Output) → Step R slots a i o b → Kept a b
  step_keeps (burst bytes room) o s = kept_burst bytes s.before s.after s.result s.did
  step_keeps (put slot channel outcome) o s = record { lines = cc; long = cc }
  step_keeps (condition slot code) o s = record { lines = s.did.lines; long = cc }
  step_keeps (tick seconds) o s = record { lines = s.did.lines; long = cc }

  pub still_of_one_start : Kept a b → OfOneStart a slots → OfOneStart b slots
  still_of_one_start keeps ready = record { memory = cc; enough = omega (arith, ap (λ (t : Lines). t.count) keeps.lines, ready.enough) }
