-- What a call brings to a head, and what it draws from it. Assumes nothing.
use Rattle.std.specs.Prelude.{ℕ, min, List, map, Some, None, Ok, Err, Option, Result}
use Rattle.head.specs.Burst.{number}
use Rattle.head.specs.Calls.{put_number, condition_number}
use Rattle.head.specs.declared.BurstFault.{BurstFault}
use Rattle.head.specs.declared.ConditionFault.{ConditionFault}
use Rattle.head.specs.declared.PutFault.{PutFault}
use Rattle.readings.specs.declared.outcome.Outcome.{Outcome}
use Rattle.runs.specs.declared.call.Call.{Call}
use Rattle.runs.specs.declared.call.Call.TheVariants as C
use Rattle.runs.specs.declared.call.CallFault.{CallFault}
use Rattle.runs.specs.declared.call.CallFault.TheVariants as F
use Rattle.runs.specs.declared.call.Drawn.{Drawn}
use Rattle.runs.specs.declared.call.Drawn.TheVariants as D
use Rattle.runs.specs.declared.call.Entry.{Entry}

-- all arguments of a call but head, board, memory and line record; of a reply buffer its length
pub data Input : Type 0 where
  burst : List ℕ → ℕ → Input
  put : ℕ → ℕ → Outcome → Input
  condition : ℕ → ℕ → Input
  tick : ℕ → Input

pub data Output : Type 0 where
  -- the call was not made
  waiting : Output
  -- a burst that drew no reply
  silence : Output
  -- the slot of the station that replied, and the reply's bytes
  reply : ℕ → List ℕ → Output
  -- a put, a condition or a tick that was carried out
  done : Output
  burst_refused : BurstFault → Output
  put_refused : PutFault → Output
  condition_refused : ConditionFault → Output

pub record Exchange : Type 0 where
  pub brought : Input
  pub drew : Output

-- An entry of a list: a reply buffer is the front of the bytes that are lent for it.
abbrev pub input_of : ℕ → Call → Input
input_of lent (C.Burst bytes room) = burst bytes.now (min room lent)
input_of lent (C.Put slot channel outcome) = put slot channel outcome
input_of lent (C.Condition slot code) = condition slot code
input_of lent (C.Tick seconds) = tick seconds

abbrev pub output_of : Option (Result Drawn CallFault) → Output
output_of None = waiting
output_of (Some (Ok D.Silence)) = silence
output_of (Some (Ok (D.Replied r))) = reply r.slot r.bytes
output_of (Some (Ok D.Done)) = done
output_of (Some (Err (F.Burst e))) = burst_refused e
output_of (Some (Err (F.Put e))) = put_refused e
output_of (Some (Err (F.Condition e))) = condition_refused e

-- a refusal's number is that of the call that it comes from
abbrev pub fault_number : CallFault → ℕ
fault_number (F.Burst e) = number e
fault_number (F.Put e) = put_number e
fault_number (F.Condition e) = condition_number e

abbrev pub exchange_of : ℕ → Entry → Exchange
exchange_of lent e = record { brought = input_of lent e.call; drew = output_of e.told }

abbrev pub exchanges : ℕ → List Entry → List Exchange
exchanges lent entries = map (exchange_of lent) entries
