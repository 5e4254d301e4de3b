-- THE LAW ABOUT NEIGHBOURS: whoever acts on other stations cannot be noticed at a given one. Assumes nothing.
use Rattle.std.specs.Prelude.{◌≡◌, ℕ, ◌<◌, Bool, true, false, cond, ◌||◌, List, [], ◌∷◌, Some, None, Option, ◌==◌, ◌≢◌}
use Rattle.board.specs.Meaning.{Rules}
use Rattle.address.specs.Addressing.{reaches}
use Rattle.burst.specs.Telegram.{telegram_of}
use Rattle.head.specs.Burst.{Cabinet, number}
use Rattle.head.specs.Calls.{put_number, condition_number}
use Rattle.head.specs.State.{stations, record_at, settings_at, station_at}
use Rattle.lines.specs.Making.{line_at}
use Rattle.station.specs.Model.{Station}
use Rattle.telegram.specs.Layout.{Frame}
use Rattle.runs.specs.Calls.{Input, burst, put, condition, tick, Output, waiting, silence, reply, done, burst_refused, put_refused, condition_refused, Exchange}
use Rattle.runs.specs.Feeding.{Event, a_burst, a_put, a_condition, a_tick, Said, nothing, replied, refused, after_all, says_all}
use Rattle.runs.specs.Runs.{Run, OfOneStart}

-- a telegram that names the station of this address or is a broadcast to it, whoever sent it
abbrev pub concerns : ℕ → Option Frame → Bool
concerns address None = false
concerns address (Some f) = f.receiver == address || reaches f.receiver address

-- THE CALLS FOR A SLOT whose station has this address: bursts, refused ones too, whose telegram concerns it, puts and
-- conditions that name the slot, and every tick
abbrev pub for_slot : ℕ → ℕ → Input → Bool
for_slot k address (burst bytes room) = concerns address (telegram_of bytes)
for_slot k address (put slot channel outcome) = slot == k
for_slot k address (condition slot code) = slot == k
for_slot k address (tick seconds) = true

-- Such a call as the model station gets it. Only the slot's number is left out, so of two calls for one slot all arguments
-- are equal just if these are.
abbrev pub event_of : Input → Event
event_of (burst bytes room) = a_burst bytes room
event_of (put slot channel outcome) = a_put channel outcome
event_of (condition slot code) = a_condition code
event_of (tick seconds) = a_tick seconds

-- what of an output is the station's in slot k: its own reply, or a refusal by its number
abbrev pub said_at : ℕ → Output → Said
said_at k waiting = nothing
said_at k silence = nothing
said_at k (reply slot bytes) = cond (slot == k) (replied bytes) nothing
said_at k done = nothing
said_at k (burst_refused e) = refused (number e)
said_at k (put_refused e) = refused (put_number e)
said_at k (condition_refused e) = refused (condition_number e)

-- the calls for a slot, in their order,
abbrev pub events : ℕ → ℕ → List Exchange → List Event
events k address [] = []
events k address (x ∷ xs) =
    cond (for_slot k address x.brought) (event_of x.brought ∷ events k address xs) (events k address xs)

-- and what was said at each of them
abbrev pub answers : ℕ → ℕ → List Exchange → List Said
answers k address [] = []
answers k address (x ∷ xs) =
    cond (for_slot k address x.brought) (said_at k x.drew ∷ answers k address xs) (answers k address xs)

-- no other call draws a reply of the station in slot k
abbrev pub NoOtherReply : ℕ → ℕ → List Exchange → Type 0
NoOtherReply k address [] = Unit {0}
NoOtherReply k address (x ∷ xs) =
    (for_slot k address x.brought ≡ false → (bytes : List ℕ) → x.drew ≢ reply k bytes) × NoOtherReply k address xs

abbrev pub address_at : Cabinet → ℕ → ℕ
address_at a k = (line_at a.head.lines k).address.0

abbrev pub station_in : Cabinet → ℕ → Station
station_in a k = station_at a.head a.memory a.shares k

-- What the calls of a run made of the station in slot k, and what it said, are those of the model station fed only the
-- calls for it.
pub record AsTheModel (R : Rules) (a b : Cabinet) (xs : List Exchange) (k : ℕ) : Type 0 where
  pub ends : station_in b k ≡ after_all R (station_in a k) (events k (address_at a k) xs)
  pub says : answers k (address_at a k) xs ≡ says_all R (station_in a k) (events k (address_at a k) xs)
  pub others : NoOtherReply k (address_at a k) xs

-- Two cabinets are alike in slot k: station line, record, settings and share. (The records of two new heads are equal: all 0.)
pub record Alike (a a' : Cabinet) (k : ℕ) : Type 0 where
  pub there : k < stations a'.head
  pub line : line_at a'.head.lines k ≡ line_at a.head.lines k
  pub state : record_at a'.head k ≡ record_at a.head k
  pub settings : settings_at a'.head a'.memory k ≡ settings_at a.head a.memory k
  pub share : a'.shares k ≡ a.shares k

-- Two runs agree on slot k: replies and refusals at its calls byte by byte, and its record, settings and share at the end.
pub record Agree (a b : Cabinet) (xs : List Exchange) (b' : Cabinet) (xs' : List Exchange) (k : ℕ) : Type 0 where
  pub says : answers k (address_at a k) xs' ≡ answers k (address_at a k) xs
  pub state : record_at b'.head k ≡ record_at b.head k
  pub settings : settings_at b'.head b'.memory k ≡ settings_at b.head b.memory k
  pub share : b'.shares k ≡ b.shares k

-- Every other run over a board of the same make that starts alike in slot k and brings it the same calls in the same order,
-- whatever goes to the others, agrees with this one.
abbrev pub Unnoticed : Rules → Cabinet → Cabinet → List Exchange → ℕ → Type 0
Unnoticed R a b xs k =
    (slots' : ℕ) (a' b' : Cabinet) (xs' : List Exchange) → OfOneStart a' slots' → Run R slots' a' xs' b' → Alike a a' k
    → events k (address_at a k) xs' ≡ events k (address_at a k) xs → Agree a b xs b' xs' k

-- THE LAW, for a run and every slot that has a station
abbrev pub Law : Rules → Cabinet → Cabinet → List Exchange → Type 0
Law R a b xs = (k : ℕ) → k < stations a.head → AsTheModel R a b xs k × Unnoticed R a b xs k
