-- What the call `burst` does, for every input. Assumes nothing.
use Rattle.std.specs.Prelude.{◌≡◌, ℕ, ◌+◌, ◌<◌, ◌≤◌, Bool, true, false, List, ◌++◌, length, drop, Some, None, Ok, Err, Option, Result, ◌≢◌, slice_index}
use Rattle.address.specs.Addressing.{controller}
use Rattle.board.specs.Meaning.{Rules, Share, Same}
use Rattle.burst.specs.Telegram.{telegram_of}
use Rattle.lines.specs.Making.{line_at}
use Rattle.station.specs.Model.{answered}
use Rattle.telegram.specs.Layout.{Frame, frame_bytes}
use Rattle.head.specs.Bursts.{heard, reply_to}
use Rattle.head.specs.State.{stations, record_at, station_at}
use Rattle.head.specs.declared.arrival.Answered.{Answered}
use Rattle.head.specs.declared.refusal.BurstFault.{BurstFault}
use Rattle.head.specs.declared.refusal.BurstFault.TheVariants.{TooLong, ReplyTooShort, OtherMemory, TooFewSlots}
use Rattle.head.specs.declared.state.Head.{Head}

abbrev pub number : BurstFault → ℕ
number TooLong = 10
number ReplyTooShort = 11
number OtherMemory = 12
number TooFewSlots = 12

-- head, memory and shares of one moment
pub record Cabinet : Type 0 where
  pub head : Head
  pub memory : List ℕ
  pub shares : ℕ → Share

abbrev pub cabinet : Head → List ℕ → (ℕ → Share) → Cabinet
cabinet head memory shares = record { head = head; memory = memory; shares = shares }

-- nothing moved
pub record Stayed (a b : Cabinet) : Type 0 where
  pub lines : b.head.lines ≡ a.head.lines
  pub records : (k : ℕ) → record_at b.head k ≡ record_at a.head k
  pub memory : b.memory ≡ a.memory
  pub shares : Same a.shares b.shares

-- whether a byte of the memory belongs to the window of a slot
abbrev pub InWindow : Head → ℕ → ℕ → Type 0
InWindow h k i = ((line_at h.lines k).first ≤ i) × (i < (line_at h.lines k).first + (line_at h.lines k).size)

-- A telegram has made of every station what it makes of the model station, and nothing else moved: no byte outside every
-- window, no share of a slot without a station.
pub record Moved (R : Rules) (f : Frame) (a b : Cabinet) : Type 0 where
  pub lines : b.head.lines ≡ a.head.lines
  pub station : (k : ℕ) → k < stations a.head → station_at b.head b.memory b.shares k ≡ heard R (station_at a.head a.memory a.shares k) f
  pub long : length b.memory ≡ length a.memory
  pub bytes : (i : ℕ) → ((k : ℕ) → k < stations a.head → InWindow a.head k i → ⊥) → slice_index b.memory i ≡ slice_index a.memory i
  pub shares : (k : ℕ) → stations a.head ≤ k → b.shares k ≡ a.shares k

-- when a burst is refused, in this order
abbrev pub Refused : Cabinet → ℕ → List ℕ → List ℕ → BurstFault → Type 0
Refused a slots burst reply TooLong = 512 < length burst
Refused a slots burst reply ReplyTooShort = (length burst ≤ 512) × (length reply < 224)
Refused a slots burst reply OtherMemory = (length burst ≤ 512) × (224 ≤ length reply) × (length a.memory ≢ a.head.lines.memory)
Refused a slots burst reply TooFewSlots =
    (length burst ≤ 512) × (224 ≤ length reply) × (length a.memory ≡ a.head.lines.memory) × (slots < stations a.head)

-- when it is not
pub record Accepted (a : Cabinet) (slots : ℕ) (burst reply : List ℕ) : Type 0 where
  pub short : length burst ≤ 512
  pub room : 224 ≤ length reply
  pub memory : length a.memory ≡ a.head.lines.memory
  pub enough : stations a.head ≤ slots

-- a silence: no telegram, or one that no station is addressed by
abbrev pub Silent : Rules → Cabinet → Cabinet → Option Frame → Type 0
Silent R a b None = Stayed a b
Silent R a b (Some f) =
    Moved R f a b × (controller f.sender ≡ true → (k : ℕ) → k < stations a.head → (line_at a.head.lines k).address.0 ≢ f.receiver)

-- the reply of the station in a slot, at the front of the buffer
pub record Answering (R : Rules) (f : Frame) (a : Cabinet) (reply reply' : List ℕ) (answer : Answered) : Type 0 where
  pub there : answer.slot < stations a.head
  pub named : (line_at a.head.lines answer.slot).address.0 ≡ f.receiver
  pub count : answer.length ≡ length (frame_bytes (reply_to f (answered R (station_at a.head a.memory a.shares answer.slot) f).payload))
  pub bytes : reply' ≡ frame_bytes (reply_to f (answered R (station_at a.head a.memory a.shares answer.slot) f).payload) ++ drop answer.length reply

-- what a controller's telegram does
abbrev pub Served : Rules → Frame → Cabinet → Cabinet → List ℕ → List ℕ → Option Answered → Type 0
Served R f a b reply reply' None = Moved R f a b × ((k : ℕ) → k < stations a.head → (line_at a.head.lines k).address.0 ≢ f.receiver) × (reply' ≡ reply)
Served R f a b reply reply' (Some answer) = Moved R f a b × Answering R f a reply reply' answer

-- a reply of the station that is addressed
pub record Replied (R : Rules) (a b : Cabinet) (burst reply reply' : List ℕ) (answered_by : Answered) : Type 0 where
  pub telegram : Frame
  pub stands : telegram_of burst ≡ Some telegram
  pub asked : controller telegram.sender ≡ true
  pub moved : Moved R telegram a b
  pub answer : Answering R telegram a reply reply' answered_by

-- WHAT A BURST DOES
abbrev pub Bursting : Rules → Cabinet → Cabinet → ℕ → List ℕ → List ℕ → List ℕ → Result (Option Answered) BurstFault → Type 0
Bursting R a b slots burst reply reply' (Err e) = Refused a slots burst reply e × Stayed a b × (reply' ≡ reply)
Bursting R a b slots burst reply reply' (Ok None) = Silent R a b (telegram_of burst) × (reply' ≡ reply)
Bursting R a b slots burst reply reply' (Ok (Some answer)) = Replied R a b burst reply reply' answer

-- besides, of a silent or answered burst no refusal applied, and a reply has at most 224 bytes
abbrev pub Accepting : Cabinet → ℕ → List ℕ → List ℕ → Result (Option Answered) BurstFault → Type 0
Accepting a slots burst reply (Err e) = Unit {0}
Accepting a slots burst reply (Ok None) = Accepted a slots burst reply
Accepting a slots burst reply (Ok (Some answer)) = Accepted a slots burst reply × (answer.length ≤ 224)

-- whether a station replied
abbrev pub has_replied : Result (Option Answered) BurstFault → Bool
has_replied (Err e) = false
has_replied (Ok None) = false
has_replied (Ok (Some answer)) = true
