-- What the calls besides a burst do: put, condition and tick. Assumes nothing.
use Rattle.std.specs.Prelude.{◌≡◌, ℕ, ◌+◌, ◌-◌, ◌^◌, min, Bool, cond, ◌&&◌, ◌||◌, is_ok, Ok, Err, Result, ◌==◌, nat_le, nat_lt}
use Rattle.board.specs.Meaning.{Share, Stored, kept, not_puttable, wrong_type}
use Rattle.board.specs.declared.PutRefusal.{PutRefusal}
use Rattle.board.specs.declared.PutRefusal.TheVariants.{NoSlot, NotPuttable as BoardNotPuttable, WrongType as BoardWrongType}
use Rattle.readings.specs.declared.outcome.Outcome.{Outcome}
use Rattle.station.specs.declared.Record.{Record}
use Rattle.head.specs.State.{stations, record_at}
use Rattle.head.specs.declared.refusal.PutFault.{PutFault}
use Rattle.head.specs.declared.refusal.PutFault.TheVariants.{TooFewSlots, NoStation, NotPuttable, WrongType}
use Rattle.head.specs.declared.refusal.ConditionFault.{ConditionFault}
use Rattle.head.specs.declared.refusal.ConditionFault.TheVariants.{NoStation as NoSuchStation, NoSuchCode}
use Rattle.head.specs.declared.state.Head.{Head}

-- every refusal with its number
abbrev pub put_number : PutFault → ℕ
put_number TooFewSlots = 12
put_number NoStation = 20
put_number NotPuttable = 21
put_number WrongType = 22

abbrev pub condition_number : ConditionFault → ℕ
condition_number NoSuchStation = 20
condition_number NoSuchCode = 23

-- what the head refuses where the board refuses a put
abbrev pub put_fault : PutRefusal → PutFault
put_fault NoSlot = NoStation
put_fault BoardNotPuttable = NotPuttable
put_fault BoardWrongType = WrongType

-- what a put answers where the board's rule says so,
abbrev pub put_by : Stored → Result (Unit {0}) PutFault
put_by (kept s) = Ok tt
put_by not_puttable = Err NotPuttable
put_by wrong_type = Err WrongType

-- and the share that it leaves
abbrev pub share_by : Stored → Share → Share
share_by (kept s) before = s
share_by not_puttable before = before
share_by wrong_type before = before

-- a put on a slot of a head with so many stations, over a board with so many slots and these shares
pub record Putting (stored : Share → ℕ → Outcome → Stored) (stations slots : ℕ) (before after : ℕ → Share) (slot channel : ℕ) (outcome : Outcome) (r : Result (Unit {0}) PutFault) : Type 0 where
  pub answer : r ≡ cond (nat_le stations slots) (cond (nat_lt slot stations) (put_by (stored (before slot) channel outcome)) (Err NoStation)) (Err TooFewSlots)
  pub share : (k : ℕ) → after k ≡ cond (nat_le stations slots && nat_lt slot stations && k == slot) (share_by (stored (before slot) channel outcome) (before slot)) (before k)

-- The codes of the manual's clause "Status and Error Codes", and no other.
abbrev pub within : ℕ → ℕ → ℕ → Bool
within low high c = nat_le low c && nat_le c high

abbrev pub listed : ℕ → Bool
listed c =
    (c == 0x00) || within 0x10 0x15 c || within 0x20 0x2F c || within 0x30 0x39 c || within 0x50 0x56 c || within 0x60 0x64 c || c == 0xFF

-- a condition for a slot of a head with so many stations
abbrev pub conditioned : ℕ → ℕ → ℕ → Result (Unit {0}) ConditionFault
conditioned stations slot code = cond (nat_lt slot stations) (cond (listed code) (Ok tt) (Err NoSuchCode)) (Err NoSuchStation)

abbrev pub with_code : Record → ℕ → Record
with_code rec code = record { clock = rec.clock; condition = code; last = rec.last }

-- a condition changes the record of its slot and no other
pub record Conditioning (before after : Head) (slot code : ℕ) (r : Result (Unit {0}) ConditionFault) : Type 0 where
  pub lines : after.lines ≡ before.lines
  pub answer : r ≡ conditioned (stations before) slot code
  pub records : (k : ℕ) → record_at after k ≡ cond (is_ok r && k == slot) (with_code (record_at before k) code) (record_at before k)

-- a clock stops at FFFFFFFFh
abbrev pub ticked : Record → ℕ → Record
ticked rec seconds = record { clock = min (rec.clock + seconds) (2 ^ 32 - 1); condition = rec.condition; last = rec.last }

-- a tick moves the clock of every station
pub record Ticking (before after : Head) (seconds : ℕ) : Type 0 where
  pub lines : after.lines ≡ before.lines
  pub records : (k : ℕ) → record_at after k ≡ cond (nat_lt k (stations before)) (ticked (record_at before k) seconds) (record_at before k)
