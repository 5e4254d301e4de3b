-- What is asked of one record, and where the record of a slot's channel stands. Assumes nothing.
use Rattle.std.specs.Prelude.{◌≡◌, ℕ, ◌<◌, Bool, true, not, ◌&&◌, List, length, ◌==◌, nat_lt, slice_index_or}
use Rattle.readings.specs.Codes.{kind_code}
use Rattle.readings.specs.Outcomes.{code_of}
use Rattle.readings.specs.Values.{kind_of}
use Rattle.readings.specs.declared.kind.Kind.TheVariants as K
use Rattle.readings.specs.declared.outcome.Outcome.{Outcome}
use Rattle.readings.specs.declared.outcome.Outcome.TheVariants.{Value, Fault}
use Rattle.readings.specs.declared.reading.Reading.TheVariants as V
use Rattle.table.specs.declared.record.Record.{Record}

-- fault 24h, which says that there is no such channel
abbrev pub is_absent : Outcome → Bool
is_absent o = code_of o == 0x24

-- a value has the type with this code; a fault may stand for a value of any type
abbrev pub is_of_type : ℕ → Outcome → Bool
is_of_type code (Value v) = kind_code (kind_of v) == code
is_of_type code (Fault f) = true

-- the record at a place of the list; past its end, which no use reaches, some record
abbrev pub at : List Record → ℕ → Record
at rs k = slice_index_or rs k (record { slot = 0; channel = 0; kind = K.U8; outcome = Value (V.U8 0) })

-- slots are 0 to 31, channels 0 to 65534
abbrev pub in_range : Record → Bool
in_range r = nat_lt r.slot 32 && nat_lt r.channel 65535

-- fault 24h is no record's outcome
abbrev pub present : Record → Bool
present r = not (is_absent r.outcome)

-- a value is of its record's type
abbrev pub typed : Record → Bool
typed r = is_of_type (kind_code r.kind) r.outcome

-- every record passes a test
abbrev pub AllMeet : (Record → Bool) → List Record → Type 0
AllMeet test rs = (k : ℕ) → k < length rs → test (at rs k) ≡ true

-- a record of this slot's channel
abbrev pub Of : ℕ → ℕ → Record → Type 0
Of slot channel r = (r.slot ≡ slot) × (r.channel ≡ channel)

-- the first record of the slot's channel stands at this place
pub record First (rs : List Record) (slot channel i : ℕ) : Type 0 where
  pub inside : i < length rs
  pub here : Of slot channel (at rs i)
  pub before : (k : ℕ) → k < i → Of slot channel (at rs k) → ⊥

-- there is no record of the slot's channel
pub record Missing (rs : List Record) (slot channel : ℕ) : Type 0 where
  pub nowhere : (k : ℕ) → k < length rs → Of slot channel (at rs k) → ⊥

-- two places have records of the same slot and channel
abbrev pub Repeats : List Record → ℕ → ℕ → Type 0
Repeats rs i j = (i < j) × (j < length rs) × Of (at rs j).slot (at rs j).channel (at rs i)

-- no two places have
abbrev pub Apart : List Record → Type 0
Apart rs = (i j : ℕ) → Repeats rs i j → ⊥
