-- What reading a burst tells: the telegram that stands in it, or what is wrong with it.
-- Assumes nothing.
use Rattle.std.specs.Prelude.{◌≡◌, ℕ, ◌+◌, ◌<◌, ◌≤◌, ◌⊎◌, List, length, Some, None, Option, ◌≢◌}
use Rattle.checksum.specs.Crc.{crc}
use Rattle.burst.specs.declared.fault.Layer.TheVariants.{Line}
use Rattle.burst.specs.declared.fault.Place.{Place}
use Rattle.burst.specs.declared.fault.LineFault.{LineFault}
use Rattle.burst.specs.declared.fault.LineFault.TheVariants.{NoSoh, EndsBeforeLen, LenOutOfRange, EndsTooEarly, WrongStx, WrongEtx, WrongEot, WrongChecksum}
use Rattle.burst.specs.declared.fault.ReadFault.{ReadFault}
use Rattle.burst.specs.declared.fault.ReadFault.TheVariants.{TooLong, AtLine}
use Rattle.telegram.specs.Layout.{at, word, part, len, NoneStands}

-- What a fault tells: its number and, where it is a fault of a layer, which layer and the position in the burst.
pub record Told : Type 0 where
  pub number : ℕ
  pub place : Option Place

abbrev pub at_line : ℕ → ℕ → Told
at_line n i = record { number = n; place = Some (record { layer = Line; position = i }) }

-- Every case with its number, layer and position. The position is the first byte of the faulty field, or the end of the
-- burst where something is missing.
abbrev pub line_told : LineFault → Told
line_told (NoSoh end) = at_line 60 end
line_told (EndsBeforeLen end) = at_line 62 end
line_told (LenOutOfRange i) = at_line 61 i
line_told (EndsTooEarly end) = at_line 62 end
line_told (WrongStx i) = at_line 63 i
line_told (WrongEtx i) = at_line 63 i
line_told (WrongEot i) = at_line 63 i
line_told (WrongChecksum i) = at_line 64 i

abbrev pub told : ReadFault → Told
told TooLong = record { number = 10; place = None }
told (AtLine fault) = line_told fault

-- The tests of the line at a position p where an SOH stands, in their order: each is asked where those before it passed.
abbrev pub ReachesLen : List ℕ → ℕ → Type 0
ReachesLen s p = p + 7 ≤ length s

abbrev pub InRange : List ℕ → ℕ → Type 0
InRange s p = (2 ≤ len s p) × (len s p ≤ 212)

abbrev pub IsWhole : List ℕ → ℕ → Type 0
IsWhole s p = p + (12 + len s p) ≤ length s

abbrev pub HasStx : List ℕ → ℕ → Type 0
HasStx s p = at s (p + 7) ≡ 0x02

abbrev pub HasEtx : List ℕ → ℕ → Type 0
HasEtx s p = at s (p + (8 + len s p)) ≡ 0x03

abbrev pub HasEot : List ℕ → ℕ → Type 0
HasEot s p = at s (p + (11 + len s p)) ≡ 0x04

abbrev pub IsChecked : List ℕ → ℕ → Type 0
IsChecked s p = word s (p + (9 + len s p)) ≡ crc (part s p (9 + len s p))

-- which test failed at p, and where its field lies
abbrev pub Failed : List ℕ → ℕ → LineFault → Type 0
Failed s p (NoSoh end) = ⊥
Failed s p (EndsBeforeLen end) = (ReachesLen s p → ⊥) × (end ≡ length s)
Failed s p (LenOutOfRange i) = ReachesLen s p × (InRange s p → ⊥) × (i ≡ p + 6)
Failed s p (EndsTooEarly end) = ReachesLen s p × InRange s p × (IsWhole s p → ⊥) × (end ≡ length s)
Failed s p (WrongStx i) = InRange s p × IsWhole s p × (HasStx s p → ⊥) × (i ≡ p + 7)
Failed s p (WrongEtx i) = InRange s p × IsWhole s p × HasStx s p × (HasEtx s p → ⊥) × (i ≡ p + (8 + len s p))
Failed s p (WrongEot i) =
    InRange s p × IsWhole s p × HasStx s p × HasEtx s p × (HasEot s p → ⊥) × (i ≡ p + (11 + len s p))
Failed s p (WrongChecksum i) =
    InRange s p × IsWhole s p × HasStx s p × HasEtx s p × HasEot s p × (IsChecked s p → ⊥) × (i ≡ p + (9 + len s p))

abbrev pub FirstSoh : List ℕ → ℕ → Type 0
FirstSoh s p = (at s p ≡ 0x01) × ((q : ℕ) → q < p → at s q ≢ 0x01)

abbrev pub HasNoSoh : List ℕ → Type 0
HasNoSoh s = (q : ℕ) → at s q ≢ 0x01

-- The fault of a burst in which no telegram stands: it has no SOH, or the first SOH tells.
abbrev pub Faulty : List ℕ → LineFault → Type 0
Faulty s f = (HasNoSoh s × (f ≡ NoSoh (length s))) ⊎ ((p : ℕ) × FirstSoh s p × Failed s p f)

-- a burst has at most 512 bytes
abbrev pub IsShort : List ℕ → Type 0
IsShort s = length s ≤ 512

-- why a burst could not be read
abbrev pub Unread : List ℕ → ReadFault → Type 0
Unread s TooLong = 512 < length s
Unread s (AtLine f) = IsShort s × NoneStands s × Faulty s f
