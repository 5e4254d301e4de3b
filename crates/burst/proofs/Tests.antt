-- What the tests of the line tell of a telegram. Assumes nothing.
use Rattle.std.proofs.Common.{◌≡◌, ℕ, ◌<◌, List, length, inl, inr, arith}
use Rattle.std.proofs.lemmas.List.{get_or_past}
use Rattle.std.proofs.lemmas.Bool.{cases_lt}
use Rattle.burst.specs.declared.fault.LineFault.{LineFault}
use Rattle.burst.specs.declared.fault.LineFault.TheVariants.{NoSoh, EndsBeforeLen, LenOutOfRange, EndsTooEarly, WrongStx, WrongEtx, WrongEot, WrongChecksum}
use Rattle.telegram.specs.Layout.{at, Stands}
use Rattle.burst.specs.Reading.{Failed}

-- an SOH stands inside the burst
pub soh_inside : (s : List ℕ) (q : ℕ) → at s q ≡ 0x01 → q < length s
soh_inside s q h =
    elim (cases_lt q (length s)) [ inl inside ↦ inside | inr past ↦ omega (arith, get_or_past s q 0 past) ]

-- where a test fails no telegram stands
pub failed_none : (s : List ℕ) (p : ℕ) (f : LineFault) → Failed s p f → Stands s p → ⊥
failed_none s p (NoSoh end) h t = h
failed_none s p (EndsBeforeLen end) h t = h.0 (omega arith)
failed_none s p (LenOutOfRange i) h t = h.1 (t.least, t.most)
failed_none s p (EndsTooEarly end) h t = h.2 t.whole
failed_none s p (WrongStx i) h t = h.2 t.stx
failed_none s p (WrongEtx i) h t = h.3 t.etx
failed_none s p (WrongEot i) h t = h.4 t.eot
failed_none s p (WrongChecksum i) h t = h.5 t.checked
