-- The worked cases on telegrams. Where none stands, one test is computed at every position.
-- Assumes nothing.
use Rattle.std.proofs.Common.{◌≡◌, ℕ, zero, suc, ◌+◌, ◌<◌, Bool, true, not, ◌&&◌, eqb, leb, List, ◌∷◌, length, refl, inl, inr, arith, lit≤}
use Rattle.std.proofs.lemmas.List.{get_or_past}
use Rattle.std.proofs.lemmas.Bool.{cases_lt, and_parts, and_from, eq-eqb, le-leb, both_ways, not-true}
use Rattle.checksum.specs.Crc.{crc, updated, bits_in, bit_in, shifted}
use Rattle.telegram.specs.Layout.{at, word, part, len, Stands, NoneStands}
use Rattle.worked.specs.Cases as spec

-- a test that every telegram passes
passes : List ℕ → ℕ → Bool
passes s p =
    eqb (at s p) 0x01 && leb (len s p) 212 && eqb (at s (p + 7)) 0x02 && eqb (word s (p + (9 + len s p))) (crc (part s p (9 + len s p)))

stands_passes : (s : List ℕ) (p : ℕ) → Stands s p → passes s p ≡ true
unfolding passes
stands_passes s p t =
    and_from _ _ (and_from _ _ (and_from _ _ (eq-eqb _ _ t.soh) (le-leb _ _ t.most)) (eq-eqb _ _ t.stx)) (eq-eqb _ _ t.checked)

-- no position below n passes
none_passes : List ℕ → ℕ → Bool
none_passes s zero = true
none_passes s (suc n) = not (passes s n) && none_passes s n

none_below : (s : List ℕ) (n : ℕ) → none_passes s n ≡ true → (q : ℕ) → q < n → Stands s q → ⊥
unfolding none_passes
none_below s zero h q less t = omega arith
none_below s (suc n) h q less t =
    let parts = and_parts (not (passes s n)) (none_passes s n) h in
    elim (cases_lt q n) [
      | inl below ↦ none_below s n parts.1 q below t
      | inr here ↦
          let e : q ≡ n = omega arith in
          both_ways (passes s n) (not-true (passes s n) parts.0) (rw e at (stands_passes s q t))
    ]

none_stands : (s : List ℕ) → none_passes s (length s) ≡ true → NoneStands s
none_stands s h q t =
    elim (cases_lt q (length s)) [
      | inl inside ↦ none_below s (length s) h q inside t
      | inr past ↦ omega (arith, get_or_past s q 0 past, t.soh)
    ]

fits_request : Stands (spec.frame 0x61 0xD9) 0
unfolding crc updated bits_in bit_in shifted
fits_request =
    record
    { soh = refl; least = lit≤ tt; most = lit≤ tt; whole = lit≤ tt; stx = refl; etx = refl; eot = refl; checked = refl }

fits_moved : Stands (0x01 ∷ spec.frame 0x61 0xD9) 1
unfolding crc updated bits_in bit_in shifted
fits_moved =
    record
    { soh = refl; least = lit≤ tt; most = lit≤ tt; whole = lit≤ tt; stx = refl; etx = refl; eot = refl; checked = refl }

pub telegrams : spec.Telegrams
unfolding passes none_passes crc updated bits_in bit_in shifted
telegrams =
    record {
      stands = (fits_request, λ q less. absurd (omega arith));
      swapped = none_stands (spec.frame 0xD9 0x61) refl;
      moved = (fits_moved, none_below (0x01 ∷ spec.frame 0x61 0xD9) 1 refl);
    }
