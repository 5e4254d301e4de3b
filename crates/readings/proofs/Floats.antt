-- A float that is a number is what its own bits stand for, at either format. Assumes nothing.
use Rattle.std.proofs.Common.{◌≡◌, ℕ, ◌*◌, ◌<◌, Bool, true, false, not, T, Some, sym, refl, ap, ◌∙◌, subst}
use lib.Ieee.{Format, fits, is_nan, of_bits, to_bits, top, Float as Ieee}
use lib.Ieee.Bits.{of_bits-fits, of_bits-to_bits, to_bits-of_bits}
use Rattle.readings.specs.Values.{Maker, value_with_bits, unless}

T_prop : (b : Bool) (p q : T b) → p ≡ q
T_prop true p q = refl
T_prop false p q = absurd p

unless_made : {X : Type 0} (b : Bool) (make : T (not b) → X) (h : T (not b)) → unless b make ≡ Some (make h)
unless_made true make h = absurd h
unless_made false make h = refl

-- what is made of a float is settled by the float
made_same : (f : Format) {X : Type 0} (make : Maker f X) (v w : Ieee) → v ≡ w → (n : T (not (is_nan v))) (h : T (fits f v)) (m : T (not (is_nan w))) (k : T (fits f w)) → make v n h ≡ make w m k
made_same f {X} make v w e n h =
    let P : Ieee → Type 0 = λ u. (m : T (not (is_nan u))) (k : T (fits f u)) → make v n h ≡ make u m k in
    subst P e (λ m k. ap (λ (p : T (not (is_nan v))). make v p h) (T_prop (not (is_nan v)) n m) ∙ ap (λ (p : T (fits f v)). make v m p) (T_prop (fits f v) h k))

pub made_from_bits : (f : Format) {X : Type 0} (make : Maker f X) (bits : ℕ) (v : Ieee) (n : T (not (is_nan v))) (h : T (fits f v)) → v ≡ of_bits f bits → value_with_bits f make bits ≡ Some (make v n h)
made_from_bits f make bits v n h e =
    let number : T (not (is_nan (of_bits f bits))) = subst (λ (u : Ieee). T (not (is_nan u))) e n in
    unless_made (is_nan (of_bits f bits)) (λ m. make (of_bits f bits) m (of_bits-fits f bits)) number
    ∙ ap Some (sym (made_same f make v (of_bits f bits) e n h number (of_bits-fits f bits)))

pub made_from_own_bits : (f : Format) {X : Type 0} (make : Maker f X) (v : Ieee) (n : T (not (is_nan v))) (h : T (fits f v)) → value_with_bits f make (to_bits f v) ≡ Some (make v n h)
made_from_own_bits f make v n h = made_from_bits f make (to_bits f v) v n h (sym (of_bits-to_bits f v h))

-- and its bits are those that it came from
pub bits_back : (f : Format) (bits : ℕ) (v : Ieee) → bits < 2 * top f → T (not (is_nan v)) → v ≡ of_bits f bits → to_bits f v ≡ bits
bits_back f bits v h n e = ap (to_bits f) e ∙ to_bits-of_bits f bits h (subst (λ (u : Ieee). T (not (is_nan u))) e n)
