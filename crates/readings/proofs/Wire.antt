-- What bytes are read as. Assumes nothing.
use Rattle.std.proofs.Common.{◌≡◌, ℕ, Bool, true, false, cond, eqb, List, [], ◌∷◌, length, get_or, IfSome, None, Some, Option, sym, refl, ap, ◌∙◌, arith, w8, Fits, eqb-true}
use Rattle.std.specs.Option.{ok_or}
use Rattle.readings.specs.declared.kind.Kind.{Kind}
use Rattle.readings.specs.declared.reading.Reading.{Reading}
use Rattle.readings.specs.declared.value.Unreadable.TheVariants.{NotANumber}
use Rattle.readings.specs.Bytes.{Reads, little_endian, pattern, weighed}
use Rattle.readings.specs.Codes.{coding, kind_at, kind_code, kinds, size_of}
use Rattle.readings.specs.Values.{kind_of}
use Rattle.readings.proofs.LittleEndian.{little_endian-weighed}

-- what a rule's table finds at a code has that code
pub coding_code : {X : Type 0} (rule : X → ℕ) (xs : List X) (code : ℕ) (x : X) → coding rule xs code ≡ Some x → rule x ≡ code
coding_code rule [] code x e = let z : ◌≡◌ {A = ℕ} 0 1 = cc in absurd (zero_one z)
  where
    zero_one : ◌≡◌ {A = ℕ} 0 1 → ⊥
    zero_one z = omega arith
coding_code rule (y ∷ ys) code x e = at (eqb code (rule y)) refl e (coding_code rule ys code x)
  where
    at : (b : Bool) → eqb code (rule y) ≡ b → cond b (Some y) (coding rule ys code) ≡ Some x → (coding rule ys code ≡ Some x → rule x ≡ code) → rule x ≡ code
    at true t e later = let s = eqb-true code (rule y) t in cc
    at false t e later = later e

-- what was read has the code and the bytes that it was read from
pub read_back : (code : ℕ) (bytes : List ℕ) (k : Kind) (o : Option Reading) (n : ℕ) → kind_at code ≡ Some k → length bytes ≡ size_of k → n ≡ weighed bytes → IfSome o (λ v. kind_of v ≡ k) → IfSome o (λ v. pattern v ≡ n)
    → ((i : ℕ) → Fits w8 (get_or bytes i 0)) → Reads code bytes (ok_or o NotANumber)
read_back code bytes k None n at len num kind pat typed = tt
read_back code bytes k (Some v) n at len num kind pat typed = (
  ap kind_code kind ∙ coding_code kind_code kinds code k at,
  ap (λ (j : Kind). little_endian (size_of j) (pattern v)) kind ∙ ap (λ (m : ℕ). little_endian m (pattern v)) (sym len) ∙ ap (little_endian (length bytes)) (pat ∙ num) ∙ little_endian-weighed bytes typed,
)
