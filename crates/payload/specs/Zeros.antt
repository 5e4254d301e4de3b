-- A list of bytes that only zeros follow gives the whole memory back. Assumes nothing.
use Rattle.std.specs.Prelude.{◌≡◌, ℕ, ◌-◌, ◌≤◌, List, ◌++◌, length, take, drop, replicate}
use Rattle.std.proofs.Common.{sym, ap, ◌∙◌, subst, take-append-drop, length-take-le}

pub length_given : (n len : ℕ) (bytes : List ℕ) → length bytes ≡ n → len ≤ n → length (take len bytes) ≡ len
length_given n len bytes all fits = length-take-le len bytes (subst (λ k. len ≤ k) (sym all) fits)

pub bytes_given : (n len : ℕ) (bytes : List ℕ) → length bytes ≡ n → len ≤ n → drop len bytes ≡ replicate (n - len) 0
    → take len bytes ++ replicate (n - length (take len bytes)) 0 ≡ bytes
bytes_given n len bytes all fits clear =
    ap (λ k. take len bytes ++ replicate (n - k) 0) (length_given n len bytes all fits)
    ∙ (ap (λ (ys : List ℕ). take len bytes ++ ys) (sym clear) ∙ take-append-drop len bytes)
