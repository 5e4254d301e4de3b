-- Where only zeros lie behind the first `len` bytes, only zeros lie behind more of them.
use Rattle.std.proofs.Common.{◌≡◌, ℕ, ◌+◌, ◌-◌, List, drop, replicate, sym, ap, ◌∙◌, arith, drop-drop}
use Rattle.std.proofs.lemmas.List.{drop-replicate}

pub zeros_further : (room len n : ℕ) (bytes : List ℕ) → drop len bytes ≡ replicate (room - len) 0
    → drop (len + n) bytes ≡ replicate (room - (len + n)) 0
zeros_further room len n bytes clear =
    let less : room - len - n ≡ room - (len + n) = omega arith in
    sym (drop-drop n len bytes)
    ∙ (ap (λ (zs : List ℕ). drop n zs) clear
    ∙ (drop-replicate n (room - len) 0 ∙ ap (λ k. replicate k 0) less))
