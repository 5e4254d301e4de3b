-- Bytes cut out of the traffic. Assumes nothing.
use Rattle.std.proofs.Common.{◌≡◌, ℕ, ◌+◌, ◌-◌, min, List, [], length, take, drop, sym, ap, ◌∙◌, inl, inr, arith, length-drop}
use Rattle.std.proofs.lemmas.List.{take_all, drop_all}
use Rattle.std.proofs.lemmas.Bool.{cases_lt}
use Rattle.telegram.specs.Layout.{part}

-- what is cut to the list is what the list has
pub cut_is : (bytes : List ℕ) (first len s n : ℕ) → s ≡ min first (length bytes) → n ≡ min len (length bytes - s) → take (s + n - s) (drop s bytes) ≡ part bytes first len
cut_is bytes first len s n hs hn =
    let count : s + n - s ≡ n = omega arith in
    elim (cases_lt first (length bytes)) [
      | inl inside ↦
          let start : s ≡ first = omega arith in
          ap (λ (i : ℕ). take i (drop s bytes)) count ∙ ap (λ (i : ℕ). take n (drop i bytes)) start
          ∙ elim (cases_lt len (length bytes - first)) [
            | inl less ↦ ap (λ (i : ℕ). take i (drop first bytes)) (omega arith)
            | inr all ↦ take_all n (drop first bytes) (simp length-drop (omega arith)) ∙ sym (take_all len (drop first bytes) (simp length-drop (omega arith)))
          ]
      | inr past ↦
          let none : drop s bytes ≡ [] = drop_all s bytes (omega arith) in
          ap (take (s + n - s)) none ∙ take_all (s + n - s) [] (omega arith) ∙ sym (take_all len [] (omega arith)) ∙ ap (take len) (sym (drop_all first bytes past))
    ]
