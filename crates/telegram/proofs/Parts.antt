-- A part of a burst that may reach past its end. Assumes nothing.
use Rattle.std.proofs.Common.{◌≡◌, ℕ, ◌+◌, ◌-◌, ◌≤◌, min, List, [], length, take, drop, sym, ◌∙◌, inl, inr, zero-le, arith, length-drop}
use Rattle.std.proofs.lemmas.List.{take_all, take_rest, drop_all}
use Rattle.std.proofs.lemmas.Bool.{cases_lt}

-- what lies past the end is no part
pub clamped : (s : List ℕ) (i n a b : ℕ) → a ≡ min i (length s) → b ≡ min (i + n) (length s) → take (b - a) (drop a s) ≡ take n (drop i s)
clamped s i n a b from to =
    elim (cases_lt i (length s)) [
      | inl in-burst ↦
          let a_is : a ≡ i = omega arith in
          elim (cases_lt (i + n) (length s)) [
            | inl whole ↦ let count : b - a ≡ n = omega arith in rw (count, a_is)
            | inr cut ↦
                let count : b - a ≡ length s - i = omega arith in
                let few : length (drop i s) ≤ n = simp length-drop (omega arith) in
                rw (count, a_is) (take_rest s i ∙ sym (take_all n (drop i s) few))
          ]
      | inr past ↦
          let a_is : a ≡ length s = omega arith in
          let none : drop i s ≡ [] = drop_all i s past in
          let none_there : drop (length s) s ≡ [] = drop_all (length s) s (omega arith) in
          rw (a_is, none, none_there) (take_all (b - length s) [] zero-le ∙ sym (take_all n [] zero-le))
    ]
