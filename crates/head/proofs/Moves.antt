-- From what one station or a broadcast moved to what the whole cabinet became. Assumes nothing.
use Rattle.std.proofs.Common.{◌≡◌, ℕ, ◌+◌, ◌-◌, ◌<◌, ◌≤◌, min, max, true, false, List, ◌++◌, get_or, take, drop, sym, refl, ap, ◌∙◌, inl, inr, arith}
use Rattle.std.proofs.lemmas.List.{take-take, drop-drop, drop-take, take-append-drop, get_or-take, get_or-drop}
use Rattle.std.proofs.lemmas.Bool.{cases_lt, cases_eq}
use Rattle.std.proofs.lemmas.Bool.Decides.{nat_tests}
use Rattle.address.specs.Addressing.{station, reaches}
use Rattle.head.specs.Bursts.{OnlyWindow}
use Rattle.telegram.specs.Layout.{part}

-- a station's address is no broadcast
pub station_no_broadcast : (a s : ℕ) → station a ≡ true → reaches a s ≡ false
station_no_broadcast a s h = grind (arith, nat_tests)

module _ (m m' : List ℕ) (first size : ℕ) (only : OnlyWindow first size m m') where
  -- a part that ends before the window begins, or begins after it ends
  part_below : (f n : ℕ) → f + n ≤ first → part m' f n ≡ part m f n
  part_below f n h =
      let cut : (xs : List ℕ) → part xs f n ≡ drop f (take (f + n) (take first xs)) = λ xs. sym (drop-take f n xs) ∙ ap (drop f) (sym (take-take (f + n) first xs h)) in
      cut m' ∙ ap (λ (l : List ℕ). drop f (take (f + n) l)) only.below ∙ sym (cut m)

  part_above : (f n : ℕ) → first + size ≤ f → part m' f n ≡ part m f n
  part_above f n h =
      let index : first + size + (f - (first + size)) ≡ f = omega arith in
      let cut : (xs : List ℕ) → part xs f n ≡ take n (drop (f - (first + size)) (drop (first + size) xs)) = λ xs. ap (λ (i : ℕ). take n (drop i xs)) (sym index) ∙ ap (take n) (sym (drop-drop (f - (first + size)) (first + size) xs)) in
      cut m' ∙ ap (λ (l : List ℕ). take n (drop (f - (first + size)) l)) only.above ∙ sym (cut m)

  all_kept : size ≡ 0 → m' ≡ m
  all_kept none =
      let end : first + size ≡ first = omega arith in
      let rest : drop first m' ≡ drop first m = rw end at only.above in
      sym (take-append-drop first m') ∙ ap (λ (l : List ℕ). l ++ drop first m') only.below ∙ ap (λ (l : List ℕ). take first m ++ l) rest ∙ take-append-drop first m

  -- the part of a window that shares no byte with it
  pub part_kept : (f n : ℕ) → min (first + size) (f + n) ≤ max first f → part m' f n ≡ part m f n
  part_kept f n h =
      elim (cases_lt first (f + n)) [
        | inr below ↦ part_below f n below
        | inl over ↦
            elim (cases_lt f (first + size)) [
              | inr above ↦ part_above f n above
              | inl under ↦
                  elim (cases_eq n 0) [
                    | inl none ↦ rw none refl
                    | inr some ↦ ap (λ (l : List ℕ). part l f n) (all_kept (omega arith))
                  ]
            ]
      ]

  pub byte_kept : (i : ℕ) → (first ≤ i → i < first + size → ⊥) → get_or m' i 0 ≡ get_or m i 0
  byte_kept i out =
      elim (cases_lt i first) [
        | inl below ↦ sym (get_or-take first m' i 0 below) ∙ ap (λ (l : List ℕ). get_or l i 0) only.below ∙ get_or-take first m i 0 below
        | inr past ↦
            elim (cases_lt i (first + size)) [
              | inl inside ↦ absurd (out past inside)
              | inr above ↦
                  let index : first + size + (i - (first + size)) ≡ i = omega arith in
                  let cut : (xs : List ℕ) → get_or xs i 0 ≡ get_or (drop (first + size) xs) (i - (first + size)) 0 = λ xs. ap (λ (j : ℕ). get_or xs j 0) (sym index) ∙ sym (get_or-drop (first + size) xs (i - (first + size)) 0) in
                  cut m' ∙ ap (λ (l : List ℕ). get_or l (i - (first + size)) 0) only.above ∙ sym (cut m)
            ]
      ]
