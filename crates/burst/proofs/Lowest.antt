-- The telegram of a burst as a function is the one that the relation names. Assumes nothing.
use Rattle.std.proofs.Common.{◌≡◌, ℕ, zero, suc, ◌+◌, ◌<◌, ◌≤◌, true, List, length, Some, None, refl, ap, ◌∙◌, inl, inr, arith}
use Rattle.std.proofs.lemmas.Bool.{and_from, and_parts, eq-eqb, le-leb, eqb-true, leb-true, cases_Bool, cond-true, cond-false, cases_lt}
use Rattle.std.specs.Option.{option_map}
use Rattle.telegram.specs.Layout.{Stands, First, NoneStands, frame_at}
use Rattle.burst.specs.Telegram.{fits, lowest, telegram_of}
use Rattle.burst.proofs.Tests.{soh_inside}

stands_fits : (s : List ℕ) (p : ℕ) → Stands s p → fits s p ≡ true
unfolding fits
stands_fits s p t =
    and_from _ _ (and_from _ _ (and_from _ _ (and_from _ _ (and_from _ _ (and_from _ _ (and_from _ _
    (eq-eqb _ _ t.soh) (le-leb _ _ t.least)) (le-leb _ _ t.most)) (le-leb _ _ t.whole)) (eq-eqb _ _ t.stx))
    (eq-eqb _ _ t.etx)) (eq-eqb _ _ t.eot)) (eq-eqb _ _ t.checked)

fits_stands : (s : List ℕ) (p : ℕ) → fits s p ≡ true → Stands s p
unfolding fits
fits_stands s p h =
    let all = and_parts _ _ h in
    let b = and_parts _ _ all.0 in
    let c = and_parts _ _ b.0 in
    let d = and_parts _ _ c.0 in
    let e = and_parts _ _ d.0 in
    let f = and_parts _ _ e.0 in
    let g = and_parts _ _ f.0 in
    record {
      soh = eqb-true _ _ g.0;
      least = leb-true _ _ g.1;
      most = leb-true _ _ f.1;
      whole = leb-true _ _ e.1;
      stx = eqb-true _ _ d.1;
      etx = eqb-true _ _ c.1;
      eot = eqb-true _ _ b.1;
      checked = eqb-true _ _ all.1;
    }

-- where none stands below q and one does at q, the search from p finds q
finds : (s : List ℕ) (q p n : ℕ) → p ≤ q → q < p + n → Stands s q → ((k : ℕ) → p ≤ k → k < q → Stands s k → ⊥) → lowest s p n ≡ Some q
unfolding lowest
finds s q p zero a b t none = absurd (omega arith)
finds s q p (suc n) a b t none =
    elim (cases_lt p q) [
      | inl below ↦
          elim (cases_Bool (fits s p)) [
            | inl yes_here ↦ absurd (none p (omega arith) below (fits_stands s p yes_here))
            | inr not_here ↦
                cond-false (fits s p) (Some p) (lowest s (p + 1) n) not_here
                ∙ finds s q (p + 1) n (omega arith) (omega arith) t (λ k x y. none k (omega arith) y)
          ]
      | inr here ↦
          let e : p ≡ q = omega arith in
          cond-true (fits s p) (Some p) (lowest s (p + 1) n) (ap (fits s) e ∙ stands_fits s q t) ∙ ap Some e
    ]

finds_none : (s : List ℕ) (p n : ℕ) → NoneStands s → lowest s p n ≡ None
unfolding lowest
finds_none s p zero none = refl
finds_none s p (suc n) none =
    elim (cases_Bool (fits s p)) [
      | inl yes_here ↦ absurd (none p (fits_stands s p yes_here))
      | inr not_here ↦ cond-false (fits s p) (Some p) (lowest s (p + 1) n) not_here ∙ finds_none s (p + 1) n none
    ]

pub first_is : (s : List ℕ) (p : ℕ) → First s p → telegram_of s ≡ Some (frame_at s p)
unfolding telegram_of
first_is s p first =
    ap (option_map (frame_at s))
    (finds s p 0 (length s) (omega arith) (omega (arith, soh_inside s p first.0.soh)) first.0 (λ k a b t. first.1 k b t))

pub none_is : (s : List ℕ) → NoneStands s → telegram_of s ≡ None
unfolding telegram_of
none_is s none = ap (option_map (frame_at s)) (finds_none s 0 (length s) none)
