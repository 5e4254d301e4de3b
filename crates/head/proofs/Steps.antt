-- One slot after the other. Assumes nothing.
use Rattle.std.proofs.Common.{◌≡◌, ℕ, ◌+◌, cond, ltb, List, sym, ap, ◌∙◌, inl, inr, arith}
use Rattle.std.proofs.lemmas.Bool.{cond-true, cond-false, lt-ltb, le-ltb, cases_order}
use Rattle.board.specs.Meaning.{Share}
use Rattle.station.specs.Model.{station_of}
use Rattle.station.specs.declared.Record.{Record}
use Rattle.station.specs.declared.StationLine.{StationLine}

-- what happens to the one at `slot` happens to all below `slot + 1`
pub one_slot_more : {A : Type 0} (T : A → A) (e x x' : A) (k slot : ℕ) → x ≡ cond (ltb k slot) (T e) e → ((k ≡ slot → ⊥) → x' ≡ x) → (k ≡ slot → x' ≡ T x) → x' ≡ cond (ltb k (slot + 1)) (T e) e
one_slot_more T e x x' k slot so_far stays turns =
    elim (cases_order k slot) [
      | inl here ↦
          turns here ∙ ap T (so_far ∙ cond-false (ltb k slot) (T e) e (le-ltb k slot (omega arith)))
          ∙ sym (cond-true (ltb k (slot + 1)) (T e) e (lt-ltb k (slot + 1) (omega arith)))
      | inr other ↦
          elim other [
            | inl below ↦
                stays (λ h. omega arith) ∙ so_far ∙ cond-true (ltb k slot) (T e) e (lt-ltb k slot below)
                ∙ sym (cond-true (ltb k (slot + 1)) (T e) e (lt-ltb k (slot + 1) (omega arith)))
            | inr above ↦
                stays (λ h. omega arith) ∙ so_far ∙ cond-false (ltb k slot) (T e) e (le-ltb k slot (omega arith))
                ∙ sym (cond-false (ltb k (slot + 1)) (T e) e (le-ltb k (slot + 1) (omega arith)))
          ]
    ]

-- a station of the same record and share
pub same_station : (l : StationLine) (r r' : Record) (settings : List ℕ) (s s' : Share) → r' ≡ r → s' ≡ s → station_of l r' settings s' ≡ station_of l r settings s
same_station l r r' settings s s' hr hs =
    ap (λ (x : Record). station_of l x settings s') hr ∙ ap (λ (x : Share). station_of l r settings x) hs
