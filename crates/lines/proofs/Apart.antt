-- What the rules of a sound table say of two slots. Assumes nothing.
use Rattle.std.proofs.Common.{◌≡◌, ℕ, zero, suc, ◌+◌, ◌<◌, ◌≤◌, min, max, Bool, true, ◌&&◌, leb, List, [], ◌∷◌, length, get_or, take, sym, ap, ◌∙◌, inl, inr, arith, length-take}
use Rattle.std.proofs.lemmas.List.{get_or-take}
use Rattle.std.proofs.lemmas.Bool.{and_parts, leb-true, eqb-false, not-true, cases_order}
use Rattle.address.specs.Addressing.{station}
use Rattle.std.specs.List.{list_all}
use Rattle.station.specs.declared.StationLine.{StationLine}
use Rattle.lines.specs.declared.table.Lines.{Lines}
use Rattle.lines.specs.Making.{line_at, no_line}
use Rattle.lines.specs.Rules.{few, every_two, is_station, differ, good_window, apart}

every_at : (t : StationLine → Bool) (xs : List StationLine) (k : ℕ) (d : StationLine) → list_all t xs ≡ true → k < length xs → t (get_or xs k d) ≡ true
every_at t [] k d h less = absurd (omega arith)
every_at t (x ∷ xs) zero d h less = (and_parts (t x) (list_all t xs) h).0
every_at t (x ∷ xs) (suc k) d h less = every_at t xs k d (and_parts (t x) (list_all t xs) h).1 (omega arith)

two_at : (t : StationLine → StationLine → Bool) (xs : List StationLine) (i j : ℕ) (d : StationLine) → every_two t xs ≡ true → i < j → j < length xs → t (get_or xs i d) (get_or xs j d) ≡ true
two_at t [] i j d h a b = absurd (omega arith)
two_at t (x ∷ xs) i zero d h a b = absurd (omega arith)
two_at t (x ∷ xs) zero (suc j) d h a b = every_at (t x) xs j d (and_parts (list_all (t x) xs) (every_two t xs) h).0 (omega arith)
two_at t (x ∷ xs) (suc i) (suc j) d h a b = two_at t xs i j d (and_parts (list_all (t x) xs) (every_two t xs) h).1 (omega arith) (omega arith)

module _ (t : Lines) where
  abbrev ls : List StationLine
  ls = take t.count t.lines

  in_table : (k : ℕ) → k < t.count → k < length ls
  in_table k h = simp length-take (omega (arith, t.few, t.long))

  same_line : (k : ℕ) → k < t.count → get_or ls k no_line ≡ line_at t k
  same_line k h = get_or-take t.count t.lines k no_line h

  disjoint : every_two apart ls ≡ true
  disjoint = (and_parts (few ls && list_all is_station ls && every_two differ ls && list_all (good_window t.memory) ls) (every_two apart ls) t.right).1

  first_four : few ls && list_all is_station ls && every_two differ ls && list_all (good_window t.memory) ls ≡ true
  first_four = (and_parts (few ls && list_all is_station ls && every_two differ ls && list_all (good_window t.memory) ls) (every_two apart ls) t.right).0

  good : list_all (good_window t.memory) ls ≡ true
  good = (and_parts (few ls && list_all is_station ls && every_two differ ls) (list_all (good_window t.memory) ls) first_four).1

  distinct : every_two differ ls ≡ true
  distinct =
      (and_parts (few ls && list_all is_station ls) (every_two differ ls)
      (and_parts (few ls && list_all is_station ls && every_two differ ls) (list_all (good_window t.memory) ls) first_four).0).1

  all_stations : list_all is_station ls ≡ true
  all_stations =
      (and_parts (few ls) (list_all is_station ls)
      (and_parts (few ls && list_all is_station ls) (every_two differ ls)
      (and_parts (few ls && list_all is_station ls && every_two differ ls) (list_all (good_window t.memory) ls) first_four).0).0).1

  -- the address of a slot is a station's
  pub station_there : (k : ℕ) → k < t.count → station (line_at t k).address.0 ≡ true
  station_there k h = ap is_station (sym (same_line k h)) ∙ every_at is_station ls k no_line all_stations (in_table k h)

  -- the window of a slot lies in the memory
  pub window_inside : (k : ℕ) → k < t.count → (line_at t k).first + (line_at t k).size ≤ t.memory
  window_inside k h =
      let fine : good_window t.memory (line_at t k) ≡ true =
      ap (good_window t.memory) (sym (same_line k h)) ∙ every_at (good_window t.memory) ls k no_line good (in_table k h) in
      let l : StationLine = line_at t k in
      let first_two = and_parts (leb l.size 4096 && leb (l.first + l.size) t.memory) (leb l.protected l.size) fine in
      leb-true (l.first + l.size) t.memory (and_parts (leb l.size 4096) (leb (l.first + l.size) t.memory) first_two.0).1

  two_lines : (test : StationLine → StationLine → Bool) → every_two test ls ≡ true → (i j : ℕ) → i < j → j < t.count → test (line_at t i) (line_at t j) ≡ true
  two_lines test h i j a b =
      let first : get_or ls i no_line ≡ line_at t i = same_line i (omega arith) in
      let second : get_or ls j no_line ≡ line_at t j = same_line j b in
      ap (λ (l : StationLine). test l (line_at t j)) (sym first) ∙ ap (test (get_or ls i no_line)) (sym second)
      ∙ two_at test ls i j no_line h a (in_table j b)

  -- no two slots have one address
  pub addresses_differ : (i j : ℕ) → i < t.count → j < t.count → (line_at t i).address.0 ≡ (line_at t j).address.0 → i ≡ j
  addresses_differ i j a b same =
      elim (cases_order i j) [
        | inl equal ↦ equal
        | inr other ↦
            elim other [
              | inl less ↦ absurd (eqb-false (line_at t i).address.0 (line_at t j).address.0 (not-true _ (two_lines differ distinct i j less b)) same)
              | inr more ↦ absurd (eqb-false (line_at t j).address.0 (line_at t i).address.0 (not-true _ (two_lines differ distinct j i more a)) (sym same))
            ]
      ]

  -- the windows of two slots share no byte
  pub windows_apart : (i j : ℕ) → i < t.count → j < t.count → (i ≡ j → ⊥) → min ((line_at t i).first + (line_at t i).size) ((line_at t j).first + (line_at t j).size) ≤ max (line_at t i).first (line_at t j).first
  windows_apart i j a b apart_from =
      elim (cases_order i j) [
        | inl equal ↦ absurd (apart_from equal)
        | inr other ↦
            elim other [
              | inl less ↦ leb-true _ _ (two_lines apart disjoint i j less b)
              | inr more ↦ omega (arith, leb-true _ _ (two_lines apart disjoint j i more a))
            ]
      ]
