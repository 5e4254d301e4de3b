-- That no two records have the same slot and channel, by what a search before each of them found. Assumes nothing.
use Rattle.std.proofs.Common.{◌≡◌, ℕ, ◌<◌, Bool, true, false, List, [], length, Option, None, Some, MatchBool, MatchOption, get_or, take, is_none, sym, subst, ap, ◌∙◌, zero-add, length-take-le, arith}
use Rattle.std.specs.List.{AllWithin, HoldsAt, enumerate_from}
use Rattle.std.proofs.lemmas.List.{get_or-take}
use Rattle.std.proofs.lemmas.List.FromFn.{get_or-enumerate_from, length-enumerate_from}
use Rattle.std.proofs.lemmas.Bool.{true≢false}
use Rattle.table.specs.declared.record.Record.{Record}
use Rattle.table.specs.Records.{Apart, First, Missing, Of, at}

-- what a search that found no record, or one, says
pub missing_from_none : {xs : List Record} {slot channel : ℕ} (r : Option ℕ) → MatchOption r (Missing xs slot channel) (First xs slot channel) → is_none r ≡ true → Missing xs slot channel
missing_from_none None h e = h
missing_from_none (Some i) h e = absurd (true≢false (sym e))

pub first_from_some : {xs : List Record} {slot channel : ℕ} (r : Option ℕ) → MatchOption r (Missing xs slot channel) (First xs slot channel) → is_none r ≡ false → (i : ℕ) × First xs slot channel i
first_from_some None h e = absurd (true≢false e)
first_from_some (Some i) h e = (i, h)

-- no record before the place of this one has its slot and channel
abbrev pub Alone : List Record → ℕ × Record → Type 0
Alone rs p = Missing (take p.0 rs) p.1.slot p.1.channel

-- one has
abbrev pub Twice : List Record → ℕ × Record → Type 0
Twice rs p = (i : ℕ) × First (take p.0 rs) p.1.slot p.1.channel i

module _ (rs : List Record) where
  item : (k : ℕ) → k < length rs → get_or (enumerate_from 0 rs) k (0, at [] 0) ≡ (k, at rs k)
  item k l = get_or-enumerate_from 0 rs k (0, at [] 0) l ∙ ap (λ n. (n, at rs k)) (zero-add k)

  front : (j i : ℕ) → i < j → at (take j rs) i ≡ at rs i
  front j i l = get_or-take j rs i (at [] 0) l

  pub apart_from_cases : (r : Bool)
      → MatchBool r (AllWithin (Alone rs) (enumerate_from 0 rs) 0 (length (enumerate_from 0 rs))) ((k : ℕ) × (k < length (enumerate_from 0 rs)) × HoldsAt (Twice rs) (enumerate_from 0 rs) k)
      → MatchBool r (Apart rs) (Apart rs → ⊥)
  apart_from_cases true h = λ i j w.
      let many = length-enumerate_from 0 rs in
      let alone = subst (Alone rs) (item j w.1) (h j (0, at [] 0) (omega arith) (omega (arith, many))) in
      let len = length-take-le j rs (omega (arith, w.1)) in
      let within : i < length (take j rs) = omega (arith, len, w.0) in
      alone.nowhere i within (subst (Of (at rs j).slot (at rs j).channel) (sym (front j i w.0)) w.2)
  apart_from_cases false h = λ apart.
      let many = length-enumerate_from 0 rs in
      let within : h.0 < length rs = omega (arith, many) in
      let twice = subst (Twice rs) (item h.0 within) (h.2 (0, at [] 0)) in
      let len = length-take-le h.0 rs (omega (arith, within)) in
      let before : twice.0 < h.0 = omega (arith, len, twice.1.inside) in
      apart twice.0 h.0 (before, within, subst (Of (at rs h.0).slot (at rs h.0).channel) (front h.0 twice.0 before) twice.1.here)
