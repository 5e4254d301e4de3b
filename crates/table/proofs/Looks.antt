-- What a channel shows by its slot's share, by where the first record of the channel stands. Assumes nothing.
use Rattle.std.proofs.Common.{◌≡◌, ℕ, zero, suc, ◌<◌, Bool, true, false, cond, eqb, List, [], ◌∷◌, ◌++◌, Option, None, Some, MatchOption, get_or, sym, refl, ap, ◌∙◌, subst, le_of_suc-le-suc, arith}
use Rattle.std.proofs.lemmas.List.{get_or_default}
use Rattle.std.proofs.lemmas.Bool.{eq-eqb, ne_eqb, eqb-true}
use Rattle.board.specs.Meaning.{Looked}
use Rattle.readings.specs.Codes.{kind_code}
use Rattle.readings.specs.declared.fault.Fault.TheVariants.{InvalidChannel}
use Rattle.readings.specs.declared.outcome.Outcome.{Outcome}
use Rattle.readings.specs.declared.outcome.Outcome.TheVariants.{Fault}
use Rattle.readings.proofs.Coded.{outcome_back}
use Rattle.table.specs.declared.record.Record.{Record}
use Rattle.table.specs.Records.{First, Missing, at}
use Rattle.table.specs.Shares.{share_of, table_tells, written}

pub none : {X : Type 0} (i : ℕ) → i < 0 → X
none i h = let f : ⊥ = omega arith in absurd f

-- a record that is not the channel's is passed over
module _ (r : Record) (rs : List Record) (slot channel : ℕ) (other : (r.slot ≡ slot) × (r.channel ≡ channel) → ⊥) where
  tells_past : table_tells (share_of slot (r ∷ rs)) channel ≡ table_tells (share_of slot rs) channel
  tells_past = by (eqb r.slot slot) refl
    where
      by : (b : Bool) → eqb r.slot slot ≡ b → table_tells (cond b (written r.channel (kind_code r.kind) r.outcome ++ share_of slot rs) (share_of slot rs)) channel ≡ table_tells (share_of slot rs) channel
      by false e = refl
      by true e = let n : eqb r.channel channel ≡ false = ne_eqb r.channel channel (λ c. other (eqb-true r.slot slot e, c)) in rw n

shown : (rs : List Record) (slot channel i : ℕ) → First rs slot channel i → table_tells (share_of slot rs) channel ≡ (at rs i).outcome
shown [] slot channel i h = none i h.inside
shown (r ∷ rs) slot channel zero h =
    let s : eqb r.slot slot ≡ true = eq-eqb r.slot slot h.here.0 in
    let c : eqb r.channel channel ≡ true = eq-eqb r.channel channel h.here.1 in
    rw (s, c) (outcome_back r.outcome)
shown (r ∷ rs) slot channel (suc i) h =
    tells_past r rs slot channel (h.before 0 (omega arith))
    ∙ shown rs slot channel i (record { inside = le_of_suc-le-suc h.inside; here = h.here; before = λ k l. h.before (suc k) (omega arith) })

missing : (rs : List Record) (slot channel : ℕ) → Missing rs slot channel → table_tells (share_of slot rs) channel ≡ Fault InvalidChannel
missing [] slot channel h = refl
missing (r ∷ rs) slot channel h =
    tells_past r rs slot channel (h.nowhere 0 (omega arith)) ∙ missing rs slot channel (record { nowhere = λ k l. h.nowhere (suc k) (omega arith) })

module _ (rs : List Record) (slot channel : ℕ) (within : slot < 32) where
  looked : (o : Outcome) → table_tells (share_of slot rs) channel ≡ o → Looked table_tells 32 (λ k. share_of k rs) slot channel o
  looked o e = record { within = λ _. sym e; beyond = λ l. none slot (omega arith) }

  pub look_first : (i : ℕ) (d : Record) → First rs slot channel i → Looked table_tells 32 (λ k. share_of k rs) slot channel (get_or rs i d).outcome
  look_first i d h =
      looked (get_or rs i d).outcome (shown rs slot channel i h ∙ ap (λ (r : Record). r.outcome) (get_or_default rs i (at [] i) d h.inside))

  pub look_missing : Missing rs slot channel → Looked table_tells 32 (λ k. share_of k rs) slot channel (Fault InvalidChannel)
  look_missing h = looked (Fault InvalidChannel) (missing rs slot channel h)

  pub look_found : (r : Option ℕ) (o : Outcome) → MatchOption r (Missing rs slot channel) (First rs slot channel)
      → MatchOption r (o ≡ Fault InvalidChannel) (λ i. (d : Record) × (o ≡ (get_or rs i d).outcome))
      → Looked table_tells 32 (λ k. share_of k rs) slot channel o
  look_found None o h e = subst (Looked table_tells 32 (λ k. share_of k rs) slot channel) (sym e) (look_missing h)
  look_found (Some i) o h e = subst (Looked table_tells 32 (λ k. share_of k rs) slot channel) (sym e.1) (look_first i e.0 h)
