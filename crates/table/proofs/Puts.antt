-- What a put on the first record of a slot's channel makes of the shares. Assumes nothing.
use Rattle.std.proofs.Common.{◌≡◌, ℕ, zero, suc, Bool, true, false, cond, eqb, List, [], ◌∷◌, ◌++◌, get_or, set, nat_abs, Ok, Err, sym, refl, ap, ◌∙◌, subst, le_of_suc-le-suc, arith}
use Rattle.std.proofs.lemmas.List.{get_or_default}
use Rattle.std.proofs.lemmas.Bool.{eq-eqb, ne_eqb, eqb-true, true≢false}
use Rattle.board.specs.Meaning.{Follows, Share, Stored, Refuses, kept, not_puttable, wrong_type}
use Rattle.board.specs.declared.refusal.PutRefusal.TheVariants.{NotPuttable, WrongType}
use Rattle.readings.specs.Codes.{kind_code}
use Rattle.readings.specs.declared.fault.Fault.TheVariants.{InvalidChannel}
use Rattle.readings.specs.declared.outcome.Outcome.{Outcome}
use Rattle.readings.specs.declared.outcome.Outcome.TheVariants.{Fault}
use Rattle.table.specs.declared.record.Record.{Record}
use Rattle.table.specs.Records.{First, Missing, at, is_absent, is_of_type}
use Rattle.table.specs.Shares.{Replaced, behind, share_of, table_stored, written}
use Rattle.table.proofs.Looks.{none}

-- the record with another outcome
abbrev pub with : Record → Outcome → Record
with r o = record { slot = r.slot; channel = r.channel; kind = r.kind; outcome = o }

-- what the rule says where a record of this type stands, and the share with the outcome put
abbrev judged : ℕ → Outcome → Share → Stored
judged type o s = cond (is_absent o) wrong_type (cond (is_of_type type o) (kept s) wrong_type)

behind_judged : (front : Share) (type : ℕ) (o : Outcome) (s : Share) → behind front (judged type o s) ≡ judged type o (front ++ s)
behind_judged front type o s = by (is_absent o) (is_of_type type o)
  where
    by : (a b : Bool) → behind front (cond a wrong_type (cond b (kept s) wrong_type)) ≡ cond a wrong_type (cond b (kept (front ++ s)) wrong_type)
    by true b = refl
    by false true = refl
    by false false = refl

-- a record that is not the channel's is passed over
module _ (r : Record) (rs : List Record) (slot channel : ℕ) (o : Outcome) (other : (r.slot ≡ slot) × (r.channel ≡ channel) → ⊥) where
  stored_past : (type : ℕ) (after : List Record) → table_stored (share_of slot rs) channel o ≡ judged type o (share_of slot after)
      → table_stored (share_of slot (r ∷ rs)) channel o ≡ judged type o (share_of slot (r ∷ after))
  stored_past type after e = by (eqb r.slot slot) refl
    where
      front : Share
      front = written r.channel (kind_code r.kind) r.outcome

      by : (b : Bool) → eqb r.slot slot ≡ b → table_stored (cond b (front ++ share_of slot rs) (share_of slot rs)) channel o ≡ judged type o (cond b (front ++ share_of slot after) (share_of slot after))
      by false s = e
      by true s =
          let n : eqb r.channel channel ≡ false = ne_eqb r.channel channel (λ c. other (eqb-true r.slot slot s, c)) in
          rw n (ap (behind front) e ∙ behind_judged front type o (share_of slot after))

  missing_past : table_stored (share_of slot rs) channel o ≡ not_puttable → table_stored (share_of slot (r ∷ rs)) channel o ≡ not_puttable
  missing_past e = by (eqb r.slot slot) refl
    where
      front : Share
      front = written r.channel (kind_code r.kind) r.outcome

      by : (b : Bool) → eqb r.slot slot ≡ b → table_stored (cond b (front ++ share_of slot rs) (share_of slot rs)) channel o ≡ not_puttable
      by false s = e
      by true s =
          let n : eqb r.channel channel ≡ false = ne_eqb r.channel channel (λ c. other (eqb-true r.slot slot s, c)) in
          rw n (ap (behind front) e)

stored_first : (rs : List Record) (slot channel i : ℕ) (o : Outcome) → First rs slot channel i
    → table_stored (share_of slot rs) channel o ≡ judged (kind_code (at rs i).kind) o (share_of slot (set rs i (with (at rs i) o)))
stored_first [] slot channel i o h = none i h.inside
stored_first (r ∷ rs) slot channel zero o h =
    let s : eqb r.slot slot ≡ true = eq-eqb r.slot slot h.here.0 in
    let c : eqb r.channel channel ≡ true = eq-eqb r.channel channel h.here.1 in
    rw (s, c, h.here.1)
stored_first (r ∷ rs) slot channel (suc i) o h =
    stored_past r rs slot channel o (h.before 0 (omega arith)) (kind_code (at rs i).kind) (set rs i (with (at rs i) o))
    (stored_first rs slot channel i o (record { inside = le_of_suc-le-suc h.inside; here = h.here; before = λ k l. h.before (suc k) (omega arith) }))

stored_missing : (rs : List Record) (slot channel : ℕ) (o : Outcome) → Missing rs slot channel → table_stored (share_of slot rs) channel o ≡ not_puttable
stored_missing [] slot channel o h = refl
stored_missing (r ∷ rs) slot channel o h =
    missing_past r rs slot channel o (h.nowhere 0 (omega arith)) (stored_missing rs slot channel o (record { nowhere = λ k l. h.nowhere (suc k) (omega arith) }))

-- a record stands in no share but its own slot's
share_other : (rs : List Record) (i k : ℕ) (o : Outcome) → (k ≡ (at rs i).slot → ⊥) → share_of k (set rs i (with (at rs i) o)) ≡ share_of k rs
share_other [] i k o other = refl
share_other (r ∷ rs) zero k o other =
    let n : eqb r.slot k ≡ false = ne_eqb r.slot k (λ e. other (sym e)) in rw n
share_other (r ∷ rs) (suc i) k o other =
    ap (λ (s : Share). cond (eqb r.slot k) (written r.channel (kind_code r.kind) r.outcome ++ s) s) (share_other rs i k o other)

module _ (rs : List Record) (slot channel : ℕ) (o : Outcome) where
  pub put_missing : Missing rs slot channel → Replaced slot channel o rs rs (Err NotPuttable)
  put_missing h =
      let e = stored_missing rs slot channel o h in
      record { within = subst (λ (s : Stored). Follows s (share_of slot rs) (Err NotPuttable)) (sym e) refl; others = λ k n. refl; refused = λ n. refl }

  module _ (i : ℕ) (first : First rs slot channel i) where
    refuses : judged (kind_code (at rs i).kind) o (share_of slot (set rs i (with (at rs i) o))) ≡ wrong_type → Replaced slot channel o rs rs (Err WrongType)
    refuses j =
        let e = stored_first rs slot channel i o first ∙ j in
        record { within = subst (λ (s : Stored). Follows s (share_of slot rs) (Err WrongType)) (sym e) refl; others = λ k n. refl; refused = λ n. refl }

    pub put_absent : is_absent o ≡ true → Replaced slot channel o rs rs (Err WrongType)
    put_absent a = refuses (rw a)

    pub put_mistyped : (d : Record) → is_absent o ≡ false → is_of_type (kind_code (get_or rs i d).kind) o ≡ false → Replaced slot channel o rs rs (Err WrongType)
    put_mistyped d a t =
        let same = get_or_default rs i d (at [] i) first.inside in
        let e : is_of_type (kind_code (at rs i).kind) o ≡ false = subst (λ (x : Record). is_of_type (kind_code x.kind) o ≡ false) same t in
        refuses (rw (a, e))

    put_at : is_absent o ≡ false → is_of_type (kind_code (at rs i).kind) o ≡ true → Replaced slot channel o rs (set rs i (with (at rs i) o)) (Ok tt)
    put_at a t =
        let after = share_of slot (set rs i (with (at rs i) o)) in
        let e : table_stored (share_of slot rs) channel o ≡ kept after = stored_first rs slot channel i o first ∙ rw (a, t) in
        record {
          within = subst (λ (s : Stored). Follows s after (Ok tt)) (sym e) (refl, refl);
          others = λ k n. share_other rs i k o (λ e. n (e ∙ first.here.0));
          refused = λ n. absurd (true≢false n);
        }

    pub put_first : (d e : Record) → is_absent o ≡ false → is_of_type (kind_code (get_or rs i d).kind) o ≡ true
        → Replaced slot channel o rs (set rs i (with (get_or rs i e) o)) (Ok tt)
    put_first d e a t =
        let type : is_of_type (kind_code (at rs i).kind) o ≡ true = subst (λ (x : Record). is_of_type (kind_code x.kind) o ≡ true) (get_or_default rs i d (at [] i) first.inside) t in
        subst (λ (x : Record). Replaced slot channel o rs (set rs i (with x o)) (Ok tt)) (get_or_default rs i (at [] i) e first.inside) (put_at a type)

-- fault 24h is refused, whatever the share
pub invalid_refused : (s : Share) (channel : ℕ) → Refuses (table_stored s channel (Fault InvalidChannel))
invalid_refused [] channel = tt
invalid_refused (c ∷ []) channel = tt
invalid_refused (c ∷ t ∷ []) channel = tt
invalid_refused (c ∷ t ∷ code ∷ []) channel = tt
invalid_refused (c ∷ t ∷ code ∷ z ∷ rest) channel = by (eqb (nat_abs c) channel) (table_stored rest channel (Fault InvalidChannel)) (invalid_refused rest channel)
  where
    by : (b : Bool) (later : Stored) → Refuses later → Refuses (cond b wrong_type (behind (c ∷ t ∷ code ∷ z ∷ []) later))
    by true later h = tt
    by false (kept s) h = absurd h
    by false not_puttable h = tt
    by false wrong_type h = tt
