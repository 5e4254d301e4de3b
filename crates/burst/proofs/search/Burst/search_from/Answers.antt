use Rattle.std.proofs.Common.{◌≡◌, ℕ, subst, inl, inr, arith}
use Rattle.std.proofs.lemmas.Bool.{cases_lt}
use Rattle.telegram.specs.Layout.{Stands}
use Rattle.burst.proofs.Tests.{failed_none}
use Rattle.burst.proofs.search.Burst.search_from.Goals as goal
use Rattle.burst.proofs.search.Burst.search_from.Goals.{then-self-p-eq-SOH+in_default, else-self-p-eq-SOH}

-- no telegram stands where the turn looked
not_here : (c : goal.Joined-self-p-eq-SOH) → Stands c.args.self.now.bytes.now c.loop-p.p → ⊥
not_here c h =
    elim c.if-self-p-eq-SOH.branch [
      | then-self-p-eq-SOH+in_default w ↦ failed_none c.args.self.now.bytes.now c.loop-p.p w.in_default.field-0 w.in_default.ensures.stands h
      | else-self-p-eq-SOH w ↦ w.if-self-p-eq-SOH.false h.soh
    ]

pub loop-p-preserved : goal.loop-p-preserved
loop-p-preserved c q a b h =
    elim (cases_lt q c.loop-p.p) [
      | inl below ↦ c.loop-p.invariant q a below h
      | inr here ↦ let e : q ≡ c.loop-p.p = omega arith in not_here c (subst (λ (x : ℕ). Stands c.args.self.now.bytes.now x) e h)
    ]
