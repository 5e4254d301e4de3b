use Rattle.std.proofs.Common.{rules, tests, ◌≡◌, true, false, [], arith}
use Rattle.std.proofs.lemmas.Iterator.{cases_from_all, YieldsList-from_slice}
use Rattle.table.specs.Records.{at, present}
use Rattle.table.proofs.table.check.Goals as goal

pub returns-then-not-all-3 : goal.returns-then-not-all-3
returns-then-not-all-3 c = (search rules, search rules, search rules, search rules)

pub returns-then-not-are_apart : goal.returns-then-not-are_apart
returns-then-not-are_apart c = (
  search rules,
  search rules,
  (let cases =
      cases_from_all _ _ _ (λ r. present r ≡ true) (λ r. present r ≡ false) c.all-2.ensures.ran
      (YieldsList-from_slice c.args.records.now cc) (λ x q k. search (rules, tests)) (λ x q k. search (rules, tests)) in
      let all = rw c.if-not-all-2.false at cases in
      λ k l. all k (at [] 0) (omega arith) l),
  search rules,
  search rules,
)
