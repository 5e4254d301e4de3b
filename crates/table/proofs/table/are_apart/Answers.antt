use Rattle.std.proofs.Common.{rules, tests}
use Rattle.std.proofs.lemmas.Iterator.{cases_from_all, YieldsList-from_slice}
use Rattle.std.proofs.lemmas.Iterator.Consumers.{YieldsList-from_enumerate}
use Rattle.table.proofs.Pairs.{Alone, Twice, apart_from_cases, first_from_some, missing_from_none}
use Rattle.table.proofs.table.are_apart.Goals as goal

pub returns : goal.returns
returns c =
    let rs = c.args.records.now in
    let by_call =
    cases_from_all _ _ _ (Alone rs) (Twice rs) c.all.ensures.ran
    (YieldsList-from_enumerate (YieldsList-from_slice rs (cc)) (cc))
    (λ x q k. search (rules, tests, missing_from_none)) (λ x q k. search (rules, tests, first_from_some)) in
    apart_from_cases rs _ by_call
