use Rattle.std.proofs.Common.{rules}
use Rattle.std.proofs.lemmas.Result.{MatchResult-at_ok}
use Rattle.head.proofs.Replies.{asked_is}
use Rattle.head.proofs.arrival.asked.Goals as goal

pub returns : goal.returns
returns c =
    asked_is c.args.burst.now c.unwrap-found.result c.map.result (MatchResult-at_ok _ _ _ c.unwrap-found.ensures c.find.ensures.found) (search rules)
