use Rattle.std.proofs.Common.{refl}
use Rattle.worked.proofs.Replies.{answers}
use Rattle.worked.proofs.Statistics.{statistics}
use Rattle.worked.proofs.Telegrams.{telegrams}
use Rattle.worked.proofs.worked_cases.Goals as goal

pub returns : goal.returns
returns c = record { worked = (telegrams, statistics, answers); counted = refl }
