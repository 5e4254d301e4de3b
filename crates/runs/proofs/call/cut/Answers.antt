use Rattle.runs.proofs.Cutting.{cut_is}
use Rattle.runs.proofs.call.cut.Goals as goal

pub returns : goal.returns
returns c = cut_is c.args.bytes.now c.args.first c.args.length c.min-start.result c.min.result c.min-start.ensures c.min.ensures
