use Rattle.readings.proofs.Coded.{outcome_back}
use Rattle.readings.proofs.outcome.Outcome.code.Goals as goal

pub returns-in-Value-clause-back : goal.returns-in-Value-clause-back
returns-in-Value-clause-back c = λ rest. outcome_back c.args.self
