use Rattle.std.proofs.Common.{ℤ, rules}
use Rattle.std.proofs.lemmas.List.{map-id}
use Rattle.std.proofs.lemmas.Iterator.{YieldsList-from_slice, YieldsList-from_map}
use Rattle.std.proofs.lemmas.Iterator.Consumers.{YieldsList-from_copied}
use Rattle.std.proofs.lemmas.Iterator.Adapters.{items_from_extend}
use Rattle.shares.proofs.append_samples.Goals as goal

pub returns : goal.returns
returns c =
    let all = items_from_extend c.extend.result c.extend.ensures.ran (YieldsList-from_map _ (λ (z : ℤ). z) (YieldsList-from_copied (YieldsList-from_slice c.args.samples.now cc)) c.map.ensures.closure (λ x r q k. search rules)) in
    let given = rw (map-id c.args.samples.now) at all in
    search rules
