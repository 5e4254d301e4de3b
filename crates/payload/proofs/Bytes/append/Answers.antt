use Rattle.std.proofs.Common.{rules}
use Rattle.std.proofs.lemmas.Slice.{drop-put_mid, take-put_mid}
use Rattle.payload.proofs.Zeros.{zeros_further}
use Rattle.payload.proofs.Bytes.append.Goals as goal

pub invariant_of-self : goal.invariant_of-self
invariant_of-self g c = search (rules, drop-put_mid, zeros_further)

pub returns : goal.returns
returns g c = search (rules, take-put_mid)
