use Rattle.std.proofs.Common.{inr, zero-le}
use Rattle.std.proofs.lemmas.Result.{err_from_is_err_and}
use Rattle.burst.proofs.Tests.{soh_inside}
use Rattle.burst.proofs.search.Burst.locate.Goals as goal

pub returns-in_err-len : goal.returns-in_err-len
returns-in_err-len c =
    let burst = c.args.self.now.bytes.now in
    let p = err_from_is_err_and c.from_residual.result c.from_residual.ensures.1 in
    let first = c.in-Some-first_soh.ensures in
    let none = c.in_default.ensures in
    rw (p.1, p.2) (
      c.args.self.now.short,
      λ q h. none q zero-le (soh_inside burst q h.soh) h,
      inr (c.in-Some-first_soh.p, first.1, c.in_err-len.ensures.stands),
    )
