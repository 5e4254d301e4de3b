use Rattle.std.proofs.lemmas.Result.{err_from_is_err_and}
use Rattle.telegram.specs.View.{frame}
use Rattle.burst.proofs.Back.{relayed, not_relayed}
use Rattle.burst.proofs.repeater.relay.Goals as goal

pub returns-clause-relayed : goal.returns-clause-relayed
returns-clause-relayed c =
    let there = c.in_ok-telegram.ensures.found in
    relayed c.args.burst.now c.args.buffer.now (frame c.fields.result) c.in_ok-telegram.telegram there.0 there.1 there.2 c.fields.ensures
    c.write.new.buffer c.in_ok-length.length (λ k. (c.type_inv.burst k).fits) c.in_ok-length.ensures.written

pub returns-in_err-length-clause-relayed : goal.returns-in_err-length-clause-relayed
returns-in_err-length-clause-relayed c =
    let there = c.in_ok-telegram.ensures.found in
    let p = err_from_is_err_and c.from_residual-in_err-length.result c.from_residual-in_err-length.ensures.1 in
    rw (p.1, p.2) (
    not_relayed c.args.burst.now c.args.buffer.now (frame c.fields.result) c.in_ok-telegram.telegram there.0 there.1 there.2 c.fields.ensures
    c.in_err-length.field-0.0 c.in_err-length.ensures.written
    )
