use Rattle.std.proofs.Common.{length, ap, arith}
use Rattle.head.proofs.Fresh.{all_fresh}
use Rattle.head.proofs.state.Head.start.Goals as goal

pub returns : goal.returns
returns g c =
    let made = c.in_ok-table.ensures in
    record {
      sound = made.0;
      enough = omega (arith, c.slots.ensures, c.count.ensures.lines, ap length made.1, c.if-slots-count.false);
      same = made.1;
      room = made.2;
      new = λ k. all_fresh 32 k;
    }
