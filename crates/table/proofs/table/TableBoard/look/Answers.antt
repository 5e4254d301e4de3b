use Rattle.std.proofs.Common.{rules}
use Rattle.table.proofs.Looks.{look_found}
use Rattle.table.proofs.table.TableBoard.look.Goals as goal

pub returns : goal.returns
returns c =
    look_found c.args.self.now.records.now c.args.slot c.args.channel c.if-slot-ge-SLOTS.false
    c.find.result c.map_or.result c.find.ensures (search rules)
