use Rattle.std.proofs.Common.{arith, rules, ◌∙◌}
use Rattle.telegram.specs.View.{frame}
use Rattle.telegram.proofs.Frames.{written}
use Rattle.telegram.proofs.writer.write.Goals as goal

pub returns-clause-written : goal.returns-clause-written
returns-clause-written c =
    written (frame c.args.fields.now) c.args.buffer.now c.write_covered.new.buffer c.copy_from_slice.new.self c.crc.result _ _
    (omega arith) (omega arith) c.write_covered.ensures c.crc.ensures (omega arith) (c.copy_from_slice.ensures.after ∙ search rules) (omega arith)
