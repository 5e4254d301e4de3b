use Rattle.std.proofs.Common.{vec_items}
use Rattle.capture.proofs.Decoding.{Small, Left}
use Rattle.capture.proofs.hex.decode.Given as goal

abbrev pub invariant-loop-i : goal.invariant-loop-i
invariant-loop-i l = Left l.line l.i l.high (vec_items l.bytes) × Small l.high
