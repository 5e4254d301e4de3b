use Rattle.std.proofs.Common.{◌≡◌, length, replicate, ◌∙◌, w64}
use Rattle.std.specs.Int.{from_le_bytes}
use borrow.Rule.Slice.PartMut.{put_mid}
use Rattle.readings.specs.Bytes.{weighed}
use Rattle.readings.proofs.LittleEndian.{padded_weighed, weighed_lt}
use Rattle.readings.proofs.value.weigh.Goals as goal

pub returns : goal.returns
returns c =
    let bytes = c.args.bytes.now in
    let copy = c.copy_from_slice.new.self in
    let read : c.from_le_bytes.result ≡ from_le_bytes w64 (put_mid 0 (length bytes) (replicate 8 0) copy) = c.from_le_bytes.ensures in
    let sum : c.from_le_bytes.result ≡ weighed bytes = read ∙ padded_weighed bytes copy c.requires c.copy_from_slice.ensures.after in
    record { value = sum; bound = simp sum (weighed_lt bytes c.type_inv.bytes) }
