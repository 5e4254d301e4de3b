use Rattle.std.proofs.Common.{sym, subst, ◌∙◌}
use Rattle.readings.proofs.Wire.{read_back}
use Rattle.readings.specs.Bytes.{Reads}
use Rattle.readings.proofs.reading.Reading.read.Goals as goal

pub returns-clause-back : goal.returns-clause-back
returns-clause-back c =
    let code = c.args.code in
    let bytes = c.args.bytes.now in
    let of_weight = read_back code bytes c.in_ok-kind.kind c.from_pattern.result c.weigh.result c.in_ok-kind.ensures (c.if-bytes-size.false ∙ c.size.ensures) c.weigh.ensures.value c.from_pattern.ensures.same_kind c.from_pattern.ensures.same_bits c.type_inv.bytes in
    subst (Reads code bytes) (sym c.ok_or.ensures.value) of_weight
