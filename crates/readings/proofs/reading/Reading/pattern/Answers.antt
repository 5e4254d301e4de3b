use Rattle.std.proofs.Common.{ap, ◌∙◌}
use lib.Ieee.{binary32, binary64}
use Rattle.readings.specs.Values.{value_with_bits, single, double}
use Rattle.readings.proofs.Floats.{made_from_own_bits}
use Rattle.readings.proofs.reading.Reading.pattern.Goals as goal

pub returns-in-F32-clause-back : goal.returns-in-F32-clause-back
returns-in-F32-clause-back c =
    let x = c.in-F32.x in
    let e = c.from-in-F32.ensures ∙ c.to_bits.ensures in
    simp c.in-F32.is (ap (value_with_bits binary32 single) e ∙ made_from_own_bits binary32 single x.value x.number x.held)

pub returns-in-F64-clause-back : goal.returns-in-F64-clause-back
returns-in-F64-clause-back c =
    let x = c.in-F64.x in
    simp c.in-F64.is (ap (value_with_bits binary64 double) c.to_bits-in-F64.ensures ∙ made_from_own_bits binary64 double x.value x.number x.held)
