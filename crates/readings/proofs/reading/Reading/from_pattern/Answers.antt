use Rattle.std.proofs.Common.{◌<◌, sym, refl}
use lib.Ieee.{binary32, binary64}
use Rattle.readings.specs.Values.{single, double}
use Rattle.readings.proofs.Floats.{made_from_bits, bits_back}
use Rattle.readings.proofs.reading.Reading.from_pattern.Goals as goal

pub returns-in_ok-from_bits-in-F32 : goal.returns-in_ok-from_bits-in-F32
returns-in_ok-from_bits-in-F32 c =
    let x = c.in_ok-from_bits-in-F32.field-0 in
    let e = c.in_ok-from_bits-in-F32.ensures in
    let h : c.args.bits < 4294967296 = simp c.in-F32.is at c.requires in
    simp c.in-F32.is (record {
      value = sym (made_from_bits binary32 single c.args.bits x.value x.number x.held e);
      same_kind = refl;
      same_bits = bits_back binary32 c.args.bits x.value h x.number e;
    })

pub returns-in_ok-from_bits-in-F64 : goal.returns-in_ok-from_bits-in-F64
returns-in_ok-from_bits-in-F64 c =
    let x = c.in_ok-from_bits-in-F64.field-0 in
    let e = c.in_ok-from_bits-in-F64.ensures in
    let h : c.args.bits < 18446744073709551616 = simp c.in-F64.is at c.requires in
    simp c.in-F64.is (record {
      value = sym (made_from_bits binary64 double c.args.bits x.value x.number x.held e);
      same_kind = refl;
      same_bits = bits_back binary64 c.args.bits x.value h x.number e;
    })
