-- The whole numbers of an outcome stand for that outcome. Assumes nothing.
use Rattle.std.proofs.Common.{◌≡◌, pos, refl, ap}
use lib.Ieee.{binary32, binary64}
use Rattle.readings.specs.declared.fault.Fault.TheVariants as F
use Rattle.readings.specs.declared.outcome.Outcome.{Outcome}
use Rattle.readings.specs.declared.outcome.Outcome.TheVariants as O
use Rattle.readings.specs.declared.reading.Reading.TheVariants as V
use Rattle.readings.specs.Outcomes.{code_of, counted, number_of, outcome_at}
use Rattle.readings.specs.Values.{double, single}
use Rattle.readings.proofs.Floats.{made_from_own_bits}

pub outcome_back : (o : Outcome) → outcome_at (pos (code_of o)) (number_of o) ≡ o
outcome_back (O.Value (V.U8 n)) = refl
outcome_back (O.Value (V.I8 z)) = refl
outcome_back (O.Value (V.U16 n)) = refl
outcome_back (O.Value (V.I16 z)) = refl
outcome_back (O.Value (V.U32 n)) = refl
outcome_back (O.Value (V.I32 z)) = refl
outcome_back (O.Value (V.F32 x)) = ap counted (made_from_own_bits binary32 single x.value x.number x.held)
outcome_back (O.Value (V.F64 x)) = ap counted (made_from_own_bits binary64 double x.value x.number x.held)
outcome_back (O.Fault F.InvalidChannel) = refl
outcome_back (O.Fault F.Busy) = refl
outcome_back (O.Fault F.ChannelOff) = refl
outcome_back (O.Fault F.ValueOverflow) = refl
outcome_back (O.Fault F.ValueUnderflow) = refl
outcome_back (O.Fault F.ChannelOverrange) = refl
outcome_back (O.Fault F.ChannelUnderrange) = refl
outcome_back (O.Fault F.DataError) = refl
outcome_back (O.Fault F.MeasUnable) = refl
outcome_back (O.Fault F.CalcError) = refl
