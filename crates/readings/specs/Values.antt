-- A value as one whole number, and back. Assumes nothing.
use Rattle.std.specs.Prelude.{ℕ, Bool, true, false, not, T, ℤ, pos, Some, None, Option, is_nan, to_bits, unsigned_abs, Float as Ieee}
use Rattle.std.specs.Float.{Format, binary32, binary64}
use Rattle.std.specs.Float.Ieee.{fits, of_bits}
use Rattle.std.specs.Float.Ieee.Bits.{of_bits-fits}
use Rattle.readings.specs.declared.kind.Kind.{Kind}
use Rattle.readings.specs.declared.kind.Kind.TheVariants as K
use Rattle.readings.specs.declared.reading.Reading.{Reading}
use Rattle.readings.specs.declared.reading.Reading.TheVariants as V

abbrev pub kind_of : Reading → Kind
kind_of (V.U8 n) = K.U8
kind_of (V.I8 z) = K.I8
kind_of (V.U16 n) = K.U16
kind_of (V.I16 z) = K.I16
kind_of (V.U32 n) = K.U32
kind_of (V.I32 z) = K.I32
kind_of (V.F32 x) = K.F32
kind_of (V.F64 x) = K.F64

-- an integer's own value; of a float its bits
abbrev pub number : Reading → ℤ
number (V.U8 n) = pos n
number (V.I8 z) = z
number (V.U16 n) = pos n
number (V.I16 z) = z
number (V.U32 n) = pos n
number (V.I32 z) = z
number (V.F32 x) = pos (to_bits binary32 x.value)
number (V.F64 x) = pos (to_bits binary64 x.value)

-- made from the proof that a test failed, or nothing where it passed
abbrev pub unless : {X : Type 0} (test : Bool) → (T (not test) → X) → Option X
unless true make = None
unless false make = Some (make tt)

-- what is made of a float of the format: it must be told that it is a number, and one of the format
abbrev pub Maker : Format → Type 0 → Type 0
Maker f X = (v : Ieee) → T (not (is_nan v)) → T (fits f v) → X

-- made of the float that has these bits, or nothing where they are a NaN's
abbrev pub value_with_bits : (f : Format) {X : Type 0} → Maker f X → ℕ → Option X
value_with_bits f make n = unless (is_nan (of_bits f n)) (λ number. make (of_bits f n) number (of_bits-fits f n))

abbrev pub single : Maker binary32 Reading
single v n h = V.F32 (record { value = v; number = n; held = h })

abbrev pub double : Maker binary64 Reading
double v n h = V.F64 (record { value = v; number = n; held = h })

-- the value of a type that a whole number stands for; nothing where it is the bits of a NaN
abbrev pub valued : Kind → ℤ → Option Reading
valued K.U8 z = Some (V.U8 (unsigned_abs z))
valued K.I8 z = Some (V.I8 z)
valued K.U16 z = Some (V.U16 (unsigned_abs z))
valued K.I16 z = Some (V.I16 z)
valued K.U32 z = Some (V.U32 (unsigned_abs z))
valued K.I32 z = Some (V.I32 z)
valued K.F32 z = value_with_bits binary32 single (unsigned_abs z)
valued K.F64 z = value_with_bits binary64 double (unsigned_abs z)
