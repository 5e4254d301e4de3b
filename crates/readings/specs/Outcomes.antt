-- An outcome as two whole numbers, its code and its value, and back. Assumes nothing.
use Rattle.std.specs.Prelude.{ℕ, cond, List, [], ◌∷◌, ℤ, pos, Some, None, Option, is_nan, to_bits, unsigned_abs, Float}
use Rattle.std.specs.Float.{Format}
use Rattle.readings.specs.declared.fault.Fault.{Fault}
use Rattle.readings.specs.declared.fault.Fault.TheVariants.{CalcError, InvalidChannel}
use Rattle.readings.specs.declared.kind.Kind.{Kind}
use Rattle.readings.specs.declared.outcome.Outcome.{Outcome}
use Rattle.readings.specs.declared.outcome.Outcome.TheVariants as O
use Rattle.readings.specs.declared.reading.Reading.{Reading}
use Rattle.readings.specs.Codes.{fault_at, fault_code, kind_at, kind_code, kind_for}
use Rattle.readings.specs.Values.{kind_of, number, valued}

-- a float that is not a number counts as a calculation error, fault 56h
abbrev pub counted : Option Reading → Outcome
counted (Some v) = O.Value v
counted None = O.Fault CalcError

-- the outcome that a whole number brings: an integer's own value, a float's bits
abbrev pub measured : Kind → ℤ → Outcome
measured k z = counted (valued k z)

-- the outcome that a float brings
abbrev pub from_float : Format → Float → Outcome
from_float f x = cond (is_nan x) (O.Fault CalcError) (measured (kind_for f) (pos (to_bits f x)))

-- the code of the value's type, or of the fault: no fault has a type's code
abbrev pub code_of : Outcome → ℕ
code_of (O.Value v) = kind_code (kind_of v)
code_of (O.Fault f) = fault_code f

abbrev pub number_of : Outcome → ℤ
number_of (O.Value v) = number v
number_of (O.Fault f) = pos 0

-- AN OUTCOME AS WHOLE NUMBERS
abbrev pub coded : Outcome → List ℤ
coded o = pos (code_of o) ∷ number_of o ∷ []

-- by the type or the fault that a code names; a code that names neither stands for a channel that is not there
abbrev pub named : Option Kind → Option Fault → ℤ → Outcome
named (Some k) f z = measured k z
named None (Some f) z = O.Fault f
named None None z = O.Fault InvalidChannel

abbrev pub outcome_at : ℤ → ℤ → Outcome
outcome_at code z = named (kind_at (unsigned_abs code)) (fault_at (unsigned_abs code)) z

-- THE OUTCOME THAT WHOLE NUMBERS STAND FOR, by the first two of them
abbrev pub decoded : List ℤ → Outcome
decoded [] = O.Fault InvalidChannel
decoded (code ∷ []) = O.Fault InvalidChannel
decoded (code ∷ z ∷ rest) = outcome_at code z
