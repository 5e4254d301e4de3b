-- The codes of the eight types and the ten faults, as the UMB manual has them in "Data Types" and in "Status and Error Codes".
-- Assumes nothing.
use Rattle.std.specs.Prelude.{◌≡◌, ℕ, cond, List, [], ◌∷◌, Some, None, Option, Result, MatchResult, ◌==◌}
use Rattle.std.specs.Float.{Format, binary32, binary64}
use Rattle.readings.specs.declared.code.UnknownCode.{UnknownCode}
use Rattle.readings.specs.declared.kind.Kind.{Kind}
use Rattle.readings.specs.declared.kind.Kind.TheVariants as K
use Rattle.readings.specs.declared.fault.Fault.{Fault}
use Rattle.readings.specs.declared.fault.Fault.TheVariants as F

abbrev pub kind_code : Kind → ℕ
kind_code K.U8 = 0x10
kind_code K.I8 = 0x11
kind_code K.U16 = 0x12
kind_code K.I16 = 0x13
kind_code K.U32 = 0x14
kind_code K.I32 = 0x15
kind_code K.F32 = 0x16
kind_code K.F64 = 0x17

-- the bytes of a value of the type
abbrev pub size_of : Kind → ℕ
size_of K.U8 = 1
size_of K.I8 = 1
size_of K.U16 = 2
size_of K.I16 = 2
size_of K.U32 = 4
size_of K.I32 = 4
size_of K.F32 = 4
size_of K.F64 = 8

-- the type of a value that is a float of the format
abbrev pub kind_for : Format → Kind
kind_for binary32 = K.F32
kind_for binary64 = K.F64

abbrev pub fault_code : Fault → ℕ
fault_code F.InvalidChannel = 0x24
fault_code F.Busy = 0x28
fault_code F.ChannelOff = 0x36
fault_code F.ValueOverflow = 0x50
fault_code F.ValueUnderflow = 0x51
fault_code F.ChannelOverrange = 0x52
fault_code F.ChannelUnderrange = 0x53
fault_code F.DataError = 0x54
fault_code F.MeasUnable = 0x55
fault_code F.CalcError = 0x56

-- the one of a list that a rule gives this code
abbrev pub coding : {X : Type 0} → (X → ℕ) → List X → ℕ → Option X
coding rule [] code = None
coding rule (x ∷ xs) code = cond (code == rule x) (Some x) (coding rule xs code)

abbrev pub kinds : List Kind
kinds = K.U8 ∷ K.I8 ∷ K.U16 ∷ K.I16 ∷ K.U32 ∷ K.I32 ∷ K.F32 ∷ K.F64 ∷ []

abbrev pub faults : List Fault
faults =
    F.InvalidChannel ∷ F.Busy ∷ F.ChannelOff ∷ F.ValueOverflow ∷ F.ValueUnderflow ∷ F.ChannelOverrange ∷ F.ChannelUnderrange
    ∷ F.DataError ∷ F.MeasUnable ∷ F.CalcError ∷ []

abbrev pub kind_at : ℕ → Option Kind
kind_at = coding kind_code kinds

abbrev pub fault_at : ℕ → Option Fault
fault_at = coding fault_code faults

-- the result is what a table has at the code, or an error with a code at which the table has nothing
abbrev pub Decodes : {X : Type 0} → (ℕ → Option X) → ℕ → Result X UnknownCode → Type 0
Decodes at code r = MatchResult r (λ x. at code ≡ Some x) (λ e. (at code ≡ None) × (e.0 ≡ code))
