-- The bytes of a value on the wire, low byte first, and the value that bytes stand for. Assumes nothing.
use Rattle.std.specs.Prelude.{◌≡◌, ℕ, zero, suc, ◌+◌, ◌*◌, ◌/◌, ◌%◌, ◌<◌, ◌≤◌, cond, List, [], ◌∷◌, ◌++◌, length, drop, ℤ, pos, Some, None, Ok, Err, Option, Result, ◌==◌}
use Rattle.std.specs.Int.{Width, w8, w16, w32, w64}
use Rattle.std.proofs.Common.{of_z, to_z}
use Rattle.std.specs.Option.{ok_or}
use Rattle.readings.specs.declared.kind.Kind.{Kind}
use Rattle.readings.specs.declared.kind.Kind.TheVariants as K
use Rattle.readings.specs.declared.reading.Reading.{Reading}
use Rattle.readings.specs.declared.value.Unreadable.{Unreadable}
use Rattle.readings.specs.declared.value.Unreadable.TheVariants.{UnknownType, WrongLength, NotANumber}
use Rattle.readings.specs.Codes.{kind_at, kind_code, size_of}
use Rattle.readings.specs.Values.{kind_of, number, valued}

-- a number in so many bytes, low byte first
abbrev pub little_endian : ℕ → ℕ → List ℕ
little_endian zero n = []
little_endian (suc k) n = n % 256 ∷ little_endian k (n / 256)

-- the number that bytes stand for, low byte first
abbrev pub weighed : List ℕ → ℕ
weighed [] = 0
weighed (b ∷ bs) = b + 256 * weighed bs

abbrev pub width_of : Kind → Width
width_of K.U8 = w8
width_of K.I8 = w8
width_of K.U16 = w16
width_of K.I16 = w16
width_of K.U32 = w32
width_of K.I32 = w32
width_of K.F32 = w32
width_of K.F64 = w64

-- a value's bits as one number, a signed one in two's complement
abbrev pub pattern : Reading → ℕ
pattern v = of_z (width_of (kind_of v)) (number v)

-- the whole number whose bits these are
abbrev pub unpattern : Kind → ℕ → ℤ
unpattern K.U8 n = pos n
unpattern K.I8 n = to_z w8 n
unpattern K.U16 n = pos n
unpattern K.I16 n = to_z w16 n
unpattern K.U32 n = pos n
unpattern K.I32 n = to_z w32 n
unpattern K.F32 n = pos n
unpattern K.F64 n = pos n

-- THE BYTES OF A VALUE
abbrev pub bytes_of : Reading → List ℕ
bytes_of v = little_endian (size_of (kind_of v)) (pattern v)

-- a value with its type in front, as replies carry it
abbrev pub on_wire : Reading → List ℕ
on_wire v = kind_code (kind_of v) ∷ bytes_of v

-- THE VALUE THAT A TYPE'S CODE AND BYTES STAND FOR, or why they stand for none
abbrev pub read_as : Option Kind → List ℕ → Result Reading Unreadable
read_as None bytes = Err UnknownType
read_as (Some k) bytes = cond (length bytes == size_of k) (ok_or (valued k (unpattern k (weighed bytes))) NotANumber) (Err WrongLength)

abbrev pub read_from : ℕ → List ℕ → Result Reading Unreadable
read_from code = read_as (kind_at code)

-- the bytes that were read are those of the value
abbrev pub Reads : ℕ → List ℕ → Result Reading Unreadable → Type 0
Reads code bytes (Ok v) = (kind_code (kind_of v) ≡ code) × (bytes_of v ≡ bytes)
Reads code bytes (Err e) = Unit {0}

-- the value stands at the buffer's front and the rest is as before, or the buffer was too short and all is as before
abbrev pub Writes : Reading → List ℕ → List ℕ → Option ℕ → Type 0
Writes v before after (Some n) = (n ≡ length (on_wire v)) × (n ≤ length before) × (after ≡ on_wire v ++ drop n before)
Writes v before after None = (length before < length (on_wire v)) × (after ≡ before)
