-- A line of a capture: the bytes of one burst, each as two hex digits, with blanks between them or not, and a comment
-- behind a '#'. Assumes nothing.
use Rattle.std.specs.Prelude.{◌≡◌, ℕ, ◌+◌, ◌-◌, ◌*◌, Bool, cond, ◌&&◌, List, [], ◌∷◌, Some, None, Ok, Err, vec_items, Option, Result, Vec, ◌==◌, nat_le}
use Rattle.std.specs.declared.alloc.Global.{Global}
use Rattle.capture.specs.declared.hex.HexFault.{HexFault}
use Rattle.capture.specs.declared.hex.HexFault.TheVariants.{NotHex, HalfByte, OutOfMemory}
use Rattle.capture.specs.declared.hex.Kind.{Kind}
use Rattle.capture.specs.declared.hex.Kind.TheVariants.{Digit, Blank, Comment, Other}

abbrev pub within : ℕ → ℕ → ℕ → Bool
within low high c = nat_le low c && nat_le c high

-- what a character of a line is: '0' to '9', 'A' to 'F', 'a' to 'f'; blank, tab and carriage return; '#'
abbrev pub kind_of : ℕ → Kind
kind_of c =
    cond (within 48 57 c) (Digit (c - 48))
    (cond (within 65 70 c) (Digit (c - 55))
    (cond (within 97 102 c) (Digit (c - 87))
    (cond (c == 32) Blank (cond (c == 9) Blank (cond (c == 13) Blank (cond (c == 35) Comment Other))))))

abbrev pub with_byte : ℕ → Result (List ℕ) HexFault → Result (List ℕ) HexFault
with_byte b (Ok bs) = Ok (b ∷ bs)
with_byte b (Err f) = Err f

-- what a character in column i does where none waits,
abbrev pub first : Kind → ℕ → ℕ → (ℕ → Result (List ℕ) HexFault) → Result (List ℕ) HexFault → Result (List ℕ) HexFault
first (Digit x) i c wait skip = wait x
first Blank i c wait skip = skip
first Comment i c wait skip = Ok []
first Other i c wait skip = Err (NotHex i c)

-- and where the digit x waits for its second
abbrev pub second : Kind → ℕ → ℕ → ℕ → Result (List ℕ) HexFault → Result (List ℕ) HexFault
second (Digit y) i c x more = with_byte (16 * x + y) more
second Blank i c x more = Err (HalfByte (i - 1))
second Comment i c x more = Err (HalfByte (i - 1))
second Other i c x more = Err (NotHex i c)

-- The bytes of a line from column i on (columns count from 1), or the first thing that is wrong there.
unfoldable pub decoded : ℕ → Option ℕ → List ℕ → Result (List ℕ) HexFault
decoded i None [] = Ok []
decoded i (Some x) [] = Err (HalfByte (i - 1))
decoded i None (c ∷ cs) = first (kind_of c) i c (λ x. decoded (i + 1) (Some x) cs) (decoded (i + 1) None cs)
decoded i (Some x) (c ∷ cs) = second (kind_of c) i c x (decoded (i + 1) None cs)

-- a whole line
abbrev pub line_decoded : List ℕ → Result (List ℕ) HexFault
line_decoded line = decoded 1 None line

-- what decoding a line may answer
abbrev pub Decoded : List ℕ → Result (Vec ℕ Global) HexFault → Type 0
Decoded line (Ok bytes) = line_decoded line ≡ Ok (vec_items bytes)
Decoded line (Err OutOfMemory) = Unit {0}
Decoded line (Err (NotHex i c)) = line_decoded line ≡ Err (NotHex i c)
Decoded line (Err (HalfByte i)) = line_decoded line ≡ Err (HalfByte i)
