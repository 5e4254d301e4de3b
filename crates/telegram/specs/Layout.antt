-- The manual's clause "Protocol Stack (Framing)", "Summary": where the fields of a telegram lie. Positions count from 0.
-- Assumes nothing.
use Rattle.std.specs.Prelude.{◌≡◌, ℕ, ◌+◌, ◌-◌, ◌*◌, ◌/◌, ◌%◌, ◌<◌, ◌≤◌, List, [], ◌∷◌, ◌++◌, length, take, drop, slice_index}
use Rattle.checksum.specs.Crc.{crc}

-- the byte at a position, 0 past the end
abbrev pub at : List ℕ → ℕ → ℕ
at s i = slice_index s i

-- the number of two bytes at a position, low byte first
abbrev pub word : List ℕ → ℕ → ℕ
word s i = at s i + 256 * at s (i + 1)

-- the n bytes from a position on
abbrev pub part : List ℕ → ℕ → ℕ → List ℕ
part s i n = take n (drop i s)

-- The field <len> of a telegram that begins at p: how many bytes lie between STX and ETX.
abbrev pub len : List ℕ → ℕ → ℕ
len s p = at s (p + 6)

-- A telegram stands at p in the burst s: markers, len and checksum fit. Either version may be any byte.
pub record Stands (s : List ℕ) (p : ℕ) : Type 0 where
  pub soh : at s p ≡ 0x01
  pub least : 2 ≤ len s p
  pub most : len s p ≤ 212
  pub whole : p + (12 + len s p) ≤ length s
  pub stx : at s (p + 7) ≡ 0x02
  pub etx : at s (p + (8 + len s p)) ≡ 0x03
  pub eot : at s (p + (11 + len s p)) ≡ 0x04
  pub checked : word s (p + (9 + len s p)) ≡ crc (part s p (9 + len s p))

-- The telegram of a burst is the one at the lowest position where one stands.
abbrev pub NoneBetween : List ℕ → ℕ → ℕ → Type 0
NoneBetween s a b = (q : ℕ) → a ≤ q → q < b → Stands s q → ⊥

abbrev pub First : List ℕ → ℕ → Type 0
First s p = Stands s p × ((q : ℕ) → q < p → Stands s q → ⊥)

abbrev pub NoneStands : List ℕ → Type 0
NoneStands s = (q : ℕ) → Stands s q → ⊥

-- What a telegram says: the fields that its sender chooses.
pub record Frame : Type 0 where
  pub version : ℕ
  pub receiver : ℕ
  pub sender : ℕ
  pub command : ℕ
  pub command_version : ℕ
  pub payload : List ℕ

-- the fields of a telegram that begins at p and whose len is n
abbrev pub frame_of : List ℕ → ℕ → ℕ → Frame
frame_of s p n =
    record {
      version = at s (p + 1);
      receiver = word s (p + 2);
      sender = word s (p + 4);
      command = at s (p + 8);
      command_version = at s (p + 9);
      payload = part s (p + 10) (n - 2);
    }

abbrev pub frame_at : List ℕ → ℕ → Frame
frame_at s p = frame_of s p (len s p)

-- a number of 16 bits as two bytes, low byte first
abbrev pub low_first : ℕ → List ℕ → List ℕ
low_first n rest = (n % 256) ∷ (n / 256) ∷ rest

-- The bytes that the checksum covers, SOH to ETX,
unfoldable pub covered : Frame → List ℕ
covered f =
    0x01 ∷ f.version ∷ low_first f.receiver (low_first f.sender
    ((2 + length f.payload) ∷ 0x02 ∷ f.command ∷ f.command_version ∷ (f.payload ++ 0x03 ∷ [])))

-- and the whole telegram.
unfoldable pub frame_bytes : Frame → List ℕ
frame_bytes f = covered f ++ low_first (crc (covered f)) (0x04 ∷ [])
