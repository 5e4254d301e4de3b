-- What writing a telegram leaves in the buffer. Assumes nothing.
use Rattle.std.specs.Prelude.{◌≡◌, ℕ, ◌+◌, ◌<◌, ◌≤◌, List, ◌++◌, length, drop}
use Rattle.telegram.specs.declared.writer.WriteRefusal.{WriteRefusal}
use Rattle.telegram.specs.declared.writer.WriteRefusal.TheVariants.{BufferTooShort, PayloadTooLong}
use Rattle.telegram.specs.Layout.{Frame, Stands, frame_at, frame_bytes}

-- every refusal with its number
abbrev pub number : WriteRefusal → ℕ
number BufferTooShort = 32
number PayloadTooLong = 36

-- when a telegram is refused, the buffer first
abbrev pub Refused : Frame → List ℕ → WriteRefusal → Type 0
Refused f buffer BufferTooShort = length buffer < 224
Refused f buffer PayloadTooLong = (224 ≤ length buffer) × (210 < length f.payload)

-- The n bytes of the telegram lie at the front of the buffer, what was behind them stays, and whoever reads the buffer
-- finds the same fields at position 0.
pub record Written (f : Frame) (before after : List ℕ) (n : ℕ) : Type 0 where
  pub room : 224 ≤ length before
  pub fits : length f.payload ≤ 210
  pub count : n ≡ 14 + length f.payload
  pub bytes : after ≡ frame_bytes f ++ drop n before
  pub stands : Stands after 0
  pub same : frame_at after 0 ≡ f
