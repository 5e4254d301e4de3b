-- What becomes of bytes that are put together. Assumes nothing.
use Rattle.std.specs.Prelude.{◌≡◌, ℕ, ◌+◌, ◌<◌, ◌≤◌, List, ◌++◌, length, Result, Ok, Err}
use Rattle.payload.specs.declared.Full.{Full}

-- the bytes are added if there is room for so many, else nothing changes
abbrev pub Appended : ℕ → List ℕ → List ℕ → List ℕ → Result Unit Full → Type 0
Appended room before more after (Ok done) = (length before + length more ≤ room) × (after ≡ before ++ more)
Appended room before more after (Err full) = (room < length before + length more) × (after ≡ before)

-- the bytes are copied if there is room for so many
abbrev pub Copied : ℕ → List ℕ → Result (List ℕ) Full → Type 0
Copied room bytes (Ok copy) = (length bytes ≤ room) × (copy ≡ bytes)
Copied room bytes (Err full) = room < length bytes
