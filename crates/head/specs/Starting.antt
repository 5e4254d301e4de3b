-- When a head starts, and how. Assumes nothing.
use Rattle.std.specs.Prelude.{◌≡◌, ℕ, ◌<◌, ◌≤◌, ◌⊎◌, List, length, Some, None}
use Rattle.lines.specs.Making.{broken, lines_of}
use Rattle.lines.specs.declared.StartRefusal.{StartRefusal}
use Rattle.lines.specs.declared.StartRefusal.TheVariants.{FewSlots}
use Rattle.station.specs.declared.StationLine.{StationLine}
use Rattle.head.specs.State.{fresh, record_at}
use Rattle.head.specs.declared.state.Head.{Head}

-- the lines break no rule and the board has a slot for each; the head has these lines, and every record is new
pub record Started (lines : List StationLine) (memory slots : ℕ) (h : Head) : Type 0 where
  pub sound : broken memory lines ≡ None
  pub enough : length lines ≤ slots
  pub same : lines_of h.lines ≡ lines
  pub room : h.lines.memory ≡ memory
  pub new : (k : ℕ) → record_at h k ≡ fresh

-- the first rule that is broken; that the board has too few slots is the last
abbrev pub NotStarted : List StationLine → ℕ → ℕ → StartRefusal → Type 0
NotStarted lines memory slots e =
    (broken memory lines ≡ Some e) ⊎ ((broken memory lines ≡ None) × (slots < length lines) × (e ≡ FewSlots))
