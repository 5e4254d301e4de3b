-- Views over the telegram of a burst. Assumes nothing.
use Rattle.std.specs.Prelude.{ℕ, ◌≤◌, List}
use Rattle.telegram.specs.declared.Telegram.{Telegram}
use Rattle.telegram.specs.Layout.{Stands, First, NoneBetween}
use Rattle.telegram.specs.View.{Views}

-- a view over the telegram at the lowest position where one stands
abbrev pub ShowsFirst : List ℕ → Telegram → Type 0
ShowsFirst s t = (p : ℕ) × Views s p t × First s p

-- and over the one at the lowest position that is not below `start`
abbrev pub ShowsFirstFrom : List ℕ → ℕ → Telegram → Type 0
ShowsFirstFrom s start t = (p : ℕ) × Views s p t × Stands s p × (start ≤ p) × NoneBetween s start p
