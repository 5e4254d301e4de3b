-- What the contracts over a board cite of it. Assumes nothing.
use Rattle.board.specs.Meaning.{Rules}
use Rattle.board.specs.declared.interface.Board as board

-- the three rules of a board's make
abbrev pub rules : {B : Type 0} → board.Ghosts B → Rules
rules b = record { tells = b.tells; stored = b.stored; restarted = b.restarted }
