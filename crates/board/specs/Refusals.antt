-- The numbers of a put's refusals. Assumes nothing.
use Rattle.std.specs.Prelude.{ℕ}
use Rattle.board.specs.declared.refusal.PutRefusal.{PutRefusal}
use Rattle.board.specs.declared.refusal.PutRefusal.TheVariants.{NoSlot, NotPuttable, WrongType}

abbrev pub refusal_number : PutRefusal → ℕ
refusal_number NoSlot = 20
refusal_number NotPuttable = 21
refusal_number WrongType = 22
