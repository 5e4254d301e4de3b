-- Of which records a table is made, and for which reason it is refused. Assumes nothing.
use Rattle.std.specs.Prelude.{ℕ, ◌≤◌, List, length}
use Rattle.table.specs.declared.record.Record.{Record}
use Rattle.table.specs.declared.refusal.TableRefusal.{TableRefusal}
use Rattle.table.specs.declared.refusal.TableRefusal.TheVariants as R
use Rattle.table.specs.Records.{AllMeet, Apart, in_range, present, typed}

abbrev pub refusal_number : TableRefusal → ℕ
refusal_number R.TooManyRecords = 43
refusal_number R.OutOfRange = 43
refusal_number R.AbsentChannel = 43
refusal_number R.WrongType = 43
refusal_number R.PairTwice = 43

abbrev pub Few : List Record → Type 0
Few rs = length rs ≤ 4096

-- THE RECORDS OF A TABLE
pub record Sound (rs : List Record) : Type 0 where
  pub few : Few rs
  pub ranged : AllMeet in_range rs
  pub present : AllMeet present rs
  pub typed : AllMeet typed rs
  pub apart : Apart rs

-- the first of these that fails is the reason of the refusal
abbrev pub Refused : TableRefusal → List Record → Type 0
Refused R.TooManyRecords rs = Few rs → ⊥
Refused R.OutOfRange rs = Few rs × (AllMeet in_range rs → ⊥)
Refused R.AbsentChannel rs = Few rs × AllMeet in_range rs × (AllMeet present rs → ⊥)
Refused R.WrongType rs = Few rs × AllMeet in_range rs × AllMeet present rs × (AllMeet typed rs → ⊥)
Refused R.PairTwice rs = Few rs × AllMeet in_range rs × AllMeet present rs × AllMeet typed rs × (Apart rs → ⊥)
