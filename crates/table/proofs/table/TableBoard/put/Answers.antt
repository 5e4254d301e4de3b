use Rattle.std.proofs.Common.{refl, rules}
use Rattle.table.proofs.Puts.{invalid_refused}
use Rattle.table.proofs.table.TableBoard.put.Goals as goal

pub returns-then-slot-ge-SLOTS : goal.returns-then-slot-ge-SLOTS
returns-then-slot-ge-SLOTS c = record { same = refl; after = search rules; invalid = invalid_refused }

pub returns : goal.returns
returns c = record { same = refl; after = search rules; invalid = invalid_refused }
