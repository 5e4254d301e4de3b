use Rattle.std.proofs.Common.{◌≡◌, ◌++◌, drop, vec_items}
use Rattle.table.specs.Shares.{share_of}
use Rattle.shares.proofs.TableShares.numbers.Given as goal

abbrev pub invariant-loop-row : goal.invariant-loop-row
invariant-loop-row l = vec_items l.numbers ++ share_of l.slot (drop l.row-index l.row-items) ≡ share_of l.slot l.row-items
