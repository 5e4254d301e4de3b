use Rattle.std.proofs.Common.{◌≡◌, ℕ, cond, ltb}
use Rattle.head.specs.Calls.{ticked}
use Rattle.head.specs.State.{record_at}
use Rattle.head.proofs.state.Head.tick.Given as goal

abbrev pub invariant-loop-slot : goal.invariant-loop-slot
invariant-loop-slot l =
    (l.self.lines ≡ l.initial.self.lines)
    × ((k : ℕ) → record_at l.self k ≡ cond (ltb k l.slot) (ticked (record_at l.initial.self k) l.seconds) (record_at l.initial.self k))
