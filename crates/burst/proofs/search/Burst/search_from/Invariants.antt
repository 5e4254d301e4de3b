use Rattle.telegram.specs.Layout.{NoneBetween}
use Rattle.burst.proofs.search.Burst.search_from.Given as goal

abbrev pub invariant-loop-p : goal.invariant-loop-p
invariant-loop-p l = NoneBetween l.self.bytes.now l.start l.p
