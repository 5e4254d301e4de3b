use Rattle.std.proofs.Common.{◌≡◌, Bool, length}
use Rattle.lines.specs.Rules as rules
use Rattle.station.specs.declared.StationLine.{StationLine}
use Rattle.lines.proofs.rules.every_two.Given as goal

abbrev pub invariant-loop-line : goal.invariant-loop-line
invariant-loop-line g l =
    (asks : StationLine → StationLine → Bool) → ((a b : _) (r : Bool) → goal.F-post g l.test a b r → r ≡ asks a.now b.now)
    → rules.every_two asks l.lines ≡ rules.every_two asks l.rest

abbrev pub decreases-loop-line : goal.decreases-loop-line
decreases-loop-line g l = length l.rest
