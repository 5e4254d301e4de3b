use Rattle.std.proofs.Common.{rules, ◌≡◌, Bool, true, ◌&&◌, List, sym, ap, ◌∙◌}
use Rattle.std.proofs.lemmas.Iterator.Search.{all_from_yields_List}
use Rattle.std.proofs.lemmas.Iterator.{YieldsList-from_slice}
use Rattle.std.specs.List.{list_all}
use Rattle.station.specs.declared.StationLine.{StationLine}
use Rattle.lines.specs.Rules.{every_two}
use Rattle.lines.proofs.rules.every_two.Goals as goal

pub loop-line-preserved : goal.loop-line-preserved
loop-line-preserved g c asks same =
    let line : StationLine = c.in-Some.line.now in
    let later : List StationLine = c.in-Some.later.now in
    let pass : list_all (asks line) later ≡ true =
    sym (all_from_yields_List (asks line) _ _ _ c.all.ensures.ran (YieldsList-from_slice later c.iter.ensures.rest) (λ x b q k. search (rules, same))) ∙ c.if-not-all.false in
    c.loop-line.invariant asks same ∙ ap (every_two asks) c.in-Some.ensures.cases.0 ∙ ap (λ (b : Bool). b && every_two asks later) pass
