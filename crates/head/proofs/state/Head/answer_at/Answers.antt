use Rattle.std.proofs.Common.{◌≡◌, ℕ, ◌+◌, ◌≤◌, List, length, get_or, sym, ap, ◌∙◌, arith, length-drop, length-take}
use Rattle.std.proofs.lemmas.Result.{MatchResult-at_ok}
use Rattle.board.specs.Boards.{rules}
use Rattle.board.specs.Meaning.{Rules}
use Rattle.station.specs.Model.{Station, answered}
use Rattle.station.specs.declared.StationLine.{StationLine}
use Rattle.telegram.specs.View.{frame}
use Rattle.head.specs.State.{fresh}
use Rattle.head.proofs.Windows.{line_is, line_inside, seen_before, seen_after, only_its_own}
use Rattle.head.proofs.state.Head.answer_at.Goals as goal

pub returns-clause-became : goal.returns-clause-became
returns-clause-became g c =
    let became = MatchResult-at_ok _ _ _ c.unwrap.ensures c.respond.ensures.became in
    let head = c.args.self.now in
    let slot : ℕ = c.args.slot in
    let memory : List ℕ = c.args.memory.now in
    let l : StationLine = c.unwrap-line.result in
    let line = line_is head.lines slot l c.requires.there (sym c.unwrap-line.ensures ∙ c.line.ensures.value) in
    let inside : l.first + l.size ≤ length memory = omega (arith, line_inside head.lines slot l c.requires.there line, c.requires.memory) in
    let long : length c.respond.new.window ≡ l.size = c.respond.auto.window ∙ simp (length-take, length-drop) (omega arith) in
    let before = seen_before head.lines slot l (get_or head.records slot fresh) memory (g.B.Board.share c.args.board.now slot) line in
    let after = seen_after head.lines slot l head.records c.respond.new.state memory c.respond.new.window (g.B.Board.share c.respond.new.board slot) line (omega (arith, head.long, head.lines.few, c.requires.there)) inside long in
    let R : Rules = rules g.B.Board in
    record {
      replied = became.replied ∙ ap (λ (st : Station). (answered R st (frame c.args.fields.now)).payload) before;
      turned = after ∙ became.turned ∙ ap (λ (st : Station). (answered R st (frame c.args.fields.now)).after) before;
      others = became.others;
    }

pub returns-clause-window : goal.returns-clause-window
returns-clause-window g c =
    let head = c.args.self.now in
    let slot : ℕ = c.args.slot in
    let l : StationLine = c.unwrap-line.result in
    let line = line_is head.lines slot l c.requires.there (sym c.unwrap-line.ensures ∙ c.line.ensures.value) in
    let inside : l.first + l.size ≤ length c.args.memory.now = omega (arith, line_inside head.lines slot l c.requires.there line, c.requires.memory) in
    only_its_own head.lines slot l c.args.memory.now c.respond.new.window line inside (c.respond.auto.window ∙ simp (length-take, length-drop) (omega arith))
