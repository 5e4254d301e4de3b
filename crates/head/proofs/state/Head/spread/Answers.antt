use Rattle.std.proofs.Common.{◌≡◌, ℕ, List, sym, ◌∙◌, subst}
use Rattle.board.specs.Boards.{rules}
use Rattle.board.specs.Meaning.{Rules}
use Rattle.lines.specs.Making.{line_at}
use Rattle.lines.specs.declared.Lines.{Lines}
use Rattle.station.specs.Model.{Station, station_of}
use Rattle.telegram.specs.View.{frame}
use Rattle.head.specs.Bursts.{after_broadcast}
use Rattle.head.specs.State.{record_at}
use Rattle.head.proofs.Steps.{one_slot_more, same_station}
use Rattle.head.proofs.state.Head.spread.Goals as goal

pub loop-slot-preserved : goal.loop-slot-preserved
loop-slot-preserved g c =
    let R : Rules = rules g.B.Board in
    let T : Station → Station = after_broadcast R (frame c.args.fields.now) in
    let lines : Lines = c.args.self.now.lines in
    let slot : ℕ = c.loop-slot.slot in
    let said = c.overhear_at.ensures in
    let entry : ℕ → List ℕ → Station = λ k settings. station_of (line_at lines k) (record_at c.args.self.now k) settings (g.B.Board.share c.args.board.now k) in
    let before : ℕ → List ℕ → Station = λ k settings. station_of (line_at lines k) (record_at c.loop-slot.self k) settings (g.B.Board.share c.loop-slot.board k) in
    let after : ℕ → List ℕ → Station = λ k settings. station_of (line_at lines k) (record_at c.overhear_at.new.self k) settings (g.B.Board.share c.overhear_at.new.board k) in
    let turned : (settings : List ℕ) → after slot settings ≡ T (before slot settings) = λ settings.
    subst (λ (t : Lines). station_of (line_at t slot) (record_at c.overhear_at.new.self slot) settings (g.B.Board.share c.overhear_at.new.board slot) ≡ T (station_of (line_at t slot) (record_at c.loop-slot.self slot) settings (g.B.Board.share c.loop-slot.board slot))) c.loop-slot.invariant.0 (said.turned settings) in (
      said.lines ∙ c.loop-slot.invariant.0,
      said.same ∙ c.loop-slot.invariant.1,
      λ k settings.
          one_slot_more T (entry k settings) (before k settings) (after k settings) k slot (c.loop-slot.invariant.2 k settings)
          (λ apart. same_station (line_at lines k) _ _ settings _ _ (said.others k apart).0 (said.others k apart).1)
          (λ here. subst (λ (j : ℕ). after j settings ≡ T (before j settings)) (sym here) (turned settings)),
    )
