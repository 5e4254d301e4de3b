use Rattle.std.proofs.Common.{◌≡◌, ℕ, cond, ltb, List}
use Rattle.board.specs.Boards.{rules}
use Rattle.lines.specs.Making.{line_at}
use Rattle.station.specs.Model.{station_of}
use Rattle.telegram.specs.View.{frame}
use Rattle.head.specs.Bursts.{after_broadcast}
use Rattle.head.specs.State.{record_at}
use Rattle.head.proofs.state.Head.spread.Given as goal

abbrev pub invariant-loop-slot : goal.invariant-loop-slot
invariant-loop-slot g l =
    (l.self.lines ≡ l.initial.self.lines)
    × (g.B.Board.count l.board ≡ g.B.Board.count l.initial.board)
    × ((k : ℕ) (settings : List ℕ) → station_of (line_at l.initial.self.lines k) (record_at l.self k) settings (g.B.Board.share l.board k) ≡ cond (ltb k l.slot) (after_broadcast (rules g.B.Board) (frame l.fields) (station_of (line_at l.initial.self.lines k) (record_at l.initial.self k) settings (g.B.Board.share l.initial.board k))) (station_of (line_at l.initial.self.lines k) (record_at l.initial.self k) settings (g.B.Board.share l.initial.board k)))
