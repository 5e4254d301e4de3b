use Rattle.std.proofs.Common.{◌≡◌, length, take}
use Rattle.board.specs.Boards.{rules}
use Rattle.head.specs.Burst.{cabinet}
use Rattle.runs.specs.Calls.{exchanges}
use Rattle.runs.specs.Replaying.{calls, left}
use Rattle.runs.specs.Runs.{Run}
use Rattle.runs.proofs.runner.replay.Given as goal

abbrev pub invariant-loop-entry : goal.invariant-loop-entry
invariant-loop-entry g l =
    record {
      count : g.B.Board.count l.board ≡ g.B.Board.count l.initial.board;
      same : calls l.list ≡ calls l.initial.list;
      run : Run (rules g.B.Board) (g.B.Board.count l.initial.board) (cabinet l.initial.head l.initial.memory (g.B.Board.share l.initial.board)) (exchanges (length l.initial.buffer) (take l.entry-index l.list)) (cabinet l.head l.memory (g.B.Board.share l.board));
      scene : record { buffer = l.buffer; talking = l.line.talking } ≡ left (record { buffer = l.initial.buffer; talking = l.initial.line.talking }) (exchanges (length l.initial.buffer) (take l.entry-index l.list));
    }
