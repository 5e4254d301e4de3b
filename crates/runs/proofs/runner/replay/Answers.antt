use Rattle.std.proofs.Common.{◌≡◌, ℕ, List, length, take, Some, ◌∙◌, arith}
use Rattle.std.proofs.lemmas.List.{take_all}
use Rattle.board.specs.Boards.{rules}
use Rattle.head.specs.Burst.{cabinet}
use Rattle.runs.specs.Runs.{OfOneStart}
use Rattle.runs.specs.declared.call.Entry.{Entry}
use Rattle.runs.proofs.Law.{run_obeys}
use Rattle.runs.proofs.Noting.{calls_kept, run_noted, scene_noted}
use Rattle.runs.proofs.runner.replay.Goals as goal

pub loop-entry-preserved : goal.loop-entry-preserved
loop-entry-preserved g c =
    let inv = c.loop-entry.invariant in
    let said = c.make.ensures in
    let lent : ℕ = length c.args.buffer.now in
    let list : List Entry = c.loop-entry.list in
    let i : ℕ = c.loop-entry.entry-index in
    let d : Entry = c.entry-item.result in
    record {
      count = said.same ∙ inv.count;
      same = calls_kept list i d (Some c.make.result) (omega arith) ∙ inv.same;
      run = run_noted list i d (Some c.make.result) (omega arith) lent (rules g.B.Board) (g.B.Board.count c.args.board.now) (g.B.Board.count c.loop-entry.board) (length c.loop-entry.buffer) _ _ _ inv.count c.loop-entry.auto.buffer inv.run said.step;
      scene = scene_noted list i d (Some c.make.result) (omega arith) lent _ _ _ inv.scene said.scene;
    }

pub returns-clause-replayed : goal.returns-clause-replayed
returns-clause-replayed g c =
    let all : take c.loop-entry.entry-index c.loop-entry.list ≡ c.loop-entry.list = take_all c.loop-entry.entry-index c.loop-entry.list (omega arith) in
    let run = rw all at c.loop-entry.invariant.run in
    let started : OfOneStart (cabinet c.args.head.now c.args.memory.now (g.B.Board.share c.args.board.now)) (g.B.Board.count c.args.board.now) = record { memory = omega (arith, c.memory.ensures); enough = omega (arith, c.slots.ensures, c.count.ensures) } in
    record { started = started; same = c.loop-entry.invariant.same; run = run; law = run_obeys _ _ _ _ _ started run }
