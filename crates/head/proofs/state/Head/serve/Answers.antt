use Rattle.std.proofs.Common.{ℕ, List, ◌++◌, length, drop, refl, ap, ◌∙◌}
use Rattle.board.specs.Boards.{rules}
use Rattle.board.specs.Meaning.{Rules}
use Rattle.telegram.specs.Layout.{Frame, frame_bytes}
use Rattle.telegram.specs.View.{frame}
use Rattle.head.specs.Burst.{Cabinet}
use Rattle.head.specs.Bursts.{reply_to}
use Rattle.head.proofs.Cabinets.{moved_by_one, moved_by_all}
use Rattle.head.proofs.state.Head.serve.Goals as goal

pub returns-in_default : goal.returns-in_default
returns-in_default g c =
    let R : Rules = rules g.B.Board in
    let f : Frame = frame c.args.fields.now in
    let a : Cabinet = record { head = c.args.self.now; memory = c.args.memory.now; shares = g.B.Board.share c.args.board.now } in
    let b : Cabinet = record { head = c.spread.new.self; memory = c.args.memory.now; shares = g.B.Board.share c.spread.new.board } in
    let unnamed = c.in_default.ensures in
    record {
      same = c.spread.ensures.same;
      served = (moved_by_all R f a b c.spread.ensures.lines c.requires.asked unnamed refl c.spread.ensures.turned, unnamed, refl);
      short = tt;
      listens = refl;
    }

pub returns : goal.returns
returns g c =
    let R : Rules = rules g.B.Board in
    let f : Frame = frame c.args.fields.now in
    let done = c.answer_at-payload.ensures in
    let a : Cabinet = record { head = c.args.self.now; memory = c.args.memory.now; shares = g.B.Board.share c.args.board.now } in
    let b : Cabinet = record { head = c.answer_at-payload.new.self; memory = c.answer_at-payload.new.memory; shares = g.B.Board.share c.answer_at-payload.new.board } in
    let found = c.in-Some.ensures in
    let told = done.became.replied in
    record {
      same = done.same;
      served = (
        moved_by_one R f a b done.lines c.in-Some.slot found.0 c.requires.asked found.1 done.became.turned done.records done.window done.became.others,
        record {
          there = found.0;
          named = found.1;
          count = c.talk-length.ensures.count ∙ ap (λ (p : List ℕ). length (frame_bytes (reply_to f p))) told;
          bytes = c.talk-length.ensures.bytes ∙ ap (λ (p : List ℕ). frame_bytes (reply_to f p) ++ drop c.talk-length.result c.args.reply.now) told;
        },
      );
      short = c.talk-length.ensures.short;
      listens = c.talk-length.ensures.listens;
    }
