use Rattle.std.proofs.Common.{◌≡◌, ℕ, List, drop, ◌∙◌, arith}
use Rattle.std.proofs.lemmas.List.{take_rest}
use Rattle.telegram.specs.Layout.{word}
use Rattle.station.specs.Replies.{overwritten}
use Rattle.station.proofs.Over.{put_over, well}
use Rattle.station.proofs.settings.write_settings.Goals as goal

pub returns-clause-after : goal.returns-clause-after
returns-clause-after c =
    let p : List ℕ = c.args.payload.now in
    let window : List ℕ = c.args.window.now in
    let bytes = take_rest p 3 in
    let start : c.from-start.result ≡ word p 0 = omega arith in
    put_over window (drop 3 p) c.copy_from_slice.new.self c.from-start.result (word p 0) _ start (c.copy_from_slice.ensures.after ∙ bytes) (rw bytes (omega arith))
    ∙ well c.alone-2.result (overwritten window (word p 0) (drop 3 p)) window c.alone-2.ensures
