use Rattle.std.proofs.Common.{refl, ◌+◌, ◌*◌, [], ◌∷◌, vec_items, arith}
use Rattle.std.proofs.lemmas.Slice.{pushed}
use Rattle.capture.proofs.Decoding.{waits, joins, skips, ends, halves, wrong, all, all_but_half}
use Rattle.capture.proofs.hex.decode.Goals as goal
use Rattle.capture.proofs.hex.decode.Goals.{in-Digit-None, in-Digit-Some+in_ok-push-in-Digit-Some, in-Blank-None}

pub returns-in-Comment-None : goal.returns-in-Comment-None
returns-in-Comment-None c =
    ends c.args.line.now c.loop-i.i (vec_items c.loop-i.bytes) c.loop-i-test.true c.loop-i.high c.loop-i.invariant.0
    c.classify.result c.classify.ensures c.in-Comment-None.is-0 c.in-Comment-None.is-1

pub returns-in-Other-default : goal.returns-in-Other-default
returns-in-Other-default c =
    wrong c.args.line.now c.loop-i.i (vec_items c.loop-i.bytes) c.loop-i-test.true c.loop-i.high c.loop-i.invariant.0
    c.classify.result c.classify.ensures c.in-Other-default.is-0

pub returns-in-Blank-Some : goal.returns-in-Blank-Some
returns-in-Blank-Some c =
    let half = halves c.args.line.now c.loop-i.i (vec_items c.loop-i.bytes) c.loop-i-test.true c.loop-i.high c.loop-i.invariant.0 c.classify.result c.classify.ensures in
    grind (arith, half)

pub returns-in-None : goal.returns-in-None
returns-in-None c =
    all c.args.line.now (vec_items c.loop-i.bytes) c.loop-i.i c.loop-i-test.false c.loop-i.high c.loop-i.invariant.0 c.in-None.is

pub returns-in-Some : goal.returns-in-Some
returns-in-Some c =
    all_but_half c.args.line.now (vec_items c.loop-i.bytes) c.loop-i.i c.loop-i-test.false c.loop-i.high c.loop-i.invariant.0
    c.in-Some.field-0 c.in-Some.is (omega arith)

pub loop-i-preserved : goal.loop-i-preserved
loop-i-preserved c =
    let line = c.args.line.now in
    let i = c.loop-i.i in
    let bytes = vec_items c.loop-i.bytes in
    let inside = c.loop-i-test.true in
    let high = c.loop-i.high in
    let left = c.loop-i.invariant.0 in
    let kind = c.classify.ensures in
    elim c.match-classify.branch [
      | in-Digit-None w ↦
          let here = w.in-Digit-None in
          simp (w.high-is, w.bytes-is) (waits line i bytes inside high left c.classify.result kind here.digit here.is-0 here.is-1)
      | in-Digit-Some+in_ok-push-in-Digit-Some w ↦
          let here = w.in-Digit-Some in
          let more = pushed ((16 * here.x + here.digit) ∷ []) refl w.in_ok-push-in-Digit-Some.was w.push.ensures.items in
          simp (w.high-is, w.bytes-is, more)
          (joins line i bytes inside high left c.classify.result kind here.x here.digit here.is-0 here.is-1, tt)
      | in-Blank-None w ↦
          simp (w.high-is, w.bytes-is)
          (skips line i bytes inside high left c.classify.result kind w.in-Blank-None.is-0 w.in-Blank-None.is-1, c.loop-i.invariant.1)
    ]
