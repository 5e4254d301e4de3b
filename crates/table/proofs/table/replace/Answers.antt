use Rattle.std.proofs.Common.{rules, sym, ◌≡◌, Err}
use Rattle.board.specs.declared.refusal.PutRefusal.TheVariants.{NotPuttable}
use Rattle.table.proofs.Puts.{put_absent, put_first, put_missing, put_mistyped}
use Rattle.table.proofs.table.replace.Goals as goal
use Rattle.table.proofs.table.replace.Goals.{then-is_absent-via-then-is_absent, then-is_absent-via-else-is_absent+then-not-is_of_type}

pub returns-in_err-i : goal.returns-in_err-i
returns-in_err-i c =
    let missing = rw c.in_err-i.ensures.ok_part at c.find.ensures in
    let e : c.from_residual.result ≡ Err NotPuttable = search rules in
    rw e (put_missing c.args.records.now c.args.slot c.args.channel c.args.outcome missing)

pub returns-then-is_absent : goal.returns-then-is_absent
returns-then-is_absent c =
    let first = rw c.in_ok-i.ensures.ok_part at c.find.ensures in
    elim c.then-is_absent.branch [
      | then-is_absent-via-then-is_absent w ↦
          put_absent c.args.records.now c.args.slot c.args.channel c.args.outcome c.in_ok-i.i first (sym w.if-is_absent.ensures)
      | then-is_absent-via-else-is_absent+then-not-is_of_type w ↦
          put_mistyped c.args.records.now c.args.slot c.args.channel c.args.outcome c.in_ok-i.i first
          w.index-records-i.result (sym w.if-is_absent.ensures) (sym w.if-not-is_of_type.ensures)
    ]

pub returns : goal.returns
returns c =
    let first = rw c.in_ok-i.ensures.ok_part at c.find.ensures in
    put_first c.args.records.now c.args.slot c.args.channel c.args.outcome c.in_ok-i.i first
    c.index-records-i.result c.index-records-i-2.result (sym c.if-is_absent.ensures) (sym c.if-not-is_of_type.ensures)
