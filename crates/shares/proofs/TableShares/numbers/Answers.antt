use Rattle.std.proofs.Common.{◌≡◌, ℕ, ◌+◌, List, ◌∷◌, drop, arith, append_assoc, sym, ap, ◌∙◌}
use Rattle.std.proofs.lemmas.Bool.Decides.{nat_tests}
use Rattle.std.proofs.lemmas.List.{drop_more}
use Rattle.table.specs.declared.Record.{Record}
use Rattle.shares.proofs.TableShares.numbers.Goals as goal
use Rattle.shares.proofs.TableShares.numbers.Goals.{then-from-slot+in_ok-append_record, else-from-slot}

pub loop-row-preserved : goal.loop-row-preserved
loop-row-preserved c =
    let rows : List Record = c.records-row-items.result.now in
    let i : ℕ = c.loop-row.row-index in
    let r : Record = c.row-item.result in
    let here : drop i rows ≡ r ∷ drop (i + 1) rows = drop_more rows i r c.loop-row-test.true ∙ ap (λ (x : Record). x ∷ drop (i + 1) rows) (sym c.row-item.is) in
    let so_far = rw here at c.loop-row.invariant in
    elim c.if-from-slot.branch [
      | then-from-slot+in_ok-append_record w ↦ grind (arith, nat_tests, append_assoc, so_far)
      | else-from-slot w ↦ grind (arith, nat_tests, so_far)
    ]
