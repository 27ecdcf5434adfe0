use Rattle.std.proofs.Common.{◌∙◌, ◌++◌, ◌∷◌, [], List, ap, append_assoc, sym, take}
use Rattle.mesa_delta.specs.mesa_columns.declared.rows.Row.{Row}
use Rattle.mesa_delta.specs.mesa_columns.Lent.{lent}
use Rattle.mesa_scan.proofs.Chosen.{one_taken}
use Rattle.mesa_scan.proofs.whole.add_copies.Goals as goal

pub loop-i-preserved : goal.loop-i-preserved
loop-i-preserved c =
    let i = c.loop-i.i in
    let old = c.args.rows.now.items in
    let more = c.args.more.now in
    let row : Row = lent c.row.result in
    c.in_ok-push.ensures.items ∙ (λ j. c.loop-i.invariant j ++ c.in_ok-to_row.ensures j ∷ []) ∙ append_assoc old (take i more) (row ∷ [])
    ∙ ap (λ (rows : List Row). old ++ rows) (sym (one_taken more i row c.row.ensures))
