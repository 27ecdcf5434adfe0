use Rattle.std.proofs.Common.{◌++◌, [], ◌∷◌, ◌∙◌, ap, sym, take, get_or, add-one}
use Rattle.std.proofs.Math.Seq.{take-suc}
use Rattle.mesa_schema.specs.mesa_columns.Lent.{lent}
use Rattle.mesa_batch.specs.Gathered.{rows_at}
use Rattle.mesa_batch.proofs.LoadedRows.{some_at}
use Rattle.mesa_batch.proofs.batch.Batch.rows.Goals as goal

pub places-preserved : goal.places-preserved
places-preserved c =
    let all = rows_at c.args.table c.args.self.now in
    let row = lent c.row.result in
    let found = some_at all c.places.place row (sym c.row.ensures) in
    c.in_ok-push.ensures.ok
    ∙ ap (λ r. c.places.rows ++ r ∷ []) (c.in_ok-to_row.ensures ∙ found.1)
    ∙ ap (λ l. l ++ get_or all c.places.place row ∷ []) c.places.invariant
    ∙ sym (take-suc all c.places.place row found.0)
    ∙ ap (λ n. take n all) (sym (add-one c.places.place))
