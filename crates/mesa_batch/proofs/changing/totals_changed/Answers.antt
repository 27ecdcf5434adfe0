use Rattle.std.proofs.Common.{◌≡◌, ℕ, List, ◌∙◌, ap, sym, subst, length, map}
use Rattle.std.specs.Prelude.{IfOk, unwrap_or}
use Rattle.mesa_schema.specs.mesa_columns.declared.columns.ValueColumn.{ValueColumn}
use Rattle.mesa_schema.specs.mesa_columns.declared.changes.Change.{Change}
use Rattle.mesa_schema.specs.mesa_columns.Columns.{place_of}
use Rattle.mesa_batch.specs.Totals.{totals_after, totals_without}
use Rattle.mesa_batch.proofs.changing.totals_changed.Goals as goal

pub returns-in-DropValue : goal.returns-in-DropValue
returns-in-DropValue c =
    let s = c.args.schema.now in
    let columns = c.values-columns.ensures.same in
    let found = c.place_of.ensures.place ∙ (λ i. place_of (c.bytes.ensures.same i) (map (λ (column : ValueColumn). column.name) (columns i))) in
    let place = c.unwrap_or-place.ensures ∙ (λ i. unwrap_or (found i) (length (columns i))) in
    let after = (λ i. totals_without (map (λ (column : ValueColumn). column.agg) (columns i)) (place i) c.args.totals.now) ∙ ap (λ (change : Change). totals_after s change c.args.totals.now) (sym c.in-DropValue.is) in
    subst (λ (ts : List ℕ). IfOk c.without_column.result (λ found. found ≡ ts)) after c.without_column.ensures
