use Rattle.std.proofs.Common.{◌∙◌, ap, map}
use Rattle.mesa_catalog_table.specs.mesa_columns.declared.columns.ValueColumn.{ValueColumn}
use Rattle.mesa_catalog_table.specs.mesa_columns.Columns.{Columns, places_in}
use Rattle.mesa_schema.specs.Changes.{Lineage, columns_of}
use Rattle.mesa_batch.specs.Totals.{chosen_totals}
use Rattle.mesa_catalog_table.proofs.Tests.{if_ok}
use Rattle.mesa_table_records.proofs.recasting.renew_totals.Goals as goal

pub returns : goal.returns
returns c =
    let columns = c.values-columns.ensures.same ∙ ap (λ (s : Columns). s.values) c.present.ensures.columns ∙ ap (λ (l : Lineage). (columns_of l).values) c.deref.ensures in
    if_ok c.totals_recast.result _ _ (λ totals is.
    is ∙ (λ i. chosen_totals (map (λ (x : ValueColumn). x.agg) (columns i)) c.args.t.now.totals (places_in (map (λ (x : ValueColumn). x.name) (columns i)) (c.as_slice.ensures i)))) c.totals_recast.ensures
