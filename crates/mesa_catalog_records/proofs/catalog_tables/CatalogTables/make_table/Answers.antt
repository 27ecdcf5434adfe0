use Rattle.std.proofs.Common.{List, ◌∷◌, [], ◌++◌, ◌∙◌, ap, refl, sym, length, map}
use Rattle.std.specs.Prelude.{replicate}
use Rattle.mesa_table_records.specs.mesa_columns.declared.columns.ValueColumn.{ValueColumn}
use Rattle.mesa_table_records.specs.mesa_columns.Columns.{Columns, aggs_of}
use Rattle.mesa_schema.specs.Changes.{Lineage, columns_of}
use Rattle.mesa_table_records.specs.mesa_batch.Totals.{sums_in}
use Rattle.mesa_catalog_records.proofs.Made.{new_made}
use Rattle.mesa_catalog_records.proofs.catalog_tables.CatalogTables.make_table.Goals as goal

pub returns-clause-made : goal.returns-clause-made
returns-clause-made c =
    let lineage = c.in_ok-evolving.ensures in
    let first = sym (ap (λ (l : Lineage). l.first) lineage) in
    let present = c.present-present.ensures.columns ∙ ap (λ (l : Lineage). columns_of l) (c.deref.ensures ∙ lineage) ∙ first in
    new_made c.args.self.now _ c.requires.live_files (record {
      lineage = lineage ∙ (λ i. record { begins = 0; first = first i; changes = []; views = [] });
      totals = c.in_ok-totals.ensures ∙ ap (λ (columns : List ValueColumn). replicate (sums_in (map (λ (column : ValueColumn). column.agg) columns)) 0) c.values.ensures.same ∙ ap (λ (s : Columns). replicate (sums_in (aggs_of s)) 0) present;
      oldest = refl;
      base = c.base_before_floor.ensures;
      cumulatives = c.new-2.ensures.items;
      loaded = c.new-3.ensures.items;
      widths = c.in_ok-widths.ensures ∙ (λ i. c.new.ensures i ++ length (present i).values ∷ []);
    })
