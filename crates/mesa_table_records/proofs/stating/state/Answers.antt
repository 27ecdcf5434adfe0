use Rattle.std.proofs.Common.{◌∙◌, ap, map, refl}
use Rattle.std.specs.Prelude.{flat_map}
use Rattle.mesa_catalog_table.specs.mesa_columns.Columns.{Columns}
use Rattle.mesa_schema.specs.Changes.{Lineage}
use Rattle.mesa_catalog_table.specs.mesa_store_spec.Checkpoint.{stating_range}
use Rattle.mesa_catalog_table.specs.Meaning.{tens_from}
use Rattle.mesa_table_records.specs.Stated.{stating_loaded}
use Rattle.mesa_table_records.proofs.Stated.{table_stated}
use Rattle.mesa_table_records.proofs.stating.state.Goals as goal

pub returns : goal.returns
returns c = λ next table.
    table_stated next c.args.table.now _ table (record {
      name = c.in_ok-name.ensures;
      oldest = refl;
      begins = c.begins.ensures.number ∙ ap (λ (l : Lineage). l.begins) c.deref-6.ensures;
      keys = c.from_vec.ensures ∙ c.in_ok-keys.ensures ∙ c.keys.ensures.same ∙ ap (λ (s : Columns). s.keys) c.first-first.ensures ∙ ap (λ (l : Lineage). l.first.keys) c.deref.ensures;
      values = c.from_vec-2.ensures ∙ c.in_ok-values.ensures ∙ c.values.ensures.same ∙ ap (λ (s : Columns). s.values) c.first-first.ensures ∙ ap (λ (l : Lineage). l.first.values) c.deref.ensures;
      changes = c.from_vec-3.ensures ∙ c.in_ok-changes.ensures ∙ c.changes.ensures ∙ ap (λ (l : Lineage). l.changes) c.deref-2.ensures;
      views = c.from_vec-4.ensures ∙ c.in_ok-views.ensures ∙ ap (λ (l : Lineage). l.views) c.deref-3.ensures;
      totals = c.in_ok-totals.ensures;
      base = c.in_ok-base.ensures;
      cumulatives = c.from_vec-5.ensures ∙ c.in_ok-cumulatives.ensures ∙ (λ i. map stating_range (tens_from (c.start.ensures.start i) (c.deref-4.ensures.value i)));
      singles = c.from_vec-6.ensures ∙ c.in_ok-singles.ensures ∙ ap (flat_map stating_loaded) c.deref-5.ensures.value;
    })
