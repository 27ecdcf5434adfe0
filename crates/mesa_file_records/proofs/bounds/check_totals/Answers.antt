use Rattle.std.proofs.Common.{◌≡◌, ◌∙◌, ℕ, ◌<◌, ◌≤◌, List, length, true, ap, sym, subst}
use Rattle.mesa_columns.specs.Columns.{Columns, aggs_of}
use Rattle.mesa_pick_files.specs.mesa_schema.Changes.{columns_of, epoch_of}
use Rattle.mesa_columns.specs.Schema.{is_schema}
use Rattle.mesa_batch.specs.Totals.{sum_places}
use Rattle.mesa_engine.specs.mesa_store_spec.Catalog.{Catalog, meta_at}
use Rattle.mesa_engine.specs.mesa_store_spec.Shape.{IsCatalog, IsShaped}
use Rattle.mesa_engine.proofs.mesa_store_spec.Lifted.{columns_now}
use Rattle.mesa_engine.proofs.mesa_store_spec.Lists.{meta_found}
use Rattle.mesa_batch.proofs.FewTotals.{few_totals, over_within}
use Rattle.mesa_file_records.proofs.bounds.check_totals.Goals as goal

shaped_at : (k : Catalog) (n : ℕ) → IsCatalog k → n < length k.tables → IsShaped k.floor k.next (meta_at k n)
shaped_at k n is lt = meta_found (IsShaped k.floor k.next) k.tables n lt is.tables

pub fits-requires-clause-few : goal.fits-requires-clause-few
fits-requires-clause-few c =
    let k = c.args.catalog.now.catalogue in
    let t = meta_at k c.args.table in
    let s = shaped_at k c.args.table c.requires.shaped c.requires.there in
    subst (λ (xs : List ℕ). length xs ≤ 65536) (sym c.totals.ensures) (few_totals (columns_of t.lineage) t.totals (subst (λ (x : Columns). is_schema x ≡ true) (columns_now t.lineage) (s.lineage.schemas (epoch_of t.lineage))) s.totals)

pub sum_column-requires : goal.sum_column-requires
sum_column-requires c =
    let k = c.args.catalog.now.catalogue in
    let s = shaped_at k c.args.table c.requires.shaped c.requires.there in
    let schema : c.present-schema.result.now ≡ columns_of (meta_at k c.args.table).lineage = c.present-schema.ensures.columns ∙ ap columns_of (c.deref.ensures ∙ c.evolving.ensures) in
    let count : length c.totals.result.now ≡ length (sum_places 0 (aggs_of c.present-schema.result.now)) = ap length c.totals.ensures ∙ s.totals ∙ ap (λ (x : Columns). length (sum_places 0 (aggs_of x))) (sym schema) in
    subst (λ n. c.in-Err.place < n) count (over_within c.totals.result.now c.args.totals.now c.in-Err.place (sym c.in-Err.ensures))
