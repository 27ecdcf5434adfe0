-- A table that is recast stands for the recast table.
use Rattle.std.proofs.Common.{◌≡◌, ℕ, zero, suc, ◌+◌, ◌-◌, List, ◌∷◌, ◌++◌, map, take, refl, sym, ◌∙◌, ap, Option}
use Rattle.std.specs.List.{AllByRecursion, range_with_len}
use Rattle.mesa_history_spec.specs.mesa_columns.Columns.{aggs_of}
use Rattle.mesa_history_spec.specs.mesa_schema.Changes.{columns_of}
use Rattle.mesa_history_spec.specs.mesa_fold.Folded.{folded, rows_of}
use Rattle.mesa_history_spec.specs.mesa_schema.Recasts.{IsRecastOf, Recast, recast_lineage, recast_rows}
use Rattle.mesa_history_spec.specs.mesa_columns.Rows.{AreRowsOf}
use Rattle.mesa_history_spec.specs.mesa_batch.Totals.{totals_recast}
use Rattle.mesa_history_spec.proofs.mesa_schema.Recasting.{recast_folds}
use Rattle.mesa_history_spec.specs.mesa_model.Tables.{table_recast}
use Rattle.mesa_store_spec.specs.Catalog.{Delta, Ending, TableMeta, start_in, meta_renewed}
use Rattle.mesa_store_spec.specs.Contents.{Rows, content, deltas_to, present, table_of}
use Rattle.mesa_store_spec.specs.Fitting.{base_deltas, delta_live, deltas_of}
use Rattle.mesa_store_spec.specs.Shape.{IsShaped}
use Rattle.mesa_store_spec.specs.Sound.{HasSoundRows, IsTold}
use Rattle.mesa_store_spec.proofs.Formed.{all_formed, rows_formed, up_to}
use Rattle.mesa_store_spec.proofs.Lists.{all_unflat}
use Rattle.mesa_store_spec.proofs.Recasting.{IsRecastTo, base_places, places_append, places_take, present_all, same_start}

module _ (rows : Rows) (floor next : ℕ) (t : TableMeta) (r : Recast) (base : Option Ending) (singles : List Delta) (shaped : IsShaped floor next t) (sound_rows : HasSoundRows rows t) (rules : IsRecastOf (columns_of t.lineage) r) (is : IsRecastTo rows t r base singles) where
  pub formed : AllByRecursion (λ (d : Delta). AreRowsOf (columns_of t.lineage) (present rows t.lineage d)) (deltas_of t)
  formed = all_formed rows t.lineage (deltas_of t) shaped.lineage (all_unflat (IsTold rows) (delta_live t.lineage) (deltas_of t) sound_rows.files)

  -- A content after the recast is the content before it, regrouped.
  pub content_recast : (version : ℕ) → content rows (meta_renewed t r base singles) version ≡ recast_rows (columns_of t.lineage) r (content rows t version)
  content_recast version =
      let n : ℕ = version + 1 - start_in t in
      let same : version + 1 - start_in (meta_renewed t r base singles) ≡ version + 1 - start_in t = ap (λ k. version + 1 - k) (same_start rows t r base singles is.at_base) in
      let places = places_append rows t.lineage r (base_deltas t.base) (base_deltas base) (take n t.singles) (take n singles) (base_places rows t.lineage r t.base base is.at_base) (places_take rows t.lineage r n t.singles singles is.at_singles) in
      let forms : AreRowsOf (columns_of t.lineage) (rows_of (map (present rows t.lineage) (deltas_to t version))) =
      rows_formed rows t.lineage (deltas_to t version) (up_to (λ (d : Delta). AreRowsOf (columns_of t.lineage) (present rows t.lineage d)) t version formed) in
      ap (λ k. folded (aggs_of (columns_of (recast_lineage t.lineage r))) (map (present rows (recast_lineage t.lineage r)) (base_deltas base ++ take k singles))) same
      ∙ ap (folded (aggs_of (columns_of (recast_lineage t.lineage r)))) (present_all rows t.lineage r (deltas_to t version) (base_deltas base ++ take n singles) places)
      ∙ sym (recast_folds (columns_of t.lineage) r (map (present rows t.lineage) (deltas_to t version)) rules forms)

  contents_recast : (from n : ℕ) → map (content rows (meta_renewed t r base singles)) (range_with_len from n) ≡ map (recast_rows (columns_of t.lineage) r) (map (content rows t) (range_with_len from n))
  contents_recast from zero = refl
  contents_recast from (suc n) = λ i. content_recast from i ∷ contents_recast (from + 1) n i

  pub recast_step : table_of rows next (meta_renewed t r base singles) ≡ table_recast (table_of rows next t) r
  recast_step = λ i. record {
    name = t.name;
    lineage = recast_lineage t.lineage r;
    totals = totals_recast (columns_of t.lineage) r t.totals;
    oldest = t.oldest;
    contents = contents_recast t.oldest (next - t.oldest) i;
  }
