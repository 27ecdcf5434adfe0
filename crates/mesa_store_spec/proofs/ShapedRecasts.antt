-- A recast that fits keeps what catalogues keep.
use Rattle.std.proofs.Common.{◌≡◌, ℕ, zero, suc, ◌<◌, ◌≤◌, List, [], ◌∷◌, ◌++◌, length, Option, Some, None, true, false, refl, arith, cond, slice_get, slice_index_or, take}
use Rattle.std.specs.Prelude.{IfSome}
use Rattle.std.specs.List.{AllByRecursion}
use Rattle.mesa_delta_format.specs.mesa_value.declared.Agg.{Agg}
use Rattle.mesa_history_spec.specs.mesa_columns.Columns.{aggs_of}
use Rattle.mesa_history_spec.specs.mesa_schema.Changes.{Lineage, columns_of, epoch_of}
use Rattle.mesa_history_spec.specs.mesa_schema.Recasts.{recast_lineage, recast_values}
use Rattle.mesa_history_spec.specs.mesa_batch.Totals.{chosen_totals, is_sum, sum_bound, sums_in, with_total}
use Rattle.mesa_history_spec.proofs.mesa_schema.LineageRecasts.{lineage_recast, recast_allowed}
use Rattle.mesa_history_spec.proofs.mesa_batch.RecastTotals.{totals_count}
use Rattle.mesa_record.specs.declared.record.Files.{Files}
use Rattle.mesa_record.specs.declared.recasting.Recasting.{Recasting}
use Rattle.mesa_record.specs.declared.record.Record.TheVariants as record_of
use Rattle.mesa_store_spec.specs.Catalog.{Catalog, Delta, Ending, TableMeta, applied, base_told, recast_in, singles_told, start_in, meta_at, meta_recast}
use Rattle.mesa_store_spec.specs.Fitting.{base_deltas, is_there, kind_fits, recast_fits}
use Rattle.mesa_store_spec.specs.Shape.{HasBegun, HasBegunIfAny, IsCatalog, IsShaped, IsWithinBound}
use Rattle.mesa_store_spec.specs.Countable.{CountsFiles, CountsTotals, IsCounted}
use Rattle.mesa_store_spec.proofs.Lists.{both_true, is_less, meta_found}
use Rattle.mesa_store_spec.proofs.RecastFits.{ArePlaced, Fits, IsBasePlaced, IsPlaced, Places, base_among, fits_of, placed_all, placed_append, placed_count, places_of, start_placed}
use Rattle.mesa_store_spec.proofs.ShapedTables.{same_set}

-- ---- totals stay within the bound

within_at : (totals : List ℕ) (n : ℕ) → AllByRecursion (λ total. total < sum_bound) totals → slice_index_or totals n 0 < sum_bound
within_at [] n all = omega arith
within_at (t ∷ totals) zero all = all.0
within_at (t ∷ totals) (suc n) all = within_at totals n all.1

within_one : (agg : Option Agg) (total : ℕ) (rest : List ℕ) → total < sum_bound → AllByRecursion (λ total. total < sum_bound) rest → AllByRecursion (λ total. total < sum_bound) (with_total agg total rest)
within_one None total rest lt all = all
within_one (Some agg) total rest lt all = elim (is_sum agg) as (λ b. AllByRecursion (λ t. t < sum_bound) (cond b (total ∷ rest) rest)) [
  | true ↦ (lt, all)
  | false ↦ all
]

within_chosen : (aggs : List Agg) (totals places : List ℕ) → AllByRecursion (λ total. total < sum_bound) totals → AllByRecursion (λ total. total < sum_bound) (chosen_totals aggs totals places)
within_chosen aggs totals [] all = tt
within_chosen aggs totals (place ∷ places) all =
    within_one (slice_get aggs place) (slice_index_or totals (sums_in (take place aggs)) 0) (chosen_totals aggs totals places) (within_at totals (sums_in (take place aggs)) all) (within_chosen aggs totals places all)

-- ---- a table

-- one with files is of the first epoch
begun_placed : (l : Lineage) (epoch : ℕ) (old new : Delta) → l.begins ≤ epoch → IsPlaced l epoch old new → HasBegunIfAny l new
begun_placed l epoch old new le is = by new.files is.begun
  where
    by : (files : Option Files) → IfSome files (λ f. new.epoch ≡ epoch) → IfSome files (λ f. l.begins ≤ new.epoch)
    by None same = tt
    by (Some f) same = (let at : l.begins ≤ new.epoch = omega (arith, same, le) in at)

base_begun : (l : Lineage) (epoch : ℕ) (old new : Option Ending) → l.begins ≤ epoch → IsBasePlaced l epoch old new → AllByRecursion (HasBegun l) (base_deltas new ++ [])
base_begun l epoch None None le is = tt
base_begun l epoch None (Some new) le is = absurd is
base_begun l epoch (Some old) None le is = absurd is
base_begun l epoch (Some old) (Some new) le is = ((let same = is.1 in let at : l.begins ≤ new.delta.epoch = omega (arith, same, le) in at), tt)

module _ (floor next : ℕ) (t : TableMeta) (k : Recasting) (shaped : IsShaped floor next t) (fit : Fits t k) where
  abbrev later : Lineage
  later = recast_lineage t.lineage (recast_in k)

  places : Places next t k
  places = places_of next t k shaped.singles fit

  -- the base and the singletons
  pub all_placed : ArePlaced (recast_lineage t.lineage (recast_in k)) k.epoch (base_deltas t.base ++ t.singles) (base_deltas (base_told k) ++ singles_told next t k)
  all_placed =
      placed_append (recast_lineage t.lineage (recast_in k)) k.epoch (base_deltas t.base) (base_deltas (base_told k)) t.singles (singles_told next t k)
      (base_among (recast_lineage t.lineage (recast_in k)) k.epoch t.base (base_told k) places.base) places.singles

  same_start : start_in (meta_recast next t k) ≡ start_in t
  same_start = start_placed (recast_lineage t.lineage (recast_in k)) k.epoch t (base_told k) places.base

  now : epoch_of (recast_lineage t.lineage (recast_in k)) ≡ k.epoch
  now = (let e = fit.epoch in omega (arith, e))

  since : (recast_lineage t.lineage (recast_in k)).begins ≤ k.epoch
  since = (let e = fit.epoch in omega (arith, e))

  pub recast_shaped : IsShaped floor next (meta_recast next t k)
  recast_shaped =
      let start = same_start in
      let count = placed_count (recast_lineage t.lineage (recast_in k)) k.epoch t.singles (singles_told next t k) places.singles in
      let was = shaped.singles in
      let base = shaped.base in
      let last = now in
      record {
        lineage = lineage_recast t.lineage (recast_in k) shaped.lineage fit.checked;
        totals = totals_count (columns_of t.lineage) (recast_in k) (recast_allowed t.lineage (recast_in k) fit.checked).rules t.totals;
        bounded = within_chosen (aggs_of (columns_of t.lineage)) t.totals (recast_values (columns_of t.lineage) (recast_in k)) shaped.bounded;
        above = shaped.above;
        oldest = shaped.oldest;
        singles = omega (arith, start, count, was);
        base = omega (arith, start, base);
        reachable = refl;
        ends = tt;
        epochs = placed_all (λ (d : Delta). d.epoch ≤ epoch_of (recast_lineage t.lineage (recast_in k))) (recast_lineage t.lineage (recast_in k)) k.epoch (base_deltas t.base ++ t.singles) (base_deltas (base_told k) ++ singles_told next t k)
            (λ old new is. (let low = is.low in let le : new.epoch ≤ epoch_of (recast_lineage t.lineage (recast_in k)) = omega (arith, low, last) in le)) all_placed;
        merged_begun = base_begun (recast_lineage t.lineage (recast_in k)) k.epoch t.base (base_told k) since places.base;
        singles_begun = placed_all (HasBegunIfAny (recast_lineage t.lineage (recast_in k))) (recast_lineage t.lineage (recast_in k)) k.epoch t.singles (singles_told next t k) (λ old new is. begun_placed (recast_lineage t.lineage (recast_in k)) k.epoch old new since is) places.singles;
        recorded = placed_all IsWithinBound (recast_lineage t.lineage (recast_in k)) k.epoch (base_deltas t.base ++ t.singles) (base_deltas (base_told k) ++ singles_told next t k) (λ old new is. is.bounded) all_placed;
      }

  pub recast_counted : IsCounted (meta_recast next t k)
  recast_counted = record {
    changes = refl;
    files = placed_all (CountsFiles (recast_lineage t.lineage (recast_in k))) (recast_lineage t.lineage (recast_in k)) k.epoch (base_deltas t.base ++ t.singles) (base_deltas (base_told k) ++ singles_told next t k) (λ old new is. is.files) all_placed;
    totals = placed_all (CountsTotals (recast_lineage t.lineage (recast_in k))) (recast_lineage t.lineage (recast_in k)) k.epoch t.singles (singles_told next t k) (λ old new is. is.totals) places.singles;
  }

-- ---- on a whole catalogue

module _ (c : Catalog) (k : Recasting) (is : IsCatalog c) (fit : kind_fits c (record_of.Recast k) ≡ true) where
  both : (is_there c k.table ≡ true) × (recast_fits (meta_at c k.table) k ≡ true)
  both = both_true (is_there c k.table) (recast_fits (meta_at c k.table) k) fit

  pub recast_there : k.table < length c.tables
  recast_there = is_less k.table (length c.tables) both.0

  pub recast_its : Fits (meta_at c k.table) k
  recast_its = fits_of (meta_at c k.table) k both.1

  pub recast_shape : IsShaped c.floor c.next (meta_at c k.table)
  recast_shape = meta_found (IsShaped c.floor c.next) c.tables k.table recast_there is.tables

  pub recast_catalog : IsCatalog (applied c (record_of.Recast k))
  recast_catalog = same_set c k.table (meta_recast c.next (meta_at c k.table) k) is (recast_shaped c.floor c.next (meta_at c k.table) k recast_shape recast_its) refl
