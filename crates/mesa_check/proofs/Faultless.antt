-- A table whose rows are sound has no faults.
use lib.Pointwise.{pointwise}
use Rattle.std.proofs.Common.{◌≡◌, ℕ, ◌+◌, List, [], ◌∷◌, ◌++◌, map, take, drop, Bool, true, false, not, ◌&&◌, nat_eq, Option, Some, None, refl, ◌∙◌, ap}
use Rattle.std.specs.Prelude.{◌||◌, cond, is_some, slice_get, IfSome}
use Rattle.std.specs.List.{AllByRecursion, list_all}
use Rattle.std.specs.Ordering.{is_eq}
use Rattle.std.specs.Cmp.Lexicographic.{texts_ties}
use Rattle.mesa_pick_files.specs.mesa_columns.declared.views.View.{View}
use Rattle.mesa_pick_files.specs.mesa_columns.Columns.{aggs_of}
use Rattle.mesa_schema.specs.Changes.{columns_at, columns_of}
use Rattle.mesa_schema.specs.mesa_fold.Folded.{folded, rows_of}
use Rattle.mesa_schema.specs.Views.{view_rows}
use Rattle.mesa_schema.proofs.mesa_columns.Lists.{all_append, all_both, all_map, all_so}
use Rattle.mesa_batch.specs.Totals.{abs_totals}
use Rattle.mesa_record.specs.declared.record.Files.{Files}
use Rattle.mesa_record.specs.declared.record.ViewRef.{ViewRef}
use Rattle.mesa_compare.specs.Difference.{first_difference}
use Rattle.mesa_compare.proofs.Differences.{nowhere}
use Rattle.mesa_compare.proofs.Same.{equal_itself}
use Rattle.mesa_store_spec.specs.Catalog.{Delta, Ending, TableMeta, start_in}
use Rattle.mesa_store_spec.specs.Fitting.{base_deltas, delta_in}
use Rattle.mesa_store_spec.specs.Contents.{Rows, present, rows_in}
use Rattle.mesa_store_spec.specs.Sound.{AreGrouped, IsGrouped, IsGroupedAs, IsMerged, HasSoundRows, IsTotalled, all_parts}
use Rattle.mesa_store_spec.proofs.Lists.{all_front, all_back, all_unmap}
use Rattle.mesa_check.specs.Found.{Found, all_found}
use Rattle.mesa_check.specs.Ranges.{Base, Range, Single, base_range, checked_ranges, cumulative_range, is_range, single_ranges, totals_range}
use Rattle.mesa_check.specs.Faults.{agrees_if_any, are_at_most, are_files_found, exceeds_totals, fails, fault_of, has_false_totals, is_found, is_totalled, is_true, is_view_found, keep_bound, key_if, merged_keys, merged_singles, range_faults, table_faults, view_key, view_keys, view_keys_in}
use Rattle.mesa_check.proofs.Bounds.{is_at_most}
use Rattle.mesa_check.proofs.KeyLists.{all_one, all_pass, all_rest, and_false, and_true, both_false, nil_flat}

no_key : (b : Bool) (o : Option (List ℕ)) → o ≡ None → key_if b o ≡ []
no_key b o e = ap (key_if b) e ∙ by b
  where
    by : (b : Bool) → key_if b None ≡ []
    by true = refl
    by false = refl

same_numbers : (xs ys : List ℕ) → xs ≡ ys → pointwise nat_eq xs ys ≡ true
same_numbers xs ys e = ap (λ zs. pointwise nat_eq zs ys) e ∙ texts_ties ys ys ∙ ap is_eq (equal_itself ys)

module _ (rows : Rows) (t : TableMeta) (sound_rows : HasSoundRows rows t) where
  abbrev found : Found
  found = all_found rows

  -- ---- files and totals

  views_found : (d : Delta) (views : List ViewRef) → AllByRecursion (IsGrouped rows t.lineage d) views → AllByRecursion (λ v. is_view_found found t.lineage v ≡ true) views
  views_found d views all = all_so (IsGrouped rows t.lineage d) (λ v. is_view_found found t.lineage v ≡ true) views (λ v is. and_true (is_some (slice_get t.lineage.views v.view)) true (there v (slice_get t.lineage.views v.view) is) refl) all
    where
      there : (v : ViewRef) (o : Option View) → IsGroupedAs rows t.lineage d o v → is_some o ≡ true
      there v None is = absurd is
      there v (Some view) is = refl

  delta_found : (d : Delta) → AreGrouped rows t.lineage d → is_found found t.lineage d ≡ true
  delta_found d all = by d.files all
    where
      by : (files : Option Files) → IfSome files (λ f. AllByRecursion (IsGrouped rows t.lineage d) f.views) → are_files_found found t.lineage files ≡ true
      by None all = refl
      by (Some f) all = all_pass (is_view_found found t.lineage) f.views (views_found d f.views all)

  totalled : (d : Delta) → IsTotalled rows t.lineage d → is_totalled found t.lineage d ≡ true
  totalled d is = by d.totals is
    where
      by : (o : Option (List ℕ)) → IfSome o (λ totals. totals ≡ abs_totals (columns_at t.lineage d.epoch) (rows_in rows d)) → agrees_if_any o (abs_totals (columns_at t.lineage d.epoch) (rows_in rows d)) ≡ true
      by None is = refl
      by (Some recorded) is = same_numbers recorded (abs_totals (columns_at t.lineage d.epoch) (rows_in rows d)) is

  not_exceeded : exceeds_totals found t ≡ false
  not_exceeded = and_false (list_all (is_found found t.lineage) (base_deltas t.base) && list_all (is_true found t.lineage) t.singles) (not (are_at_most (abs_totals (columns_of t.lineage) (rows_of (all_parts rows t))) t.totals))
      (ap not (is_at_most (abs_totals (columns_of t.lineage) (rows_of (all_parts rows t))) t.totals sound_rows.bound))

  -- ---- keys

  no_view_key : (d : Delta) (v : ViewRef) (o : Option View) → IsGroupedAs rows t.lineage d o v → view_key found t.lineage d v o ≡ []
  no_view_key d v None is = absurd is
  no_view_key d v (Some view) is =
      no_key (keep_bound (columns_of t.lineage) (present rows t.lineage d)) (first_difference (view_rows (columns_of t.lineage) view (present rows t.lineage d)) (rows v.file.id))
      (ap (first_difference (view_rows (columns_of t.lineage) view (present rows t.lineage d))) is ∙ nowhere (view_rows (columns_of t.lineage) view (present rows t.lineage d)))

  no_view_keys : (d : Delta) → AreGrouped rows t.lineage d → view_keys found t.lineage d ≡ []
  no_view_keys d all = by d.files all
    where
      by : (files : Option Files) → IfSome files (λ f. AllByRecursion (IsGrouped rows t.lineage d) f.views) → view_keys_in found t.lineage d files ≡ []
      by None all = refl
      by (Some f) all = nil_flat (λ (v : ViewRef). view_key found t.lineage d v (slice_get t.lineage.views v.view)) f.views
          (all_so (IsGrouped rows t.lineage d) (λ (v : ViewRef). view_key found t.lineage d v (slice_get t.lineage.views v.view) ≡ []) f.views (λ v is. no_view_key d v (slice_get t.lineage.views v.view) is) all)

  no_merged_key : (e : Ending) → IsMerged rows t e → merged_keys found t (cumulative_range (start_in t) e) ≡ []
  no_merged_key e is =
      no_key (list_all (is_found found t.lineage) (merged_singles t e.to) && keep_bound (columns_of t.lineage) (rows_of (map (present rows t.lineage) (merged_singles t e.to))))
      (first_difference (folded (aggs_of (columns_of t.lineage)) (map (present rows t.lineage) (merged_singles t e.to))) (present rows t.lineage e.delta))
      (ap (first_difference (folded (aggs_of (columns_of t.lineage)) (map (present rows t.lineage) (merged_singles t e.to)))) is ∙ nowhere (folded (aggs_of (columns_of t.lineage)) (map (present rows t.lineage) (merged_singles t e.to))))

  -- ---- ranges

  no_faults : (r : Range) → AreGrouped rows t.lineage r.delta → has_false_totals found t r ≡ false → merged_keys found t r ≡ [] → range_faults found t r ≡ []
  no_faults r grouped totals merged =
      let stands : fails found t r ≡ false = both_false (not (is_found found t.lineage r.delta) || has_false_totals found t r) (is_range (totals_range t) r && exceeds_totals found t)
      (both_false (not (is_found found t.lineage r.delta)) (has_false_totals found t r) (ap not (delta_found r.delta grouped)) totals)
      (and_false (is_range (totals_range t) r) (exceeds_totals found t) not_exceeded) in
      λ i. map (fault_of t r) (cond (stands i) (None ∷ []) [] ++ map Some (merged i ++ no_view_keys r.delta grouped i))

  abbrev IsFaultless : Range → Type 0
  IsFaultless r = range_faults found t r ≡ []

  base_faultless : (o : Option Ending) → AllByRecursion (AreGrouped rows t.lineage) (base_deltas o) → AllByRecursion IsFaultless (base_range o)
  base_faultless None all = tt
  base_faultless (Some e) all = (no_faults (record { kind = Base; from = 0; to = e.to; delta = e.delta }) all.0 refl refl, tt)

  singles_faultless : (version : ℕ) (deltas : List Delta) → AllByRecursion (AreGrouped rows t.lineage) deltas → AllByRecursion (IsTotalled rows t.lineage) deltas → AllByRecursion IsFaultless (single_ranges version deltas)
  singles_faultless version [] all totals = tt
  singles_faultless version (d ∷ deltas) all totals = (no_faults (record { kind = Single; from = version; to = version; delta = d }) all.0 (ap not (totalled d totals.0)) refl, singles_faultless (version + 1) deltas all.1 totals.1)

  cumulatives_faultless : AllByRecursion (λ (e : Ending). AreGrouped rows t.lineage e.delta) t.cumulatives → AllByRecursion IsFaultless (map (cumulative_range (start_in t)) t.cumulatives)
  cumulatives_faultless all =
      all_map IsFaultless (cumulative_range (start_in t)) t.cumulatives
      (all_both (λ (e : Ending). AreGrouped rows t.lineage e.delta) (IsMerged rows t) (λ e. IsFaultless (cumulative_range (start_in t) e)) t.cumulatives (λ e grouped is. no_faults (cumulative_range (start_in t) e) grouped refl (no_merged_key e is)) all sound_rows.merged)

  pub faultless : table_faults found t ≡ []
  faultless =
      let behind = all_back (AreGrouped rows t.lineage) (base_deltas t.base) (map delta_in t.cumulatives ++ t.singles) sound_rows.grouped in
      let singles = singles_faultless (start_in t) t.singles (all_back (AreGrouped rows t.lineage) (map delta_in t.cumulatives) t.singles behind) sound_rows.totals in
      nil_flat (range_faults found t) (checked_ranges t)
      (all_append IsFaultless (base_range t.base) _ (base_faultless t.base (all_front (AreGrouped rows t.lineage) (base_deltas t.base) (map delta_in t.cumulatives ++ t.singles) sound_rows.grouped))
      (all_append IsFaultless (take 1 (single_ranges (start_in t) t.singles)) _ (all_one IsFaultless (single_ranges (start_in t) t.singles) singles)
      (all_append IsFaultless (map (cumulative_range (start_in t)) t.cumulatives) (drop 1 (single_ranges (start_in t) t.singles))
      (cumulatives_faultless (all_unmap (AreGrouped rows t.lineage) delta_in t.cumulatives (all_front (AreGrouped rows t.lineage) (map delta_in t.cumulatives) t.singles behind)))
      (all_rest IsFaultless (single_ranges (start_in t) t.singles) singles))))
