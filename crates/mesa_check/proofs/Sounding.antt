-- Where a table has no faults, what holds of sound rows holds of those that were found.
use Rattle.std.proofs.Common.{◌≡◌, ℕ, ◌+◌, ◌-◌, List, [], ◌∷◌, ◌++◌, map, Bool, true, false, not, ◌&&◌, Option, Some, None, refl, sym, ◌∙◌, ap, subst}
use Rattle.std.specs.Prelude.{filter, is_some, slice_get, unwrap_or, IfSome}
use Rattle.std.specs.List.{AllByRecursion, list_all}
use Rattle.std.specs.Cmp.Lexicographic.{same_text}
use Rattle.mesa_pick_files.specs.mesa_columns.declared.rows.Row.{Row}
use Rattle.mesa_pick_files.specs.mesa_columns.declared.views.View.{View}
use Rattle.mesa_pick_files.specs.mesa_columns.Columns.{Columns, aggs_of}
use Rattle.mesa_schema.specs.Changes.{Lineage, columns_at, columns_of, epoch_of, lifted}
use Rattle.mesa_schema.specs.mesa_fold.Folded.{folded, rows_of}
use Rattle.mesa_schema.specs.Lineages.{IsLineage}
use Rattle.mesa_pick_files.specs.mesa_columns.Rows.{AreRowsOf, IsRowOf, keys_rise}
use Rattle.mesa_schema.specs.Views.{view_key_places, view_rows, view_value_places}
use Rattle.mesa_pick_files.proofs.mesa_fold.GroupKeys.{groups_rise}
use Rattle.mesa_schema.proofs.mesa_columns.Lists.{all_append, all_both, all_map, all_so}
use Rattle.mesa_schema.proofs.PresentRows.{present_rise}
use Rattle.mesa_pick_files.proofs.mesa_fold.RisingRows.{folded_rise}
use Rattle.mesa_batch.specs.Totals.{AreAtMost, abs_totals, sum_places}
use Rattle.mesa_disk.specs.Image.{Image}
use Rattle.mesa_pick_files.specs.mesa_block.Rows.{IsRow}
use Rattle.mesa_delta.specs.mesa_delta_format.Summary.{file_layout}
use Rattle.mesa_record.specs.declared.record.Files.{Files}
use Rattle.mesa_record.specs.declared.record.ViewRef.{ViewRef}
use Rattle.mesa_compare.specs.Difference.{first_difference}
use Rattle.mesa_compare.proofs.Differences.{same_where_none}
use Rattle.mesa_store_spec.specs.Catalog.{Delta, Ending, TableMeta, start_in}
use Rattle.mesa_store_spec.specs.Fitting.{LiveFile, base_deltas, delta_in, delta_live, deltas_of, files_live, meta_live, view_live}
use Rattle.mesa_store_spec.specs.Contents.{Rows, present, rows_in, rows_if_any}
use Rattle.mesa_store_spec.specs.Shape.{IsShaped}
use Rattle.mesa_store_spec.specs.Sound.{AreGrouped, IsGrouped, IsGroupedAs, IsMerged, HasSoundRows, IsTold, IsTotalled, all_parts}
use Rattle.mesa_store_spec.proofs.Lists.{all_front, all_back, all_flat, all_take, all_unflat, all_unmap}
use Rattle.mesa_store_spec.proofs.Formed.{AreFormed, all_formed, rows_formed}
use Rattle.mesa_store_spec.proofs.Rising.{rising}
use Rattle.mesa_check.specs.Found.{Found, IsFoundAs, rows_found}
use Rattle.mesa_check.specs.Ranges.{Range, base_range, checked_ranges, cumulative_range, single_ranges, totals_range}
use Rattle.mesa_check.specs.Faults.{are_at_most, are_files_found, exceeds_totals, is_found, is_totalled, is_true, is_view_found, keep_bound, key_if, merged_key, merged_singles, view_key, view_keys, view_keys_in}
use Rattle.mesa_check.proofs.Bounds.{AddUpToLess, at_most_is, each_less, fold_less, less_less, none_at_most, some_keep_bound, taken_less}
use Rattle.mesa_check.proofs.KeyLists.{all_pass, and_true, both_nil, flat_nil, last_false, none_first, none_passes, not_false, passed_all, true_parts}
use Rattle.mesa_check.proofs.Silent.{IsSilent, base_found, cumulatives_found, not_exceeded, of_base, of_cumulatives, of_deltas, of_singles, singles_found, singles_totalled}

-- ---- files

is_there : {A : Type 0} (o : Option A) (d : A) → is_some o ≡ true → o ≡ Some (unwrap_or o d)
is_there None d e = absurd cc
is_there (Some x) d e = refl

-- the files of a delta that was found were found
files_there : (found : Found) (l : Lineage) (epoch : ℕ) (files : Option Files) → are_files_found found l files ≡ true → AllByRecursion (λ (x : LiveFile). is_some (found x.file.id) ≡ true) (files_live l epoch files)
files_there found l epoch None e = tt
files_there found l epoch (Some f) e =
    let parts = true_parts (is_some (found f.file.id)) (list_all (is_view_found found l) f.views) e in (
      parts.0,
      all_map (λ (x : LiveFile). is_some (found x.file.id) ≡ true) (view_live l) f.views
          (all_so (λ v. is_view_found found l v ≡ true) (λ (v : ViewRef). is_some (found v.file.id) ≡ true) f.views (λ v both. (true_parts (is_some (slice_get l.views v.view)) (is_some (found v.file.id)) both).1) (passed_all (is_view_found found l) f.views parts.1)),
    )

-- a file that an image has with the rows that were found
abbrev pub IsThere : Image → Found → LiveFile → Type 0
IsThere i found x = IsFoundAs i x (Some (rows_found found x.file.id))

there : (i : Image) (found : Found) (x : LiveFile) → IsFoundAs i x (found x.file.id) → is_some (found x.file.id) ≡ true → IsThere i found x
there i found x is some = subst (IsFoundAs i x) (is_there (found x.file.id) [] some) is

told : (i : Image) (found : Found) (x : LiveFile) → IsThere i found x → IsTold (rows_found found) x
told i found x is = record { file = is.1; true = is.2 }

-- ---- rising rows

present_rises : (rows : Rows) (l : Lineage) (d : Delta) → IsLineage l → AllByRecursion (IsTold rows) (delta_live l d) → keys_rise (present rows l d) ≡ true
present_rises rows l d is told = by d.files d.epoch told
  where
    by : (files : Option Files) (epoch : ℕ) → AllByRecursion (IsTold rows) (files_live l epoch files) → keys_rise (map (lifted l epoch (epoch_of l)) (rows_if_any rows files)) ≡ true
    by None epoch told = refl
    by (Some f) epoch told =
        let forms : AreRowsOf (columns_at l epoch) (rows f.file.id) = all_so (IsRow (file_layout (columns_at l epoch) f.file)) (IsRowOf (columns_at l epoch)) (rows f.file.id) (λ row good. good.form) told.0.file.good in
        present_rise l epoch (rows f.file.id) is forms ∙ rising (rows f.file.id) told.0.file.rise

key_none : (b : Bool) (o : Option (List ℕ)) → key_if b o ≡ [] → b ≡ true → o ≡ None
key_none true None e is = refl
key_none true (Some key) e is = absurd cc
key_none false o e is = absurd cc

-- ---- a table

module _ (found : Found) (i : Image) (floor next : ℕ) (t : TableMeta) (shaped : IsShaped floor next t) (its : AllByRecursion (λ (x : LiveFile). IsFoundAs i x (found x.file.id)) (meta_live t))
    (all : AllByRecursion (IsSilent found t) (checked_ranges t)) where
  abbrev rows : Rows
  rows = rows_found found

  abbrev l : Lineage
  l = t.lineage

  abbrev s : Columns
  s = columns_of t.lineage

  abbrev f : Delta → List Row
  f d = present (rows_found found) t.lineage d

  abbrev places : List ℕ
  places = sum_places 0 (aggs_of (columns_of t.lineage))

  all_deltas : AllByRecursion (λ d. is_found found t.lineage d ≡ true) (deltas_of t)
  all_deltas =
      all_append (λ d. is_found found t.lineage d ≡ true) (base_deltas t.base) (map delta_in t.cumulatives ++ t.singles) (base_found found t all)
      (all_append (λ d. is_found found t.lineage d ≡ true) (map delta_in t.cumulatives) t.singles (all_map (λ d. is_found found t.lineage d ≡ true) delta_in t.cumulatives (cumulatives_found found t all)) (singles_found found t all))

  pub files_are : AllByRecursion (IsThere i found) (meta_live t)
  files_are =
      all_both (λ (x : LiveFile). IsFoundAs i x (found x.file.id)) (λ (x : LiveFile). is_some (found x.file.id) ≡ true) (IsThere i found) (meta_live t) (there i found) its
      (all_flat (λ (x : LiveFile). is_some (found x.file.id) ≡ true) (delta_live t.lineage) (deltas_of t)
      (all_so (λ d. is_found found t.lineage d ≡ true) (λ d. AllByRecursion (λ (x : LiveFile). is_some (found x.file.id) ≡ true) (delta_live t.lineage d)) (deltas_of t) (λ d e. files_there found t.lineage d.epoch d.files e) all_deltas))

  are_told : AllByRecursion (IsTold rows) (meta_live t)
  are_told = all_so (IsThere i found) (IsTold rows) (meta_live t) (told i found) files_are

  each_told : AllByRecursion (λ d. AllByRecursion (IsTold rows) (delta_live t.lineage d)) (deltas_of t)
  each_told = all_unflat (IsTold rows) (delta_live t.lineage) (deltas_of t) are_told

  formed : AreFormed rows l (deltas_of t)
  formed = all_formed rows l (deltas_of t) shaped.lineage each_told

  behind_base : (P : Delta → Type 0) → AllByRecursion P (deltas_of t) → AllByRecursion P (map delta_in t.cumulatives ++ t.singles)
  behind_base P both = all_back P (base_deltas t.base) (map delta_in t.cumulatives ++ t.singles) both

  singles_of : (P : Delta → Type 0) → AllByRecursion P (deltas_of t) → AllByRecursion P t.singles
  singles_of P both = all_back P (map delta_in t.cumulatives) t.singles (behind_base P both)

  cumulatives_of : (P : Delta → Type 0) → AllByRecursion P (deltas_of t) → AllByRecursion (λ (e : Ending). P e.delta) t.cumulatives
  cumulatives_of P both = all_unmap P delta_in t.cumulatives (all_front P (map delta_in t.cumulatives) t.singles (behind_base P both))

  -- ---- the table's totals

  no_rows : (ds : List Delta) → AllByRecursion (λ (d : Delta). is_some d.files ≡ false) ds → rows_of (map f ds) ≡ []
  no_rows [] none = refl
  no_rows (d ∷ ds) none = (λ j. map (lifted l d.epoch (epoch_of l)) (nothing d.files none.0 j) ++ rows_of (map f ds)) ∙ no_rows ds none.1
    where
      nothing : (files : Option Files) → is_some files ≡ false → rows_if_any rows files ≡ []
      nothing None e = refl
      nothing (Some x) e = absurd cc

  no_base : (o : Option Ending) → base_range o ≡ [] → base_deltas o ≡ []
  no_base None e = refl
  no_base (Some e) is = absurd cc

  tested : (list_all (is_found found t.lineage) (base_deltas t.base) && list_all (is_true found t.lineage) t.singles) ≡ true
  tested = and_true (list_all (is_found found t.lineage) (base_deltas t.base)) (list_all (is_true found t.lineage) t.singles) (all_pass (is_found found t.lineage) (base_deltas t.base) (base_found found t all))
      (all_pass (is_true found t.lineage) t.singles (all_both (λ d. is_found found t.lineage d ≡ true) (λ d. is_totalled found t.lineage d ≡ true) (λ d. is_true found t.lineage d ≡ true) t.singles
      (λ d a b. and_true (is_found found t.lineage d) (is_totalled found t.lineage d) a b) (singles_found found t all) (singles_totalled found t all)))

  within : are_at_most (abs_totals s (rows_of (all_parts rows t))) t.totals ≡ true
  within = by (totals_range t) refl
    where
      by : (o : Option Range) → totals_range t ≡ o → are_at_most (abs_totals s (rows_of (all_parts rows t))) t.totals ≡ true
      by (Some r) e = not_false (are_at_most (abs_totals s (rows_of (all_parts rows t))) t.totals)
          (last_false (list_all (is_found found t.lineage) (base_deltas t.base) && list_all (is_true found t.lineage) t.singles) (not (are_at_most (abs_totals s (rows_of (all_parts rows t))) t.totals)) tested (not_exceeded found t all r e))
      by None e =
          let nothing = both_nil (base_range t.base) (filter (λ (r : Range). is_some r.delta.files) (single_ranges (start_in t) t.singles)) (none_first _ e) in
          let empty : AllByRecursion (λ (d : Delta). is_some d.files ≡ false) t.singles = of_deltas (λ (d : Delta). is_some d.files ≡ false) (start_in t) t.singles (none_passes (λ (r : Range). is_some r.delta.files) (single_ranges (start_in t) t.singles) nothing.1) in
          let parts : rows_of (all_parts rows t) ≡ [] = ap (λ bs. rows_of (map f (bs ++ t.singles))) (no_base t.base nothing.0) ∙ no_rows t.singles empty in
          ap (λ xs. are_at_most (abs_totals s xs) t.totals) parts ∙ none_at_most places t.totals shaped.totals

  bound : AreAtMost (abs_totals s (rows_of (all_parts rows t))) t.totals
  bound = at_most_is (abs_totals s (rows_of (all_parts rows t))) t.totals within

  keeps : (some : List Row) → AddUpToLess places some (rows_of (all_parts rows t)) → keep_bound s some ≡ true
  keeps some less = some_keep_bound s some (rows_of (all_parts rows t)) t.totals less bound shaped.bounded

  -- ---- cumulatives

  merged_tested : (to : ℕ) → (list_all (is_found found t.lineage) (merged_singles t to) && keep_bound s (rows_of (map f (merged_singles t to)))) ≡ true
  merged_tested to = and_true (list_all (is_found found t.lineage) (merged_singles t to)) (keep_bound s (rows_of (map f (merged_singles t to))))
      (all_pass (is_found found t.lineage) (merged_singles t to) (all_take (λ d. is_found found t.lineage d ≡ true) (to + 1 - start_in t) t.singles (singles_found found t all)))
      (keeps (rows_of (map f (merged_singles t to))) (taken_less f places (base_deltas t.base) t.singles (to + 1 - start_in t)))

  merged_one : (e : Ending) → IsSilent found t (cumulative_range (start_in t) e) → AllByRecursion (IsTold rows) (delta_live l e.delta) → IsMerged rows t e
  merged_one e its told =
      let none = key_none (list_all (is_found found t.lineage) (merged_singles t e.to) && keep_bound s (rows_of (map f (merged_singles t e.to)))) (first_difference (folded (aggs_of s) (map f (merged_singles t e.to))) (f e.delta)) its.merged (merged_tested e.to) in
      sym (same_where_none (folded (aggs_of s) (map f (merged_singles t e.to))) (f e.delta) (folded_rise (aggs_of s) (map f (merged_singles t e.to))) (present_rises rows l e.delta shaped.lineage told) none)

  pub merged : AllByRecursion (IsMerged rows t) t.cumulatives
  merged = all_both (λ e. IsSilent found t (cumulative_range (start_in t) e)) (λ (e : Ending). AllByRecursion (IsTold rows) (delta_live l e.delta)) (IsMerged rows t) t.cumulatives merged_one (of_cumulatives (IsSilent found t) t all)
      (cumulatives_of (λ d. AllByRecursion (IsTold rows) (delta_live t.lineage d)) each_told)

  -- ---- rows that keep the bound

  read_keep : AllByRecursion (λ d. keep_bound s (f d) ≡ true) (base_deltas t.base ++ t.singles)
  read_keep = all_so (λ d. AddUpToLess places (f d) (rows_of (all_parts rows t))) (λ d. keep_bound s (f d) ≡ true) (base_deltas t.base ++ t.singles) (λ d less. keeps (f d) less) (each_less f places (base_deltas t.base ++ t.singles))

  merged_keep : AllByRecursion (λ (e : Ending). keep_bound s (f e.delta) ≡ true) t.cumulatives
  merged_keep = all_so (IsMerged rows t) (λ (e : Ending). keep_bound s (f e.delta) ≡ true) t.cumulatives by merged
    where
      by : (e : Ending) → IsMerged rows t e → keep_bound s (f e.delta) ≡ true
      by e is =
          let forms : AreRowsOf s (rows_of (map f (merged_singles t e.to))) = rows_formed rows l (merged_singles t e.to) (all_take (λ d. AreRowsOf s (f d)) (e.to + 1 - start_in t) t.singles (singles_of (λ d. AreRowsOf s (f d)) formed)) in
          keeps (f e.delta) (subst (λ xs. AddUpToLess places xs (rows_of (all_parts rows t))) (sym is)
          (less_less places (folded (aggs_of s) (map f (merged_singles t e.to))) (rows_of (map f (merged_singles t e.to))) (rows_of (all_parts rows t)) (fold_less s (map f (merged_singles t e.to)) forms) (taken_less f places (base_deltas t.base) t.singles (e.to + 1 - start_in t))))

  all_keep : AllByRecursion (λ d. keep_bound s (f d) ≡ true) (deltas_of t)
  all_keep =
      all_append (λ d. keep_bound s (f d) ≡ true) (base_deltas t.base) (map delta_in t.cumulatives ++ t.singles) (all_front (λ d. keep_bound s (f d) ≡ true) (base_deltas t.base) t.singles read_keep)
      (all_append (λ d. keep_bound s (f d) ≡ true) (map delta_in t.cumulatives) t.singles (all_map (λ d. keep_bound s (f d) ≡ true) delta_in t.cumulatives merged_keep) (all_back (λ d. keep_bound s (f d) ≡ true) (base_deltas t.base) t.singles read_keep))

  -- ---- views

  no_keys : AllByRecursion (λ d. view_keys found l d ≡ []) (deltas_of t)
  no_keys =
      all_append (λ d. view_keys found l d ≡ []) (base_deltas t.base) (map delta_in t.cumulatives ++ t.singles) (base_keys t.base (of_base (IsSilent found t) t all))
      (all_append (λ d. view_keys found l d ≡ []) (map delta_in t.cumulatives) t.singles
      (all_map (λ d. view_keys found l d ≡ []) delta_in t.cumulatives (all_so (λ e. IsSilent found t (cumulative_range (start_in t) e)) (λ (e : Ending). view_keys found l e.delta ≡ []) t.cumulatives (λ e s. s.views) (of_cumulatives (IsSilent found t) t all)))
      (of_deltas (λ d. view_keys found l d ≡ []) (start_in t) t.singles (all_so (IsSilent found t) (λ (r : Range). view_keys found l r.delta ≡ []) (single_ranges (start_in t) t.singles) (λ r s. s.views) (of_singles (IsSilent found t) t all))))
    where
      base_keys : (o : Option Ending) → AllByRecursion (IsSilent found t) (base_range o) → AllByRecursion (λ d. view_keys found l d ≡ []) (base_deltas o)
      base_keys None its = tt
      base_keys (Some e) its = (its.0.views, tt)

  view_grouped : (d : Delta) (v : ViewRef) (o : Option View) → is_some o ≡ true → view_key found l d v o ≡ [] → keep_bound s (f d) ≡ true → keys_rise (rows v.file.id) ≡ true → IsGroupedAs rows l d o v
  view_grouped d v None there none keep rises = absurd cc
  view_grouped d v (Some view) there none keep rises =
      sym (same_where_none (view_rows s view (f d)) (rows v.file.id) (groups_rise s (view_key_places s view) (view_value_places s view) (f d)) rises (key_none (keep_bound s (f d)) (first_difference (view_rows s view (f d)) (rows v.file.id)) none keep))

  views_grouped : (d : Delta) (epoch : ℕ) (files : Option Files) → are_files_found found l files ≡ true → view_keys_in found l d files ≡ [] → keep_bound s (f d) ≡ true → AllByRecursion (IsTold rows) (files_live l epoch files)
      → IfSome files (λ x. AllByRecursion (IsGrouped rows l d) x.views)
  views_grouped d epoch None there none keep told = tt
  views_grouped d epoch (Some x) there none keep told =
      let views = passed_all (is_view_found found l) x.views (true_parts (is_some (found x.file.id)) (list_all (is_view_found found l) x.views) there).1 in
      let keys = flat_nil (λ (v : ViewRef). view_key found l d v (slice_get l.views v.view)) x.views none in
      let rise : AllByRecursion (λ (v : ViewRef). keys_rise (rows v.file.id) ≡ true) x.views = all_so (λ v. IsTold rows (view_live l v)) (λ (v : ViewRef). keys_rise (rows v.file.id) ≡ true) x.views (λ v is. rising (rows v.file.id) is.file.rise) (all_unmap (IsTold rows) (view_live l) x.views told.1) in
      all_both (λ (v : ViewRef). (is_view_found found l v ≡ true) × (view_key found l d v (slice_get l.views v.view) ≡ [])) (λ (v : ViewRef). keys_rise (rows v.file.id) ≡ true) (IsGrouped rows l d) x.views
      (λ v both rises. view_grouped d v (slice_get l.views v.view) (true_parts (is_some (slice_get l.views v.view)) (is_some (found v.file.id)) both.0).0 both.1 keep rises)
      (all_both (λ (v : ViewRef). is_view_found found l v ≡ true) (λ (v : ViewRef). view_key found l d v (slice_get l.views v.view) ≡ []) (λ (v : ViewRef). (is_view_found found l v ≡ true) × (view_key found l d v (slice_get l.views v.view) ≡ [])) x.views (λ v a b. (a, b)) views keys) rise

  grouped_all : AllByRecursion (AreGrouped rows l) (deltas_of t)
  grouped_all =
      all_both (λ d. (is_found found l d ≡ true) × (view_keys found l d ≡ [])) (λ d. (keep_bound s (f d) ≡ true) × AllByRecursion (IsTold rows) (delta_live l d)) (AreGrouped rows l) (deltas_of t)
      (λ d a b. views_grouped d d.epoch d.files a.0 a.1 b.0 b.1)
      (all_both (λ d. is_found found l d ≡ true) (λ d. view_keys found l d ≡ []) (λ d. (is_found found l d ≡ true) × (view_keys found l d ≡ [])) (deltas_of t) (λ d a b. (a, b)) all_deltas no_keys)
      (all_both (λ d. keep_bound s (f d) ≡ true) (λ d. AllByRecursion (IsTold rows) (delta_live l d)) (λ d. (keep_bound s (f d) ≡ true) × AllByRecursion (IsTold rows) (delta_live l d)) (deltas_of t) (λ d a b. (a, b)) all_keep each_told)

  -- ---- totals

  totalled : (d : Delta) → is_totalled found l d ≡ true → IsTotalled rows l d
  totalled d e = by d.totals e
    where
      by : (o : Option (List ℕ)) → Rattle.mesa_check.specs.Faults.agrees_if_any o (abs_totals (columns_at l d.epoch) (rows_in rows d)) ≡ true → IfSome o (λ totals. totals ≡ abs_totals (columns_at l d.epoch) (rows_in rows d))
      by None e = tt
      by (Some recorded) e = same_text recorded (abs_totals (columns_at l d.epoch) (rows_in rows d)) (sym e)

  -- What holds of sound rows holds of those that were found.
  pub sound_rows : HasSoundRows rows t
  sound_rows = record {
    files = are_told;
    merged = merged;
    grouped = grouped_all;
    totals = all_so (λ d. is_totalled found l d ≡ true) (IsTotalled rows l) t.singles totalled (singles_totalled found t all);
    bound = bound;
  }
