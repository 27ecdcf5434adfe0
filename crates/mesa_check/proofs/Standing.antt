-- A cumulative that agrees stands for the singletons of its range.
use Rattle.std.proofs.Common.{◌≡◌, ℕ, ◌+◌, ◌-◌, ◌≤◌, ◌<◌, List, [], ◌∷◌, ◌++◌, length, map, drop, refl, sym, ◌∙◌, ap, subst, arith, Bool, true, false, ◌&&◌}
use Rattle.std.specs.Prelude.{nat_lt, IfSome, Option, None, Some}
use Rattle.std.specs.List.{AllByRecursion, list_all}
use Rattle.std.proofs.lemmas.Bool.Decides.{nat_tests}
use Rattle.std.proofs.lemmas.List.{length-map, map-append}
use Rattle.std.proofs.lemmas.List.Sums.{sum_by-append}
use Rattle.mesa_pick_files.specs.mesa_value.declared.Agg.{Agg}
use Rattle.mesa_pick_files.specs.mesa_columns.declared.columns.ValueColumn.{ValueColumn}
use Rattle.mesa_pick_files.specs.mesa_columns.declared.rows.Row.{Row}
use Rattle.mesa_schema.specs.Changes.{Lineage, columns_at, columns_of, epoch_of, lifted}
use Rattle.mesa_pick_files.specs.mesa_columns.Columns.{Columns, aggs_of}
use Rattle.mesa_schema.specs.mesa_fold.Folded.{folded, rows_of}
use Rattle.mesa_schema.specs.mesa_fold.Laws.{AreFull}
use Rattle.mesa_schema.specs.Lineages.{IsLineage}
use Rattle.mesa_pick_files.specs.mesa_columns.Rows.{AreRowsOf, IsRowOf, keys_rise}
use Rattle.mesa_pick_files.proofs.mesa_fold.Folds.{folded-folded, rows_of-append}
use Rattle.mesa_schema.proofs.mesa_columns.Lists.{all_drop, all_so}
use Rattle.mesa_schema.proofs.PresentRows.{present_rise}
use Rattle.mesa_pick_files.proofs.mesa_fold.RisingRows.{folded_rise}
use Rattle.mesa_batch.specs.Bound.{KeepsBound}
use Rattle.mesa_batch.proofs.Merged.{folds_totals}
use Rattle.mesa_disk.specs.Image.{Image}
use Rattle.mesa_delta.specs.mesa_delta_format.Summary.{file_layout}
use Rattle.mesa_record.specs.declared.record.Files.{Files}
use Rattle.mesa_compare.specs.Difference.{first_difference}
use Rattle.mesa_compare.proofs.Differences.{same_where_none}
use Rattle.mesa_batch.specs.Totals.{abs_total, sum_bound, sum_places}
use Rattle.mesa_store_spec.specs.Catalog.{Delta, TableMeta, start_in}
use Rattle.mesa_store_spec.specs.Contents.{Rows, present, rows_if_any}
use Rattle.mesa_store_spec.specs.Fitting.{delta_live, files_live}
use Rattle.mesa_store_spec.specs.Sound.{IsTold}
use Rattle.mesa_pick_files.specs.mesa_block.Rows.{IsRow}
use Rattle.mesa_store_spec.proofs.Formed.{all_formed, rows_formed}
use Rattle.mesa_store_spec.proofs.Lists.{all_front, both_true}
use Rattle.mesa_store_spec.proofs.Rising.{rising}
use Rattle.mesa_check.specs.Found.{AreFound, Found, rows_found}
use Rattle.mesa_check.specs.Faults.{is_asked, is_found, keep_bound, key_if, merged_key, merged_singles}
use Rattle.mesa_check.specs.Held.{delta_of}
use Rattle.mesa_check.specs.Parts.{Agrees, parts_of}
use Rattle.mesa_check.specs.Tested.{AreThere, IsThere}
use Rattle.mesa_check.specs.declared.testing.Test.{Test}
use Rattle.mesa_check.proofs.Behind.{singles_split}
use Rattle.mesa_check.proofs.Rows.{all_there, are_there, keeps_bound, keeps_sums}

-- ---- tests of a front

front_passes : {A : Type 0} (p : A → Bool) (xs ys : List A) → list_all p (xs ++ ys) ≡ true → list_all p xs ≡ true
front_passes p [] ys e = refl
front_passes p (x ∷ xs) ys e = let parts = both_true (p x) (list_all p (xs ++ ys)) e in λ k. parts.0 k && front_passes p xs ys parts.1 k

-- rows whose absolute values add up to no more keep the bound too
less_bounded : (places : List ℕ) (rows all : List Row) → ((c : ℕ) → abs_total c rows ≤ abs_total c all) → list_all (λ total. nat_lt total sum_bound) (map (λ c. abs_total c all) places) ≡ true → list_all (λ total. nat_lt total sum_bound) (map (λ c. abs_total c rows) places) ≡ true
less_bounded [] rows all less e = refl
less_bounded (c ∷ places) rows all less e =
    let parts = both_true (nat_lt (abs_total c all) sum_bound) (list_all (λ total. nat_lt total sum_bound) (map (λ k. abs_total k all) places)) e in
    let here : nat_lt (abs_total c rows) sum_bound ≡ true = below (abs_total c rows) (abs_total c all) (less c) parts.0 in
    λ k. here k && less_bounded places rows all less parts.1 k
  where
    below : (a b : ℕ) → a ≤ b → nat_lt b sum_bound ≡ true → nat_lt a sum_bound ≡ true
    below a b le e = grind (arith, nat_tests)

pub less_keeps : (s : Columns) (rows all : List Row) → ((c : ℕ) → abs_total c rows ≤ abs_total c all) → keep_bound s all ≡ true → keep_bound s rows ≡ true
less_keeps s rows all less keeps = less_bounded (sum_places 0 (aggs_of s)) rows all less keeps

pub front_keeps : (s : Columns) (xs ys : List Row) → keep_bound s (xs ++ ys) ≡ true → keep_bound s xs ≡ true
front_keeps s xs ys keeps = less_keeps s xs (xs ++ ys) (λ c. under (abs_total c xs) (abs_total c ys) (abs_total c (xs ++ ys)) (sum_by-append _ xs ys)) keeps
  where
    under : (a b n : ℕ) → n ≡ a + b → a ≤ n
    under a b n e = omega (arith, e)

-- ---- rows that rise, with a value for each column

told : (i : Image) (found : Found) (l : Lineage) (d : Delta) → AreThere i found l d → AllByRecursion (IsTold (rows_found found)) (delta_live l d)
told i found l d there = all_so (IsThere i found) (IsTold (rows_found found)) (delta_live l d) (λ x is. record { file = is.1; true = is.2 }) there

present_rises : (rows : Rows) (l : Lineage) (d : Delta) → IsLineage l → AllByRecursion (IsTold rows) (delta_live l d) → keys_rise (present rows l d) ≡ true
present_rises rows l d is told = by d.files d.epoch told
  where
    by : (files : Option Files) (epoch : ℕ) → AllByRecursion (IsTold rows) (files_live l epoch files) → keys_rise (map (lifted l epoch (epoch_of l)) (rows_if_any rows files)) ≡ true
    by None epoch told = refl
    by (Some f) epoch told =
        let forms : AreRowsOf (columns_at l epoch) (rows f.file.id) = all_so (IsRow (file_layout (columns_at l epoch) f.file)) (IsRowOf (columns_at l epoch)) (rows f.file.id) (λ row good. good.form) told.0.file.good in
        present_rise l epoch (rows f.file.id) is forms ∙ rising (rows f.file.id) told.0.file.rise

are_full : (s : Columns) (rows : List Row) → AreRowsOf s rows → AreFull (aggs_of s) rows
are_full s rows all = all_so (IsRowOf s) (λ (row : Row). length row.values ≡ length (aggs_of s)) rows (λ row form. form.values ∙ sym (length-map s.values (λ (c : ValueColumn). c.agg))) all

no_difference : (b : Bool) (o : Option (List ℕ)) → key_if b o ≡ [] → b ≡ true → o ≡ None
no_difference true None e is = refl
no_difference true (Some key) e is = absurd cc
no_difference false o e is = absurd cc

-- Deltas may be folded in place of the singletons up to a version: their files are there, their rows keep the bound, and they fold to the same.
pub record MayReplace (i : Image) (found : Found) (u : TableMeta) (to : ℕ) (ds : List Delta) : Type 0 where
  pub there : AllByRecursion (AreThere i found u.lineage) ds
  pub bound : KeepsBound (aggs_of (columns_of u.lineage)) [] (rows_of (map (present (rows_found found) u.lineage) ds))
  pub fold : folded (aggs_of (columns_of u.lineage)) (map (present (rows_found found) u.lineage) ds) ≡ folded (aggs_of (columns_of u.lineage)) (map (present (rows_found found) u.lineage) (merged_singles u to))

module _ (i : Image) (found : Found) (u : TableMeta) (lineage : IsLineage u.lineage) where
  abbrev l : Lineage
  l = u.lineage

  abbrev s : Columns
  s = columns_of u.lineage

  abbrev aggs : List Agg
  aggs = aggs_of (columns_of u.lineage)

  abbrev f : Delta → List Row
  f d = present (rows_found found) u.lineage d

  -- ---- the singletons up to an earlier version

  module _ (end to : ℕ) (h : end ≤ to) (asked : is_asked found u to ≡ true) where
    abbrev rest : List Delta
    rest = drop (end + 1 - start_in u) (merged_singles u to)

    parts : (list_all (is_found found u.lineage) (merged_singles u to) ≡ true) × (keep_bound s (rows_of (map f (merged_singles u to))) ≡ true)
    parts = both_true (list_all (is_found found l) (merged_singles u to)) (keep_bound s (rows_of (map f (merged_singles u to)))) asked

    rows_split : rows_of (map f (merged_singles u to)) ≡ rows_of (map f (merged_singles u end)) ++ rows_of (map f rest)
    rows_split = ap (λ ds. rows_of (map f ds)) (sym (singles_split u end to h)) ∙ ap rows_of (map-append f (merged_singles u end) rest) ∙ rows_of-append (map f (merged_singles u end)) (map f rest)

    asked_before : is_asked found u end ≡ true
    asked_before =
        let found_so = front_passes (is_found found l) (merged_singles u end) rest (ap (list_all (is_found found l)) (singles_split u end to h) ∙ parts.0) in
        let bound_so = front_keeps s (rows_of (map f (merged_singles u end))) (rows_of (map f rest)) (ap (keep_bound s) (sym rows_split) ∙ parts.1) in
        λ k. found_so k && bound_so k

    -- a cumulative that ends there, and the singletons since then
    module _ (d : Delta) (there : AreThere i found u.lineage d) (same : merged_key found u end d ≡ []) (files : AllByRecursion (λ e. AreFound i found (delta_live u.lineage e)) (merged_singles u to)) where
      all_told : AllByRecursion (AreThere i found u.lineage) (merged_singles u to)
      all_told = all_there i found l (merged_singles u to) parts.0 files

      first_told : AllByRecursion (AreThere i found u.lineage) (merged_singles u end)
      first_told = all_front (AreThere i found l) (merged_singles u end) rest (subst (AllByRecursion (AreThere i found l)) (sym (singles_split u end to h)) all_told)

      is_fold : f d ≡ folded aggs (map f (merged_singles u end))
      is_fold =
          let none = no_difference (is_asked found u end) (first_difference (folded aggs (map f (merged_singles u end))) (f d)) same asked_before in
          sym (same_where_none (folded aggs (map f (merged_singles u end))) (f d) (folded_rise aggs (map f (merged_singles u end))) (present_rises (rows_found found) l d lineage (told i found l d there)) none)

      full : AreFull aggs (rows_of (map f (merged_singles u end)))
      full =
          are_full s (rows_of (map f (merged_singles u end))) (rows_formed (rows_found found) l (merged_singles u end) (all_formed (rows_found found) l (merged_singles u end) lineage
          (all_so (AreThere i found l) (λ e. AllByRecursion (IsTold (rows_found found)) (delta_live l e)) (merged_singles u end) (λ e its. told i found l e its) first_told)))

      bounded : KeepsBound aggs [] (rows_of (map f (d ∷ rest)))
      bounded c sum =
          let all = keeps_sums s (rows_of (map f (merged_singles u to))) parts.1 c sum in
          let split : abs_total c (rows_of (map f (merged_singles u to))) ≡ abs_total c (rows_of (map f (merged_singles u end))) + abs_total c (rows_of (map f rest)) = ap (abs_total c) rows_split ∙ sum_by-append _ (rows_of (map f (merged_singles u end))) (rows_of (map f rest)) in
          let first : abs_total c (f d) ≤ abs_total c (rows_of (map f (merged_singles u end))) = subst (λ rows. abs_total c rows ≤ abs_total c (rows_of (map f (merged_singles u end)))) (sym is_fold) (folds_totals aggs (map f (merged_singles u end)) c sum full) in
          let both : abs_total c (rows_of (map f (d ∷ rest))) ≡ abs_total c (f d) + abs_total c (rows_of (map f rest)) = sum_by-append _ (f d) (rows_of (map f rest)) in
          under (abs_total c (rows_of (map f (d ∷ rest)))) (omega (arith, all, split, first, both))
        where
          under : (n : ℕ) → n < sum_bound → 0 + n < sum_bound
          under n h = omega (arith, h)

      refolds : folded aggs (map f (d ∷ rest)) ≡ folded aggs (map f (merged_singles u to))
      refolds =
          ap (λ rows. folded aggs (rows ∷ map f rest)) is_fold ∙ folded-folded aggs (map f (merged_singles u end)) (map f rest)
          ∙ ap (folded aggs) (sym (map-append f (merged_singles u end) rest)) ∙ ap (λ ds. folded aggs (map f ds)) (singles_split u end to h)

      pub replaced : MayReplace i found u to (d ∷ drop (end + 1 - start_in u) (merged_singles u to))
      replaced = record { there = (there, all_drop (AreThere i found l) (end + 1 - start_in u) (merged_singles u to) all_told); bound = bounded; fold = refolds }

  -- What a cumulative is compared with may be folded in place of its range's singletons.
  pub parts_replace : (o : Option Test) (to : ℕ) → IfSome o (λ b. b.range.to ≤ to) → IfSome o (Agrees i found u) → is_asked found u to ≡ true → AllByRecursion (λ e. AreFound i found (delta_live u.lineage e)) (merged_singles u to)
      → MayReplace i found u to (parts_of u o to)
  parts_replace None to h agrees asked files =
      let parts = both_true (list_all (is_found found l) (merged_singles u to)) (keep_bound s (rows_of (map f (merged_singles u to)))) asked in
      record { there = all_there i found l (merged_singles u to) parts.0 files; bound = keeps_bound s (rows_of (map f (merged_singles u to))) parts.1; fold = refl }
  parts_replace (Some b) to h agrees asked files =
      replaced b.range.to to h asked (delta_of b.range) (are_there i found l (delta_of b.range) (sym agrees.read.tested.found ∙ agrees.found) agrees.read.files) agrees.same files
