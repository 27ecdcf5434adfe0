-- The files by which a relation is read fold to its content.
use Rattle.std.proofs.Common.{◌≡◌, ℕ, List, [], ◌∷◌, ◌++◌, map, refl, sym, ap, ◌∙◌, subst, true, false, cond, Option, Some, None, Result, Ok, Err}
use Rattle.std.specs.Prelude.{◌==◌, find, flat_map, is_ok, slice_get}
use Rattle.std.specs.List.{AllByRecursion}
use Rattle.mesa_query.specs.mesa_value.Agg.{IsOrderless}
use Rattle.mesa_query.specs.mesa_value.declared.Agg.{Agg}
use Rattle.mesa_query.specs.mesa_value.declared.Agg.TheVariants.{Sum, Min, Max, Replace}
use Rattle.mesa_schema.specs.Changes.{Lineage, columns_of, epoch_of, lifted}
use Rattle.mesa_validate.specs.mesa_columns.Columns.{Columns, aggs_of, chosen, is_replace, key_names, value_names}
use Rattle.mesa_open_files.specs.mesa_fold.Folded.{folded, folded_at, keys_of, rows_of}
use Rattle.mesa_schema.specs.Lineages.{is_view_of}
use Rattle.mesa_validate.specs.mesa_columns.Rows.{AreRowsOf}
use Rattle.mesa_schema.specs.Views.{choice_checked, values_named, view_columns, view_key_places, view_rows, view_value_places}
use Rattle.mesa_validate.specs.mesa_columns.declared.columns.ValueColumn.{ValueColumn}
use Rattle.mesa_validate.specs.mesa_columns.declared.rows.Row.{Row}
use Rattle.mesa_validate.specs.mesa_columns.declared.views.View.{View}
use Rattle.mesa_validate.specs.mesa_columns.declared.views.ViewError.{ViewError}
use Rattle.mesa_validate.specs.mesa_columns.declared.views.ViewError.TheVariants as no
use Rattle.mesa_query.proofs.mesa_fold.GroupedFolds.{groups_folded}
use Rattle.mesa_validate.proofs.mesa_columns.Lists.{all_found}
use Rattle.mesa_schema.proofs.Passing.{passed_first}
use Rattle.mesa_query.proofs.mesa_answer.Picked.{chosen-map}
use Rattle.mesa_validate.proofs.mesa_catalog_records.Loads.{found_passes}
use Rattle.mesa_validate.specs.mesa_store_spec.Catalog.{Delta}
use Rattle.mesa_validate.specs.mesa_store_spec.Contents.{Rows, present, rows_if_any}
use Rattle.mesa_validate.specs.mesa_store_spec.Sound.{AreGrouped, IsGrouped, IsGroupedAs}
use Rattle.mesa_validate.proofs.mesa_store_spec.Contents.{present_now}
use Rattle.mesa_validate.proofs.mesa_store_spec.Lists.{is_equal}
use Rattle.mesa_pick_files.specs.Read.{own_file, relation_read}
use Rattle.mesa_pick_files.proofs.Given.{part_of}
use Rattle.mesa_pick_files.specs.Files.{files_seen, files_wanted, own_lineage, seen_by, table_wanted, view_file, view_wanted}
use Rattle.mesa_record.specs.declared.record.Files.{Files}
use Rattle.mesa_record.specs.declared.record.ViewRef.{ViewRef}
use Rattle.mesa_open_files.specs.Pins.{derived}

-- ---- grouping a fold

-- parts with the same rows have one fold
pub same_fold : (aggs : List Agg) (xs ys : List (List Row)) → rows_of xs ≡ rows_of ys → folded aggs xs ≡ folded aggs ys
same_fold aggs xs ys same = ap (λ (rs : List Row). map (folded_at aggs rs) (keys_of rs)) same

ordered : (c : ValueColumn) (g : Agg) → c.agg ≡ g → IsOrderless g → is_replace c ≡ false
ordered c Sum e o = cc
ordered c Min e o = cc
ordered c Max e o = cc
ordered c Replace e o = absurd o

orderless : (columns : List ValueColumn) → find is_replace columns ≡ None → AllByRecursion IsOrderless (map (λ (c : ValueColumn). c.agg) columns)
orderless [] none = tt
orderless (c ∷ columns) none =
    elim c.agg as (λ g. c.agg ≡ g → IsOrderless g × AllByRecursion IsOrderless (map (λ (c : ValueColumn). c.agg) columns)) [
      | Sum ↦ λ e. (tt, orderless columns (sym (ap (λ b. cond b (Some c) (find is_replace columns)) (ordered c Sum e tt)) ∙ none))
      | Min ↦ λ e. (tt, orderless columns (sym (ap (λ b. cond b (Some c) (find is_replace columns)) (ordered c Min e tt)) ∙ none))
      | Max ↦ λ e. (tt, orderless columns (sym (ap (λ b. cond b (Some c) (find is_replace columns)) (ordered c Max e tt)) ∙ none))
      | Replace ↦ λ e. cc
    ] refl

abbrev refuse_replace : Option ValueColumn → Result (Unit {0}) ViewError
refuse_replace None = Ok tt
refuse_replace (Some column) = Err (no.ReplaceInView column.name)

-- a view that is allowed chooses no replace column
no_replace : (s : Columns) (v : View) → is_view_of s v ≡ true → find is_replace (values_named s v.values) ≡ None
no_replace s v is =
    let first = passed_first (choice_checked (key_names s) no.NoKey v.keys) _ is in
    let second = passed_first (choice_checked (value_names s) no.NoValue v.values) _ first.1 in
    by (find is_replace (values_named s v.values)) second.1
  where
    by : (o : Option ValueColumn) → is_ok (refuse_replace o) ≡ true → o ≡ None
    by None ok = refl
    by (Some c) ok = absurd cc

-- A view's rows of parts fold to its rows of their fold.
pub view_folds : (s : Columns) (v : View) (parts : List (List Row)) → is_view_of s v ≡ true → AreRowsOf s (rows_of parts) → folded (aggs_of (view_columns s v)) (map (view_rows s v) parts) ≡ view_rows s v (folded (aggs_of s) parts)
view_folds s v parts is form =
    let same : aggs_of (view_columns s v) ≡ chosen (view_value_places s v) (aggs_of s) = chosen-map (λ (c : ValueColumn). c.agg) (view_value_places s v) s.values in
    ap (λ (gs : List Agg). folded gs (map (view_rows s v) parts)) same
    ∙ sym (groups_folded s (view_key_places s v) (view_value_places s v) parts (subst (AllByRecursion IsOrderless) same (orderless (values_named s v.values) (no_replace s v is))) form)

-- ---- the parts of a relation

module _ (rows : Rows) (l : Lineage) where
  pub table_parts : (ds : List Delta) → rows_of (map (part_of rows None) (map own_file (flat_map (table_wanted l) ds))) ≡ rows_of (map (present rows l) ds)
  table_parts [] = refl
  table_parts (d ∷ ds) = by d.files (table_parts ds)
    where
      by : (o : Option Files) → rows_of (map (part_of rows None) (map own_file (flat_map (table_wanted l) ds))) ≡ rows_of (map (present rows l) ds)
          → rows_of (map (part_of rows None) (map own_file (files_wanted l d.epoch o ++ flat_map (table_wanted l) ds))) ≡ map (lifted l d.epoch (epoch_of l)) (rows_if_any rows o) ++ rows_of (map (present rows l) ds)
      by None rest = rest
      by (Some f) rest = ap (λ (rs : List Row). map (lifted l d.epoch (epoch_of l)) (rows f.file.id) ++ rs) rest

  -- A table's own files fold to what its deltas fold to.
  pub table_folds : (ds : List Delta) → folded (aggs_of (columns_of l)) (map (part_of rows None) (relation_read l None ds)) ≡ folded (aggs_of (columns_of l)) (map (present rows l) ds)
  table_folds ds = same_fold (aggs_of (columns_of l)) (map (part_of rows None) (relation_read l None ds)) (map (present rows l) ds) (table_parts ds)

  module _ (number : ℕ) (v : View) (there : slice_get l.views number ≡ Some v) where
    abbrev own : Lineage
    own = own_lineage l v

    -- a file's part is its delta's, grouped
    its_part : (epoch : ℕ) (totals : Option (List ℕ)) (f : Files) (o : Option ViewRef) → view_file number f.views ≡ o → AreGrouped rows l (record { epoch = epoch; files = Some f; totals = totals })
        → part_of rows (Some number) (seen_by l own epoch f o) ≡ view_rows (columns_of l) v (map (lifted l epoch (epoch_of l)) (rows f.file.id))
    its_part epoch totals f None is all = ap (derived (columns_of l) (map (lifted l epoch (epoch_of l)) (rows f.file.id))) there
    its_part epoch totals f (Some ref) is all =
        let d : Delta = record { epoch = epoch; files = Some f; totals = totals } in
        let at : ref.view ≡ number = is_equal ref.view number (found_passes (λ (r : ViewRef). r.view == number) f.views ref is) in
        let grouped = all_found (IsGrouped rows l d) (λ (r : ViewRef). r.view == number) f.views ref is all in
        present_now own (rows ref.file.id) ∙ subst (λ (o : Option View). IsGroupedAs rows l d o ref) (ap (slice_get l.views) at ∙ there) grouped

    view_parts : (ds : List Delta) → AllByRecursion (AreGrouped rows l) ds
        → rows_of (map (part_of rows (Some number)) (flat_map (view_wanted l own number) ds)) ≡ rows_of (map (view_rows (columns_of l) v) (map (present rows l) ds))
    view_parts [] all = refl
    view_parts (d ∷ ds) all = by d.files d.epoch d.totals all.0 (view_parts ds all.1)
      where
        by : (files : Option Files) (epoch : ℕ) (totals : Option (List ℕ)) → AreGrouped rows l (record { epoch = epoch; files = files; totals = totals })
            → rows_of (map (part_of rows (Some number)) (flat_map (view_wanted l (own_lineage l v) number) ds)) ≡ rows_of (map (view_rows (columns_of l) v) (map (present rows l) ds))
            → rows_of (map (part_of rows (Some number)) (files_seen l (own_lineage l v) number epoch files ++ flat_map (view_wanted l (own_lineage l v) number) ds))
            ≡ view_rows (columns_of l) v (map (lifted l epoch (epoch_of l)) (rows_if_any rows files)) ++ rows_of (map (view_rows (columns_of l) v) (map (present rows l) ds))
        by None epoch totals its rest = rest
        by (Some f) epoch totals its rest = λ j. its_part epoch totals f (view_file number f.views) refl its j ++ rest j

    -- A view's files fold to its rows of what the deltas fold to.
    pub relation_folds : (ds : List Delta) → AllByRecursion (AreGrouped rows l) ds → is_view_of (columns_of l) v ≡ true → AreRowsOf (columns_of l) (rows_of (map (present rows l) ds))
        → folded (aggs_of (view_columns (columns_of l) v)) (map (part_of rows (Some number)) (flat_map (view_wanted l own number) ds)) ≡ view_rows (columns_of l) v (folded (aggs_of (columns_of l)) (map (present rows l) ds))
    relation_folds ds all is form =
        let s = columns_of l in
        same_fold (aggs_of (view_columns s v)) (map (part_of rows (Some number)) (flat_map (view_wanted l own number) ds)) (map (view_rows s v) (map (present rows l) ds)) (view_parts ds all)
        ∙ view_folds s v (map (present rows l) ds) is form
