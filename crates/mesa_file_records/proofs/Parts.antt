-- A part of a batch with its files under new ids: it brings its table's rows, and its references are true.
use Rattle.std.proofs.Common.{◌≡◌, ℕ, suc, ◌+◌, List, [], ◌∷◌, length, map, refl, sym, ◌∙◌, ap, subst, arith, Option, Some, None}
use Rattle.std.specs.Prelude.{ℤ, true, ◌&&◌, slice_get, ⊤}
use Rattle.std.specs.List.{AllByRecursion, list_all}
use Rattle.std.proofs.lemmas.Bool.Decides.{nat_tests}
use Rattle.std.proofs.lemmas.List.{length-map}
use Rattle.mesa_pick_files.specs.mesa_value.declared.Agg.{Agg}
use Rattle.mesa_pick_files.specs.mesa_key.declared.Format.TheVariants as format
use Rattle.mesa_columns.specs.declared.rows.Row.{Row}
use Rattle.mesa_columns.specs.declared.views.View.{View}
use Rattle.mesa_columns.specs.Columns.{Columns, aggs_of}
use Rattle.mesa_pick_files.specs.mesa_schema.Changes.{Lineage, columns_of, epoch_of}
use Rattle.mesa_open_files.specs.mesa_fold.Folded.{combined_from, folded, row_combined}
use Rattle.mesa_pick_files.specs.mesa_schema.Views.{view_columns, view_rows}
use Rattle.mesa_batch.specs.Totals.{abs_totals}
use Rattle.mesa_file.specs.declared.file_ref.FileRef.{FileRef}
use Rattle.mesa_record.specs.declared.record.ViewRef.{ViewRef}
use Rattle.mesa_record.specs.declared.record.Files.{Files}
use Rattle.mesa_record.specs.declared.record.Part.{Part}
use Rattle.mesa_pick_files.specs.mesa_block.Layout.{Layout}
use Rattle.mesa_pick_files.specs.mesa_block.Rows.{IsRow}
use Rattle.mesa_pick_files.specs.mesa_delta_format.File.{IsFile, file_bytes}
use Rattle.mesa_pick_files.specs.mesa_delta_format.Summary.{IsReferenceOf, all_noted, file_layout, new_layout, values_of}
use Rattle.mesa_engine.specs.mesa_store_spec.Catalog.{Delta, TableMeta, part_delta}
use Rattle.mesa_engine.specs.mesa_store_spec.Contents.{Rows, present}
use Rattle.mesa_engine.specs.mesa_store_spec.Fitting.{columns_seen, counts_columns, counts_view, files_fit, files_live, is_view_ref, live_id, view_live}
use Rattle.mesa_engine.specs.mesa_store_spec.Sound.{AreGrouped, IsGrouped, IsGroupedAs, IsTold, wants}
use Rattle.mesa_engine.specs.mesa_commit.Turn.{told_files}
use Rattle.mesa_engine.specs.mesa_store_spec.Brought.{Brings}
use Rattle.mesa_engine.proofs.mesa_store_spec.Contents.{present_now}
use Rattle.mesa_engine.proofs.mesa_store_spec.Lifted.{columns_now}
use Rattle.mesa_open_files.specs.Made.{AreMadeFiles, AreMadeViews, IsMadeFile, content_of}
use Rattle.mesa_open_files.specs.declared.made.MadeFile.{MadeFile}
use Rattle.mesa_open_files.specs.declared.made.MadeFiles.{MadeFiles}
use Rattle.mesa_open_files.specs.declared.made.MadeView.{MadeView}
use Rattle.mesa_file_records.proofs.Lists.{AreAt, AreFrom, ids_from}
use Rattle.mesa_file_records.specs.Adopted.{file_in, files_in, files_under, ref_under, told_under, views_under}

-- ---- counts of aggregates

combined_length : (aggs : List Agg) (old new : List ℤ) → length old ≡ length aggs → length new ≡ length aggs → length (row_combined aggs old new) ≡ length aggs
combined_length [] old new e f = refl
combined_length (g ∷ aggs) [] new e f = absurd (omega arith)
combined_length (g ∷ aggs) (a ∷ old) [] e f = absurd (omega arith)
combined_length (g ∷ aggs) (a ∷ old) (b ∷ new) e f = ap suc (combined_length aggs old new (omega arith) (omega arith))

all_combined_length : (aggs : List Agg) (first : List ℤ) (rows : List Row) → length first ≡ length aggs → AllByRecursion (λ (r : Row). length r.values ≡ length aggs) rows → length (combined_from aggs first (map values_of rows)) ≡ length aggs
all_combined_length aggs first [] e all = e
all_combined_length aggs first (r ∷ rows) e all = all_combined_length aggs (row_combined aggs first r.values) rows (combined_length aggs first r.values e all.0) all.1

noted_length : (aggs : List Agg) (values : List ℤ) → length values ≡ length aggs → length (all_noted aggs values) ≡ length aggs
noted_length [] values e = refl
noted_length (g ∷ aggs) [] e = absurd (omega arith)
noted_length (g ∷ aggs) (v ∷ values) e = ap suc (noted_length aggs values (omega arith))

widths : (s : Layout) (rows : List Row) → AllByRecursion (IsRow s) rows → AllByRecursion (λ (r : Row). length r.values ≡ length (aggs_of s.columns)) rows
widths s [] all = tt
widths s (r ∷ rows) all = (all.0.form.values ∙ sym (length-map s.columns.values _), widths s rows all.1)

-- a true reference has an aggregate for each value column
pub true_counts : (s : Layout) (number : ℕ) (rows : List Row) (bytes : List ℕ) (f : FileRef) → IsFile s rows bytes → IsReferenceOf s number rows f → counts_columns s.columns f ≡ true
true_counts s number [] bytes f file is = absurd (let some = file.some in omega (arith, some))
true_counts s number (r ∷ rows) bytes f file is =
    let all = widths s (r ∷ rows) file.good in
    let aggs = aggs_of s.columns in
    let made : length f.aggregates ≡ length aggs = ap length is.aggregates ∙ noted_length aggs _ (all_combined_length aggs r.values rows all.0 all.1) in
    let same : length aggs ≡ length s.columns.values = length-map s.columns.values _ in
    grind (arith, nat_tests, made, same)

-- ---- files under ids

-- Files that tell their bytes.
abbrev pub AreTold : {M : Type 0} → (M → Option (List ℕ)) → List (MadeFile M) → Type 0
AreTold bytes [] = ⊤
AreTold bytes (f ∷ files) = ((b : List ℕ) × (bytes f.made ≡ Some b)) × AreTold bytes files

view_ids : {M : Type 0} (l : Lineage) (id : ℕ) (made : List (MadeView M)) → map live_id (map (view_live l) (views_under id made)) ≡ ids_from id (map file_in made)
view_ids l id [] = refl
view_ids l id (f ∷ made) = ap (λ ids. id ∷ ids) (view_ids l (id + 1) made)

-- the ids of files that were given them from one on
pub brought_ids_are : {M : Type 0} (l : Lineage) (epoch id : ℕ) (made : MadeFiles M) → map live_id (files_live l epoch (Some (files_under id made))) ≡ ids_from id (files_in made)
brought_ids_are l epoch id made = ap (λ ids. id ∷ ids) (view_ids l (id + 1) made.views.items)

-- a made file's rows stand in it as its reference tells
pub layout_under : {M : Type 0} (id : ℕ) (s : Columns) (f : MadeFile M) → f.file.format ≡ format.Two → new_layout s ≡ file_layout s (ref_under id f)
layout_under id s f is = λ i. record { format = sym is i; columns = s }

-- a made file's reference, under another id
referred : {M : Type 0} (s : Layout) (number id : ℕ) (its : List Row) (f : MadeFile M) → IsReferenceOf s number its f.file → IsReferenceOf s id its (ref_under id f)
referred s number id its f is = record { format = is.format; id = refl; len = is.len; rows = is.rows; blocks = is.blocks; first = is.first; last = is.last; aggregates = is.aggregates; digest = is.digest }

-- a made file under its id is told
pub told_one : {M : Type 0} (bytes : M → Option (List ℕ)) (id_of : M → ℕ) (rows : Rows) (id : ℕ) (s : Columns) (its : List Row) (f : MadeFile M) → IsMadeFile bytes id_of (record { columns = s; rows = its }) f → rows id ≡ its
    → IsTold rows (record { columns = s; file = ref_under id f })
told_one bytes id_of rows id s its f made at =
    subst (λ (its : List Row). IsMadeFile bytes id_of (record { columns = s; rows = its }) f → IsTold rows (record { columns = s; file = ref_under id f })) at
    (λ made. record {
      file = subst (λ (x : Layout). IsFile x (rows id) (file_bytes x (rows id))) (layout_under id s f made.reference.format) made.rows;
      true = subst (λ (x : Layout). IsReferenceOf x id (rows id) (ref_under id f)) (layout_under id s f made.reference.format) (referred (new_layout s) (id_of f.made) id (rows id) f made.reference);
    }) made

module _ {M : Type 0} (bytes : M → Option (List ℕ)) (id_of : M → ℕ) (rows : Rows) (l : Lineage) (its : List Row) where
  abbrev s : Columns
  s = columns_of l

  -- what is told of a view's file
  record IsSeen (d : Delta) (v : ViewRef) : Type 0 where
    told : IsTold rows (view_live l v)
    fits : is_view_ref l v ≡ true
    grouped : IsGrouped rows l d v

  seen_one : (d : Delta) → present rows l d ≡ its → (id number : ℕ) (view : View) (f : MadeView M) → f.view ≡ number → slice_get l.views number ≡ Some view → IsMadeFile bytes id_of (content_of s its view) f.file → rows id ≡ view_rows s view its
      → IsSeen d (record { view = f.view; file = ref_under id f.file })
  seen_one d now id number view f is there made at =
      let seen : slice_get l.views f.view ≡ Some view = ap (slice_get l.views) is ∙ there in
      let told = told_one bytes id_of rows id (view_columns s view) (view_rows s view its) f.file made at in
      record {
        told = subst (λ (o : Option View). IsTold rows (record { columns = columns_seen s o; file = ref_under id f.file })) (sym seen) told;
        fits = ap (λ (o : Option View). counts_view s o (ref_under id f.file)) seen ∙ true_counts (file_layout (view_columns s view) (ref_under id f.file)) id (rows id) _ (ref_under id f.file) told.file told.true;
        grouped = subst (λ (o : Option View). IsGroupedAs rows l d o (record { view = f.view; file = ref_under id f.file })) (sym seen) (at ∙ ap (view_rows s view) (sym now));
      }

  seen_all : (d : Delta) → present rows l d ≡ its → (id number : ℕ) (views : List View) (made : List (MadeView M)) → AreFrom l.views number views → AreMadeViews bytes id_of number (map (content_of s its) views) made
      → AreAt rows id (map (λ (v : View). view_rows s v its) views) → AllByRecursion (IsSeen d) (views_under id made)
  seen_all d now id number [] [] from are at = tt
  seen_all d now id number [] (f ∷ made) from are at = absurd are
  seen_all d now id number (v ∷ views) [] from are at = absurd are
  seen_all d now id number (v ∷ views) (f ∷ made) from are at =
      (seen_one d now id number v f are.0 from.0 are.1 at.0, seen_all d now (id + 1) (number + 1) views made from.1 are.2 at.1)

  tells_one : (id : ℕ) (columns : Columns) (some : List Row) (f : MadeFile M) → IsMadeFile bytes id_of (record { columns = columns; rows = some }) f → rows id ≡ some → (b : List ℕ) → bytes f.made ≡ Some b
      → bytes f.made ≡ Some (file_bytes (file_layout columns (ref_under id f)) (rows id))
  tells_one id columns some f made at b is = is ∙ ap (λ (x : List ℕ). Some x) (made.told b is) ∙ (λ i. Some (file_bytes (layout_under id columns f made.reference.format i) (sym at i)))

  tells_views : (id number : ℕ) (views : List View) (made : List (MadeView M)) → AreFrom l.views number views → AreMadeViews bytes id_of number (map (content_of s its) views) made → AreAt rows id (map (λ (v : View). view_rows s v its) views)
      → AreTold bytes (map file_in made) → told_under bytes id (map file_in made) ≡ told_files (wants rows (map (view_live l) (views_under id made)))
  tells_views id number [] [] from are at all = refl
  tells_views id number [] (f ∷ made) from are at all = absurd are
  tells_views id number (v ∷ views) [] from are at all = absurd are
  tells_views id number (v ∷ views) (f ∷ made) from are at all =
      let seen : slice_get l.views f.view ≡ Some v = ap (slice_get l.views) are.0 ∙ from.0 in
      let one = tells_one id (view_columns s v) (view_rows s v its) f.file are.1 at.0 all.0.0 all.0.1 ∙ ap (λ (o : Option View). Some (file_bytes (file_layout (columns_seen s o) (ref_under id f.file)) (rows id))) (sym seen) in
      λ i. (id, one i) ∷ tells_views (id + 1) (number + 1) views made from.1 are.2 at.1 all.1 i

  told_views : (d : Delta) (views : List ViewRef) → AllByRecursion (IsSeen d) views → AllByRecursion (IsTold rows) (map (view_live l) views)
  told_views d [] all = tt
  told_views d (v ∷ views) all = (all.0.told, told_views d views all.1)

  fit_views : (d : Delta) (views : List ViewRef) → AllByRecursion (IsSeen d) views → list_all (is_view_ref l) views ≡ true
  fit_views d [] all = refl
  fit_views d (v ∷ views) all = ap (λ b. b && list_all (is_view_ref l) views) all.0.fits ∙ fit_views d views all.1

  grouped_views : (d : Delta) (views : List ViewRef) → AllByRecursion (IsSeen d) views → AllByRecursion (IsGrouped rows l d) views
  grouped_views d [] all = tt
  grouped_views d (v ∷ views) all = (all.0.grouped, grouped_views d views all.1)

  -- ---- the files of a table's rows

  module _ (id : ℕ) (made : MadeFiles M) (are : AreMadeFiles bytes id_of (columns_of l) l.views its made) (at : AreAt rows id (its ∷ map (λ (v : View). view_rows (columns_of l) v its) l.views)) (from : AreFrom l.views 0 l.views) where
    abbrev refs : Files
    refs = files_under id made

    its_delta : (d : Delta) → d.epoch ≡ epoch_of l → d.files ≡ Some refs → present rows l d ≡ its
    its_delta d epoch files = ap (present rows l) (λ i. record { epoch = epoch i; files = files i; totals = d.totals }) ∙ present_now l (rows id) ∙ at.0

    seen : (d : Delta) → d.epoch ≡ epoch_of l → d.files ≡ Some refs → AllByRecursion (IsSeen d) refs.views
    seen d epoch files = seen_all d (its_delta d epoch files) (id + 1) 0 l.views made.views.items from are.grouped at.1

    abbrev some_delta : Delta
    some_delta = record { epoch = epoch_of l; files = Some refs; totals = None }

    pub files_told : AllByRecursion (IsTold rows) (files_live l (epoch_of l) (Some refs))
    files_told = (
      subst (λ (c : Columns). IsTold rows (record { columns = c; file = ref_under id made.file })) (sym (columns_now l)) (told_one bytes id_of rows id s its made.file are.table at.0),
      told_views some_delta refs.views (seen some_delta refl refl),
    )

    pub files_right : files_fit l (epoch_of l) refs ≡ true
    files_right =
        let one = told_one bytes id_of rows id s its made.file are.table at.0 in
        ap (λ b. b && list_all (is_view_ref l) refs.views) (ap (λ (c : Columns). counts_columns c (ref_under id made.file)) (columns_now l) ∙ true_counts (file_layout s (ref_under id made.file)) id (rows id) _ (ref_under id made.file) one.file one.true)
        ∙ fit_views some_delta refs.views (seen some_delta refl refl)

    -- they are those that are named, with their bytes
    pub are_told : AreTold bytes (files_in made) → told_under bytes id (files_in made) ≡ told_files (wants rows (files_live l (epoch_of l) (Some refs)))
    are_told all =
        let one = tells_one id s its made.file are.table at.0 all.0.0 all.0.1 ∙ ap (λ (c : Columns). Some (file_bytes (file_layout c (ref_under id made.file)) (rows id))) (sym (columns_now l)) in
        λ i. (id, one i) ∷ tells_views (id + 1) 0 l.views made.views.items from are.grouped at.1 all.1 i

    pub part_brings : (t : TableMeta) → t.lineage ≡ l → (p : Part) (load : List Row) → p.epoch ≡ epoch_of l → p.files ≡ refs → its ≡ folded (aggs_of (columns_of l)) (load ∷ []) → p.totals ≡ abs_totals (columns_of l) load → abs_totals (columns_of l) its ≡ abs_totals (columns_of l) load
        → Brings rows t p load
    part_brings t same p load epoch files fold totals kept =
        let file : rows p.files.file.id ≡ its = ap (λ (f : Files). rows f.file.id) files ∙ at.0 in
        subst (λ (k : Lineage). t.lineage ≡ k → Brings rows t p load) same (λ e. record {
          epoch = epoch ∙ ap epoch_of (sym same);
          by_key = file ∙ fold ∙ ap (λ (k : Lineage). folded (aggs_of (columns_of k)) (load ∷ [])) (sym same);
          totals = totals ∙ ap (λ (k : Lineage). abs_totals (columns_of k) load) (sym same);
          same_totals = totals ∙ sym kept ∙ ap (abs_totals (columns_of l)) (sym file) ∙ ap (λ (k : Lineage). abs_totals (columns_of k) (rows p.files.file.id)) (sym same);
          grouped = subst (λ (k : Lineage). AreGrouped rows k (part_delta p)) (sym same) (subst (λ (f : Files). AllByRecursion (IsGrouped rows l (part_delta p)) f.views) (sym files) (grouped_views (part_delta p) refs.views (seen (part_delta p) epoch (ap (λ (f : Files). Some f) files))));
        }) same
