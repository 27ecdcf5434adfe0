-- A finished merge whose files get ids from one on: their references are true of its rows, and they fit a table that has grown since.
use Rattle.std.proofs.Common.{◌≡◌, ℕ, zero, suc, ◌+◌, ◌≤◌, List, [], ◌∷◌, length, map, refl, sym, ◌∙◌, ap, subst, arith, Option, Some, None}
use Rattle.std.specs.Prelude.{Bool, true, ◌&&◌, slice_get}
use Rattle.std.specs.List.{AllByRecursion, list_all}
use Rattle.std.proofs.lemmas.List.{length-map}
use Rattle.mesa_columns.specs.declared.rows.Row.{Row}
use Rattle.mesa_columns.specs.declared.views.View.{View}
use Rattle.mesa_columns.specs.Columns.{Columns}
use Rattle.mesa_pick_files.specs.mesa_schema.Changes.{Lineage, columns_at, columns_of, epoch_of, lifted}
use Rattle.mesa_pick_files.specs.mesa_schema.Lineages.{IsLineage, is_view_of}
use Rattle.mesa_columns.specs.Schema.{is_schema}
use Rattle.mesa_columns.specs.Rows.{AreRowsOf, IsRowOf}
use Rattle.mesa_pick_files.specs.mesa_schema.Views.{view_columns, view_rows}
use Rattle.mesa_pick_files.proofs.mesa_schema.LineageRules.{present_schema}
use Rattle.mesa_columns.proofs.Lists.{all_so}
use Rattle.mesa_pick_files.proofs.mesa_schema.ViewSchemas.{view_is_schema}
use Rattle.mesa_pick_files.specs.mesa_block.Rows.{IsRow}
use Rattle.mesa_pick_files.specs.mesa_delta_format.File.{file_bytes}
use Rattle.mesa_pick_files.specs.mesa_delta_format.Summary.{file_layout, new_layout}
use Rattle.mesa_engine.specs.mesa_record_fields.Rules.{is_file_ref, rise_from}
use Rattle.mesa_record.specs.Rules.{are_files_if_any}
use Rattle.mesa_record.specs.declared.record.ViewRef.{ViewRef}
use Rattle.mesa_engine.specs.mesa_commit.Turn.{told_files}
use Rattle.mesa_engine.specs.mesa_store_spec.Catalog.{Delta, merged_delta}
use Rattle.mesa_engine.specs.mesa_store_spec.Contents.{Rows, present, rows_in}
use Rattle.mesa_engine.specs.mesa_store_spec.Fitting.{columns_seen, counts_columns, counts_view, files_fit_if_any, files_live, is_view_ref, live_id, view_live}
use Rattle.mesa_engine.specs.mesa_store_spec.Sound.{AreGrouped, IsGrouped, IsGroupedAs, IsTold, wants}
use Rattle.mesa_engine.proofs.mesa_store_spec.Lists.{both_true}
use Rattle.mesa_open_files.specs.Made.{AreMadeViews, IsMadeFile, content_of}
use Rattle.mesa_open_files.specs.Tasks.{HaveMerged}
use Rattle.mesa_open_files.specs.declared.made.MadeFile.{MadeFile}
use Rattle.mesa_open_files.specs.declared.made.MadeFiles.{MadeFiles}
use Rattle.mesa_open_files.specs.declared.made.MadeView.{MadeView}
use Rattle.mesa_file_records.specs.Adopted.{file_in, files_if_any, ref_under, told_under, views_under}
use Rattle.mesa_file_records.proofs.Lists.{AreAt, AreFrom, ids_from}
use Rattle.mesa_file_records.proofs.Parts.{AreTold, brought_ids_are, layout_under, told_one, true_counts}
use Rattle.mesa_file_records.specs.Grown.{HasGrown}
use Rattle.mesa_file_records.specs.Swapped.{files_under_if_any}
use Rattle.mesa_file_records.proofs.Growing.{columns_was, views_was}
use Rattle.mesa_file_records.proofs.Keeping.{all_true, is_at_least, is_ref}

passes_got : {X : Type 0} (p : X → Bool) (xs : List X) (i : ℕ) (x : X) → list_all p xs ≡ true → slice_get xs i ≡ Some x → p x ≡ true
passes_got p [] i x all e = absurd cc
passes_got p (y ∷ xs) zero x all e = let same : y ≡ x = cc in ap p (sym same) ∙ (both_true (p y) (list_all p xs) all).0
passes_got p (y ∷ xs) (suc i) x all e = passes_got p xs i x (both_true (p y) (list_all p xs) all).1 e

under_many : {M : Type 0} (id : ℕ) (made : List (MadeView M)) → length (views_under id made) ≡ length made
under_many id [] = refl
under_many id (f ∷ made) = ap suc (under_many (id + 1) made)

-- the rows of a merged range's files, if it has rows: the table's, and then each view's, grouped
abbrev pub rows_made : {M : Type 0} → Lineage → List Row → Option (MadeFiles M) → List (List Row)
rows_made was its None = []
rows_made was its (Some made) = its ∷ map (λ (v : View). view_rows (columns_of was) v its) was.views

module _ {M : Type 0} (bytes : M → Option (List ℕ)) (id_of : M → ℕ) where
  -- a file for each view
  views_many : (s : Columns) (its : List Row) (number : ℕ) (views : List View) (made : List (MadeView M)) → AreMadeViews bytes id_of number (map (content_of s its) views) made → length made ≡ length views
  views_many s its number [] [] are = refl
  views_many s its number [] (f ∷ made) are = absurd are
  views_many s its number (v ∷ views) [] are = absurd are
  views_many s its number (v ∷ views) (f ∷ made) are = ap suc (views_many s its (number + 1) views made are.2)

  pub files_few : (was : Lineage) (its : List Row) (files : Option (MadeFiles M)) → HaveMerged bytes id_of was its files → length (files_if_any files) ≤ 1 + length was.views
  files_few was its None have = omega arith
  files_few was its (Some made) have =
      let many = views_many (columns_of was) its 0 was.views made.views.items have.grouped in
      let same = length-map made.views.items file_in in
      omega (arith, many, same)

  -- they are told by rising numbers
  views_rise : (s : Columns) (its : List Row) (least number id : ℕ) → least ≤ number → (views : List View) (made : List (MadeView M)) → AreMadeViews bytes id_of number (map (content_of s its) views) made
      → rise_from least (map (λ (v : ViewRef). v.view) (views_under id made)) ≡ true
  views_rise s its least number id low [] [] are = refl
  views_rise s its least number id low [] (f ∷ made) are = absurd are
  views_rise s its least number id low (v ∷ views) [] are = absurd are
  views_rise s its least number id low (v ∷ views) (f ∷ made) are =
      let is : f.view ≡ number = are.0 in
      all_true (is_at_least least f.view (omega (arith, is, low))) (views_rise s its (f.view + 1) (number + 1) (id + 1) (omega (arith, is)) views made are.2)

  module _ (rows : Rows) (was now : Lineage) (grown : HasGrown was now) (its : List Row) where
    abbrev s : Columns
    s = columns_of was

    -- ---- one file

    tells_one : (id : ℕ) (columns : Columns) (some : List Row) (f : MadeFile M) → IsMadeFile bytes id_of (record { columns = columns; rows = some }) f → rows id ≡ some → (b : List ℕ) → bytes f.made ≡ Some b
        → bytes f.made ≡ Some (file_bytes (file_layout columns (ref_under id f)) (rows id))
    tells_one id columns some f made at b is = is ∙ ap (λ (x : List ℕ). Some x) (made.told b is) ∙ (λ i. Some (file_bytes (layout_under id columns f made.reference.format i) (sym at i)))

    formed : (s : Columns) (some : List Row) → AllByRecursion (IsRow (new_layout s)) some → AreRowsOf s some
    formed s some good = all_so (IsRow (new_layout s)) (IsRowOf s) some (λ row is. is.form) good

    module _ (id number : ℕ) (view : View) (f : MadeView M) (is : f.view ≡ number) (there : slice_get was.views number ≡ Some view) (made : IsMadeFile bytes id_of (content_of s its view) f.file) (at : rows id ≡ view_rows s view its) where
      abbrev its_ref : ViewRef
      its_ref = record { view = f.view; file = ref_under id f.file }

      seen : slice_get now.views f.view ≡ Some view
      seen = ap (slice_get now.views) is ∙ (grown.views number view there).there

      its_columns : columns_seen (columns_of now) (slice_get now.views f.view) ≡ view_columns s view
      its_columns = ap (columns_seen (columns_of now)) seen ∙ (grown.views number view there).columns

      was_told : IsTold rows (record { columns = view_columns s view; file = ref_under id f.file })
      was_told = told_one bytes id_of rows id (view_columns s view) (view_rows s view its) f.file made at

      view_told : IsTold rows (view_live now its_ref)
      view_told = subst (λ (c : Columns). IsTold rows (record { columns = c; file = ref_under id f.file })) (sym its_columns) was_told

      view_fits : is_view_ref now its_ref ≡ true
      view_fits =
          ap (λ (o : Option View). counts_view (columns_of now) o (ref_under id f.file)) seen
          ∙ ap (λ (c : Columns). counts_columns c (ref_under id f.file)) (grown.views number view there).columns
          ∙ true_counts (file_layout (view_columns s view) (ref_under id f.file)) id (rows id) _ (ref_under id f.file) was_told.file was_told.true

      view_grouped : (d : Delta) → d.epoch ≡ epoch_of was → rows_in rows d ≡ its → AreRowsOf s its → IsGrouped rows now d its_ref
      view_grouped d epoch has form =
          let lifts : present rows now d ≡ map (lifted now (epoch_of was) (epoch_of now)) its = λ i. map (lifted now (epoch i) (epoch_of now)) (has i) in
          subst (λ (o : Option View). IsGroupedAs rows now d o its_ref) (sym seen)
          (at ∙ sym ((grown.views number view there).rows its form) ∙ ap (view_rows (columns_of now) view) (sym lifts))

      view_keeps : IsLineage now → is_file_ref (ref_under id f.file) ≡ true
      view_keeps rules =
          let outlived = grown.views number view there in
          let allowed : is_view_of (columns_of now) view ≡ true = passes_got (is_view_of (columns_of now)) now.views number view rules.views outlived.there in
          let schema : is_schema (view_columns s view) ≡ true = ap is_schema (sym outlived.columns) ∙ view_is_schema (columns_of now) view (present_schema now rules) allowed in
          is_ref (file_layout (view_columns s view) (ref_under id f.file)) id (rows id) _ (ref_under id f.file) schema was_told.file was_told.true

      view_tells : (b : List ℕ) → bytes f.file.made ≡ Some b → bytes f.file.made ≡ Some (file_bytes (file_layout (columns_seen (columns_of now) (slice_get now.views f.view)) (ref_under id f.file)) (rows id))
      view_tells b told =
          tells_one id (view_columns s view) (view_rows s view its) f.file made at b told
          ∙ ap (λ (c : Columns). Some (file_bytes (file_layout c (ref_under id f.file)) (rows id))) (sym its_columns)

    -- ---- the views' files

    abbrev AreViews : ℕ → List View → List (MadeView M) → Type 0
    AreViews number views made = AreMadeViews bytes id_of number (map (content_of s its) views) made

    abbrev StandAt : ℕ → List View → Type 0
    StandAt id views = AreAt rows id (map (λ (v : View). view_rows s v its) views)

    views_told : (id number : ℕ) (views : List View) (made : List (MadeView M)) → AreFrom was.views number views → AreViews number views made → StandAt id views → AllByRecursion (IsTold rows) (map (view_live now) (views_under id made))
    views_told id number [] [] from are at = tt
    views_told id number [] (f ∷ made) from are at = absurd are
    views_told id number (v ∷ views) [] from are at = absurd are
    views_told id number (v ∷ views) (f ∷ made) from are at = (view_told id number v f are.0 from.0 are.1 at.0, views_told (id + 1) (number + 1) views made from.1 are.2 at.1)

    views_fit : (id number : ℕ) (views : List View) (made : List (MadeView M)) → AreFrom was.views number views → AreViews number views made → StandAt id views → list_all (is_view_ref now) (views_under id made) ≡ true
    views_fit id number [] [] from are at = refl
    views_fit id number [] (f ∷ made) from are at = absurd are
    views_fit id number (v ∷ views) [] from are at = absurd are
    views_fit id number (v ∷ views) (f ∷ made) from are at =
        ap (λ b. b && list_all (is_view_ref now) (views_under (id + 1) made)) (view_fits id number v f are.0 from.0 are.1 at.0) ∙ views_fit (id + 1) (number + 1) views made from.1 are.2 at.1

    views_keep : IsLineage now → (id number : ℕ) (views : List View) (made : List (MadeView M)) → AreFrom was.views number views → AreViews number views made → StandAt id views → list_all (λ (v : ViewRef). is_file_ref v.file) (views_under id made) ≡ true
    views_keep rules id number [] [] from are at = refl
    views_keep rules id number [] (f ∷ made) from are at = absurd are
    views_keep rules id number (v ∷ views) [] from are at = absurd are
    views_keep rules id number (v ∷ views) (f ∷ made) from are at =
        all_true (view_keeps id number v f are.0 from.0 are.1 at.0 rules) (views_keep rules (id + 1) (number + 1) views made from.1 are.2 at.1)

    views_grouped : (d : Delta) → d.epoch ≡ epoch_of was → rows_in rows d ≡ its → AreRowsOf s its → (id number : ℕ) (views : List View) (made : List (MadeView M)) → AreFrom was.views number views → AreViews number views made → StandAt id views
        → AllByRecursion (IsGrouped rows now d) (views_under id made)
    views_grouped d epoch has form id number [] [] from are at = tt
    views_grouped d epoch has form id number [] (f ∷ made) from are at = absurd are
    views_grouped d epoch has form id number (v ∷ views) [] from are at = absurd are
    views_grouped d epoch has form id number (v ∷ views) (f ∷ made) from are at =
        (view_grouped id number v f are.0 from.0 are.1 at.0 d epoch has form, views_grouped d epoch has form (id + 1) (number + 1) views made from.1 are.2 at.1)

    views_tell : (id number : ℕ) (views : List View) (made : List (MadeView M)) → AreFrom was.views number views → AreViews number views made → StandAt id views
        → AreTold bytes (map file_in made) → told_under bytes id (map file_in made) ≡ told_files (wants rows (map (view_live now) (views_under id made)))
    views_tell id number [] [] from are at all = refl
    views_tell id number [] (f ∷ made) from are at all = absurd are
    views_tell id number (v ∷ views) [] from are at all = absurd are
    views_tell id number (v ∷ views) (f ∷ made) from are at all =
        let one = view_tells id number v f are.0 from.0 are.1 at.0 all.0.0 all.0.1 in
        λ i. (id, one i) ∷ views_tell (id + 1) (number + 1) views made from.1 are.2 at.1 all.1 i

    -- ---- the files of the range

    module _ (epoch : ℕ) (same : epoch ≡ epoch_of was) (from : AreFrom was.views 0 was.views) (id : ℕ) where
      its_epoch : columns_at now epoch ≡ s
      its_epoch = ap (columns_at now) same ∙ columns_was was now grown

      pub merged_told : (files : Option (MadeFiles M)) → HaveMerged bytes id_of was its files → AreAt rows id (rows_made was its files) → AllByRecursion (IsTold rows) (files_live now epoch (files_under_if_any id files))
      merged_told None have at = tt
      merged_told (Some made) have at = (
        subst (λ (c : Columns). IsTold rows (record { columns = c; file = ref_under id made.file })) (sym its_epoch) (told_one bytes id_of rows id s its made.file have.table at.0),
        views_told (id + 1) 0 was.views made.views.items from have.grouped at.1,
      )

      pub merged_fit : (files : Option (MadeFiles M)) → HaveMerged bytes id_of was its files → AreAt rows id (rows_made was its files) → files_fit_if_any now epoch (files_under_if_any id files) ≡ true
      merged_fit None have at = refl
      merged_fit (Some made) have at =
          let one = told_one bytes id_of rows id s its made.file have.table at.0 in
          ap (λ b. b && list_all (is_view_ref now) (views_under (id + 1) made.views.items)) (ap (λ (c : Columns). counts_columns c (ref_under id made.file)) its_epoch ∙ true_counts (file_layout s (ref_under id made.file)) id (rows id) _ (ref_under id made.file) one.file one.true)
          ∙ views_fit (id + 1) 0 was.views made.views.items from have.grouped at.1

      pub merged_keeps : IsLineage now → (files : Option (MadeFiles M)) → HaveMerged bytes id_of was its files → AreAt rows id (rows_made was its files) → are_files_if_any (files_under_if_any id files) ≡ true
      merged_keeps rules None have at = refl
      merged_keeps rules (Some made) have at =
          let one = told_one bytes id_of rows id s its made.file have.table at.0 in
          let schema : is_schema s ≡ true = ap is_schema (sym (columns_was was now grown)) ∙ rules.schemas (epoch_of was) in
          let many = views_many s its 0 was.views made.views.items have.grouped in
          let refs = under_many (id + 1) made.views.items in
          let few = views_was was now grown in
          all_true (is_ref (file_layout s (ref_under id made.file)) id (rows id) _ (ref_under id made.file) schema one.file one.true)
          (all_true
          (all_true (is_at_least (length (views_under (id + 1) made.views.items)) 8 (omega (arith, many, refs, few, rules.few_views))) (views_rise s its 0 0 (id + 1) (omega arith) was.views made.views.items have.grouped))
          (views_keep rules (id + 1) 0 was.views made.views.items from have.grouped at.1))

      pub merged_ids : (files : Option (MadeFiles M)) → map live_id (files_live now epoch (files_under_if_any id files)) ≡ ids_from id (files_if_any files)
      merged_ids None = refl
      merged_ids (Some made) = brought_ids_are now epoch id made

      pub merged_tell : (files : Option (MadeFiles M)) → HaveMerged bytes id_of was its files → AreAt rows id (rows_made was its files) → AreTold bytes (files_if_any files)
          → told_under bytes id (files_if_any files) ≡ told_files (wants rows (files_live now epoch (files_under_if_any id files)))
      merged_tell None have at all = refl
      merged_tell (Some made) have at all =
          let one = tells_one id s its made.file have.table at.0 all.0.0 all.0.1 ∙ ap (λ (c : Columns). Some (file_bytes (file_layout c (ref_under id made.file)) (rows id))) (sym its_epoch) in
          λ i. (id, one i) ∷ views_tell (id + 1) 0 was.views made.views.items from have.grouped at.1 all.1 i

      -- the delta has the merged rows
      pub merged_rows : (files : Option (MadeFiles M)) → HaveMerged bytes id_of was its files → AreAt rows id (rows_made was its files) → rows_in rows (merged_delta epoch (files_under_if_any id files)) ≡ its
      merged_rows None have at = sym have
      merged_rows (Some made) have at = at.0

      -- and its view files these, grouped
      pub merged_grouped : (files : Option (MadeFiles M)) → HaveMerged bytes id_of was its files → AreAt rows id (rows_made was its files) → AreGrouped rows now (merged_delta epoch (files_under_if_any id files))
      merged_grouped None have at = tt
      merged_grouped (Some made) have at =
          views_grouped (merged_delta epoch (files_under_if_any id (Some made))) same at.0 (formed s its have.table.rows.good) (id + 1) 0 was.views made.views.items from have.grouped at.1
