-- The files of a plan tell the answer over the content at its version.
use Rattle.std.proofs.Common.{◌≡◌, ℕ, zero, suc, ◌<◌, List, [], ◌∷◌, map, length, refl, sym, ap, ◌∙◌, subst, arith, true, Bool, false, Option, Some, None}
use Rattle.std.specs.Prelude.{slice_get}
use Rattle.std.specs.List.{AllByRecursion, list_all}
use Rattle.mesa_schema.specs.Changes.{Lineage, columns_of}
use Rattle.mesa_validate.specs.mesa_columns.Columns.{Columns, aggs_of}
use Rattle.mesa_open_files.specs.mesa_fold.Folded.{folded, rows_of}
use Rattle.mesa_schema.specs.Lineages.{is_view_of}
use Rattle.mesa_validate.specs.mesa_columns.Rows.{AreRowsOf}
use Rattle.mesa_schema.specs.Views.{view_key_places, view_rows, view_value_places}
use Rattle.mesa_validate.specs.mesa_columns.declared.rows.Row.{Row}
use Rattle.mesa_validate.specs.mesa_columns.declared.views.View.{View}
use Rattle.mesa_query.proofs.mesa_fold.Forms.{folded_form}
use Rattle.mesa_query.proofs.mesa_fold.GroupKeys.{groups_form}
use Rattle.mesa_validate.proofs.mesa_columns.Lists.{all_both}
use Rattle.mesa_validate.specs.mesa_filter.Query.{BuiltQuery, IsQueryOf, group_kinds}
use Rattle.mesa_query.specs.mesa_answer.Answering.{KeepsSums}
use Rattle.mesa_validate.specs.mesa_model.Page.{page_of}
use Rattle.mesa_validate.specs.mesa_model.declared.replies.Page.{Page}
use Rattle.mesa_validate.specs.mesa_model.Query.{Answer, answer_rows}
use Rattle.mesa_validate.specs.mesa_commit.Images.{Has}
use Rattle.mesa_disk.specs.Image.{Image, file_of}
use Rattle.mesa_validate.specs.mesa_store_spec.Catalog.{Catalog, Delta, TableMeta, no_meta, meta_at}
use Rattle.mesa_validate.specs.mesa_store_spec.Contents.{Rows, content, present}
use Rattle.mesa_validate.specs.mesa_store_spec.Fitting.{LiveFile, delta_live, deltas_of, live_files, meta_live}
use Rattle.mesa_validate.specs.mesa_store_spec.Shape.{IsShaped}
use Rattle.mesa_validate.specs.mesa_store_spec.Sound.{AreGrouped, HaveSoundRows, HasSoundRows, IsTold, bytes_of, wanted, wants}
use Rattle.mesa_validate.specs.mesa_store_spec.Planned.{planned}
use Rattle.mesa_validate.proofs.mesa_store_spec.Formed.{all_formed, rows_formed}
use Rattle.mesa_validate.proofs.mesa_store_spec.Lists.{all_unflat, all_unmap, both_true}
use Rattle.mesa_validate.proofs.mesa_store_spec.Plans.{planned_folds}
use Rattle.mesa_validate.proofs.mesa_catalog_records.TableMetas.{all_at}
use Rattle.mesa_query.specs.mesa_merge.Inputs.{Known, knowns_of}
use Rattle.mesa_pick_files.specs.Read.{IsPinnedFor, relation_read, view_read}
use Rattle.mesa_pick_files.specs.Told.{AreOfRelation, TellContent, Tells, parts_known, parts_under}
use Rattle.mesa_pick_files.proofs.Bounds.{all_under, read_sums}
use Rattle.mesa_pick_files.proofs.Folds.{relation_folds, table_folds}
use Rattle.mesa_pick_files.proofs.Given.{AreGiven, IsGiven, IsSeen, all_given, all_parts, all_told, part_of, rows_seen}
use Rattle.mesa_pick_files.proofs.Reading.{IsThere, all_of, all_pinned, columns_read, view_seen}
use Rattle.mesa_pick_files.proofs.Among.{all_planned}
use Rattle.mesa_pick_files.specs.Files.{Seen}
use Rattle.mesa_query.specs.mesa_group_blocks.Moved.{inputs_in}
use Rattle.mesa_query.specs.Files.{owns_in}
use Rattle.mesa_query.specs.mesa_group_blocks.Ungrouped.{parts_ungrouped, rows_ungrouped}
use Rattle.mesa_query.specs.Relation.{page_over, parts_pinned}
use Rattle.mesa_validate.specs.declared.found.Found.{Found}
use Rattle.mesa_open_files.specs.Pins.{HasViewOf, IsOfRelation, IsPinned, IsPinnedInput, rows_pinned, view_at}
use Rattle.mesa_open_files.specs.declared.querying.Pinned.{Pinned}
use Rattle.mesa_open_files.specs.declared.querying.PinnedInput.{PinnedInput}

-- ---- the columns of a relation

view_is : (s t table : Columns) (o : Option View) → HasViewOf s table o → HasViewOf t table o → s ≡ t
view_is s t table None a b = absurd a
view_is s t table (Some v) a b = sym a ∙ b

-- a relation that has a file has its columns
columns_are : (s t : Columns) (view : Option ℕ) (l : Lineage) (own : Bool) → IsOfRelation s view l own → IsOfRelation t view l own → s ≡ t
columns_are s t view l true a b = sym a ∙ b
columns_are s t view l false a b = view_is s t (columns_of l) (view_at l view) a b

-- and without files the page is empty, whatever they are
same_page : (s t : Columns) (q : BuiltQuery) (view : Option ℕ) (ks : List Known) (own : List Bool) (contents : List (List Row)) → AreOfRelation s view ks own → AreOfRelation t view ks own
    → page_over s q (parts_known view ks own contents) ≡ page_over t q (parts_known view ks own contents)
same_page s t q view [] own contents a b = refl
same_page s t q view (k ∷ ks) [] contents a b = refl
same_page s t q view (k ∷ ks) (o ∷ own) contents a b = ap (λ (x : Columns). page_over x q (parts_known view (k ∷ ks) (o ∷ own) contents)) (columns_are s t view k.table o a.0 b.0)

-- nor does any sum leave its type
same_sums : (s t : Columns) (view : Option ℕ) (ks : List Known) (own : List Bool) (contents : List (List Row)) → AreOfRelation s view ks own → AreOfRelation t view ks own
    → KeepsSums s (rows_of (parts_under view ks own contents)) → KeepsSums t (rows_of (parts_under view ks own contents))
same_sums s t view [] own contents a b keeps = λ c sum. omega arith
same_sums s t view (k ∷ ks) [] contents a b keeps = λ c sum. omega arith
same_sums s t view (k ∷ ks) (o ∷ own) contents a b keeps = subst (λ (x : Columns). KeepsSums x (rows_of (parts_under view (k ∷ ks) (o ∷ own) contents))) (columns_are s t view k.table o a.0 b.0) keeps

-- what was pinned is known to be of the relation
pub pinned_of : {R : Type 0} (bytes : R → Option (List ℕ)) (s : Columns) (view : Option ℕ) (files : List (PinnedInput R)) → AllByRecursion (IsPinnedInput bytes s view) files → AreOfRelation s view (knowns_of bytes (inputs_in files)) (owns_in files)
pinned_of bytes s view [] all = tt
pinned_of bytes s view (f ∷ files) all = (all.0.relation, pinned_of bytes s view files all.1)

-- ---- the content of a relation

abbrev pub rows_by : Columns → Option View → List Row → List Row
rows_by s None rows = rows
rows_by s (Some v) rows = view_rows s v rows

-- a table's content at a version, or that of the view of a number
abbrev pub content_read : Rows → TableMeta → Option ℕ → ℕ → List Row
content_read rows t view version = rows_by (columns_of t.lineage) (view_at t.lineage view) (content rows t version)

allowed : (s : Columns) (views : List View) (i : ℕ) (v : View) → list_all (is_view_of s) views ≡ true → slice_get views i ≡ Some v → is_view_of s v ≡ true
allowed s [] i v all is = absurd cc
allowed s (x ∷ views) zero v all is = let same : x ≡ v = cc in ap (is_view_of s) (sym same) ∙ (both_true (is_view_of s x) (list_all (is_view_of s) views) all).0
allowed s (x ∷ views) (suc i) v all is = allowed s views i v (both_true (is_view_of s x) (list_all (is_view_of s) views) all).1 is

module _ (rows : Rows) (oldest next : ℕ) (t : TableMeta) (shaped : IsShaped oldest next t) (sound_rows : HasSoundRows rows t) (version : ℕ) where
  abbrev l : Lineage
  l = t.lineage

  abbrev ds : List Delta
  ds = planned t version

  grouped : AllByRecursion (AreGrouped rows t.lineage) (planned t version)
  grouped = all_planned (AreGrouped rows l) t sound_rows.grouped version

  formed : AllByRecursion (λ (d : Delta). AllByRecursion (IsTold rows) (delta_live t.lineage d)) (planned t version)
  formed = all_planned (λ (d : Delta). AllByRecursion (IsTold rows) (delta_live l d)) t (all_unflat (IsTold rows) (delta_live l) (deltas_of t) sound_rows.files) version

  by_view : (view : Option ℕ) → IsThere t.lineage view
      → folded (aggs_of (columns_read t.lineage view)) (map (part_of rows view) (relation_read t.lineage view (planned t version))) ≡ rows_by (columns_of t.lineage) (view_at t.lineage view) (folded (aggs_of (columns_of t.lineage)) (map (present rows t.lineage) (planned t version)))
  by_view None there = table_folds rows l ds
  by_view (Some number) there =
      subst (λ (o : Option View). folded (aggs_of (view_seen (columns_of l) o)) (map (part_of rows (Some number)) (view_read l number ds o)) ≡ rows_by (columns_of l) o (folded (aggs_of (columns_of l)) (map (present rows l) ds))) (sym there.1)
      (relation_folds rows l number there.0 there.1 ds grouped (allowed (columns_of l) l.views number there.0 shaped.lineage.views there.1) (rows_formed rows l ds (all_formed rows l ds shaped.lineage formed)))

  -- The files by which a relation is read fold to its content.
  pub content_folds : (view : Option ℕ) → IsThere t.lineage view → folded (aggs_of (columns_read t.lineage view)) (map (part_of rows view) (relation_read t.lineage view (planned t version))) ≡ content_read rows t view version
  content_folds view there = by_view view there ∙ ap (rows_by (columns_of l) (view_at l view)) (planned_folds rows oldest next t shaped sound_rows version)

  -- It has the form of the relation's columns.
  pub content_form : (view : Option ℕ) → IsThere t.lineage view → AreRowsOf (columns_read t.lineage view) (content_read rows t view version)
  content_form view there = by (view_at l view) where
    whole : AreRowsOf (columns_of t.lineage) (content rows t version)
    whole = subst (AreRowsOf (columns_of l)) (planned_folds rows oldest next t shaped sound_rows version) (folded_form (columns_of l) (map (present rows l) ds) (rows_formed rows l ds (all_formed rows l ds shaped.lineage formed)))

    by : (o : Option View) → AreRowsOf (view_seen (columns_of t.lineage) o) (rows_by (columns_of t.lineage) o (content rows t version))
    by None = whole
    by (Some v) = groups_form (columns_of l) (view_key_places (columns_of l) v) (view_value_places (columns_of l) v) (content rows t version) whole

-- ---- what a pinned query's files tell

-- the relation's rows, by what is known of the files
parts_are : {R : Type 0} (bytes : R → Option (List ℕ)) (view : Option ℕ) (files : List (PinnedInput R)) (contents : List (List Row)) → parts_pinned view files contents ≡ parts_known view (knowns_of bytes (inputs_in files)) (owns_in files) contents
parts_are bytes view [] contents = refl
parts_are bytes view (file ∷ files) [] = refl
parts_are bytes view (file ∷ files) (rows ∷ contents) = ap (λ (more : List (List Row)). rows_pinned view file rows ∷ more) (parts_are bytes view files contents)

-- and its rows before any are grouped
under_is : {R : Type 0} (bytes : R → Option (List ℕ)) (view : Option ℕ) (files : List (PinnedInput R)) (contents : List (List Row)) → parts_ungrouped view files contents ≡ parts_under view (knowns_of bytes (inputs_in files)) (owns_in files) contents
under_is bytes view [] contents = refl
under_is bytes view (file ∷ files) [] = refl
under_is bytes view (file ∷ files) (rows ∷ contents) = ap (λ (more : List (List Row)). rows_ungrouped view file rows ∷ more) (under_is bytes view files contents)

module _ {R : Type 0} (bytes : R → Option (List ℕ)) (faults : R → ℕ) (told : Option Image) (t : TableMeta) (f : Found) (p : Pinned R) (is : IsPinnedFor bytes faults told t f p) (there : IsThere t.lineage f.relation.view) where
  abbrev s : Columns
  s = columns_read t.lineage f.relation.view

  abbrev seen : List Seen
  seen = relation_read t.lineage f.relation.view (planned t f.query.version)

  inputs_are : AllByRecursion (IsPinnedInput bytes (columns_read t.lineage f.relation.view) f.relation.view) p.inputs.items
  inputs_are = all_pinned bytes faults told s f.relation.view is.files.wanted seen p.inputs.items is.files.are is.files.own is.files.opened (all_of t.lineage f.relation.view there (planned t f.query.version))

  -- It can be answered.
  pub pinned_is : IsQueryOf (columns_read t.lineage f.relation.view) f.query → IsPinned bytes (columns_read t.lineage f.relation.view) p
  pinned_is sound = record {
    query = subst (IsQueryOf s) (sym is.query) sound;
    inputs = subst (λ (view : Option ℕ). AllByRecursion (IsPinnedInput bytes s view) p.inputs.items) (sym is.view) inputs_are;
  }

  module _ (rows : Rows) (image : Image) (is_told : told ≡ Some image) (oldest next : ℕ) (shaped : IsShaped oldest next t) (sound_rows : HasSoundRows rows t) (given : AllByRecursion (IsGiven rows image) (meta_live t)) where
    all_seen : AllByRecursion (IsSeen rows image) (relation_read t.lineage f.relation.view (planned t f.query.version))
    all_seen = all_given rows image t.lineage f.relation.view there (planned t f.query.version) (all_planned (AreGiven rows image t.lineage) t (all_unflat (IsGiven rows image) (delta_live t.lineage) (deltas_of t) given) f.query.version)

    -- They tell the answer over the relation's content.
    pub pinned_tells : (answer : Answer) → answer.page ≡ page_of f.query.version f.query.limit f.query.resume (answer_rows (columns_read t.lineage f.relation.view) f.query.asked (content_read rows t f.relation.view f.query.version))
        → answer.heading ≡ record { kinds = group_kinds f.query; prefix = f.query.prefix } → Tells bytes p answer
    pinned_tells answer page heading =
        let q = f.query in
        let view = f.relation.view in
        let ks = knowns_of bytes (inputs_in p.inputs.items) in
        let contents = map (rows_seen rows) seen in
        let mine : AreOfRelation s p.view ks (owns_in p.inputs.items) = subst (λ (v : Option ℕ). AreOfRelation s v ks (owns_in p.inputs.items)) (sym is.view) (pinned_of bytes s view p.inputs.items inputs_are) in
        record {
          contents = contents;
          told = all_told rows image bytes faults told is_told is.files.wanted (inputs_in p.inputs.items) seen is.files.are is.files.opened all_seen;
          sums = λ k known.
              same_sums s k p.view ks (owns_in p.inputs.items) contents mine known
              (subst (KeepsSums s) (sym (ap rows_of ((λ j. parts_under (is.view j) ks (is.files.own j) contents) ∙ all_under bytes faults told rows view is.files.wanted (inputs_in p.inputs.items) seen is.files.are is.files.opened)))
              (read_sums rows oldest next t shaped sound_rows q.version view there));
          page = λ k known. page
              ∙ ap (λ (rs : List Row). page_of q.version q.limit q.resume (answer_rows s q.asked rs)) (sym (content_folds rows oldest next t shaped sound_rows q.version view there))
              ∙ ap (page_over s q) (sym (all_parts rows image bytes faults told is_told view is.files.wanted (inputs_in p.inputs.items) seen is.files.are is.files.opened))
              ∙ (λ j. page_over s (sym is.query j) (parts_known (sym is.view j) ks (sym is.files.own j) contents))
              ∙ same_page s k p.query p.view ks (owns_in p.inputs.items) contents mine known;
          at = ap (λ (x : Page). x.version) page ∙ sym is.version;
          heading = heading ∙ ap (λ (x : BuiltQuery). record { kinds = group_kinds x; prefix = x.prefix }) (sym is.query);
        }

    -- They tell that content.
    pub pinned_content : TellContent bytes (columns_read t.lineage f.relation.view) p (content_read rows t f.relation.view f.query.version)
    pinned_content =
        let view = f.relation.view in
        let ks = knowns_of bytes (inputs_in p.inputs.items) in
        let contents = map (rows_seen rows) seen in
        record {
          contents = contents;
          told = all_told rows image bytes faults told is_told is.files.wanted (inputs_in p.inputs.items) seen is.files.are is.files.opened all_seen;
          sums = subst (KeepsSums s) (sym (ap rows_of (under_is bytes p.view p.inputs.items contents ∙ (λ j. parts_under (is.view j) ks (is.files.own j) contents) ∙ all_under bytes faults told rows view is.files.wanted (inputs_in p.inputs.items) seen is.files.are is.files.opened)))
              (read_sums rows oldest next t shaped sound_rows f.query.version view there);
          fold = ap (folded (aggs_of s)) (parts_are bytes p.view p.inputs.items contents ∙ (λ j. parts_known (is.view j) ks (is.files.own j) contents)
              ∙ all_parts rows image bytes faults told is_told view is.files.wanted (inputs_in p.inputs.items) seen is.files.are is.files.opened)
              ∙ content_folds rows oldest next t shaped sound_rows f.query.version view there;
          form = content_form rows oldest next t shaped sound_rows f.query.version view there;
        }

-- ---- the files of a catalogue

-- A read gives the files of each table of a sound catalogue.
pub meta_given : (rows : Rows) (c : Catalog) (image : Image) (table : ℕ) → HaveSoundRows rows c → Has (wants rows (live_files c)) image → table < length c.tables → AllByRecursion (IsGiven rows image) (meta_live (meta_at c table))
meta_given rows c image table sound_rows has there =
    let here : AllByRecursion (λ (x : LiveFile). file_of image x.file.id ≡ Some (bytes_of rows x)) (live_files c) = all_unmap (λ (w : ℕ × List ℕ). file_of image w.0 ≡ Some w.1) (wanted rows) (live_files c) has in
    let its = all_at (λ (t : TableMeta). AllByRecursion (λ (x : LiveFile). file_of image x.file.id ≡ Some (bytes_of rows x)) (meta_live t)) c.tables table no_meta (all_unflat (λ (x : LiveFile). file_of image x.file.id ≡ Some (bytes_of rows x)) meta_live c.tables here) there in
    all_both (IsTold rows) (λ (x : LiveFile). file_of image x.file.id ≡ Some (bytes_of rows x)) (IsGiven rows image) (meta_live (meta_at c table)) (λ x is read. (is, read)) (all_at (HasSoundRows rows) c.tables table no_meta sound_rows there).files its
