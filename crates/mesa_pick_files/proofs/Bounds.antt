-- No sum over the files by which a relation is read leaves its type.
use Rattle.std.proofs.Common.{◌≡◌, ℕ, ◌+◌, ◌<◌, ◌≤◌, List, [], ◌∷◌, ◌++◌, map, length, refl, sym, ap, ◌∙◌, subst, arith, lt-ltb, Bool, true, false, ◌&&◌, Option, Some, None}
use Rattle.std.specs.Prelude.{flat_map, nat_lt, slice_get, ◌==◌}
use Rattle.std.specs.List.{AllByRecursion, cons_option, list_all}
use Rattle.std.proofs.lemmas.List.{append-nil, length-map, map-append}
use Rattle.mesa_query.specs.mesa_value.declared.Agg.{Agg}
use Rattle.mesa_query.specs.mesa_value.declared.Agg.TheVariants.{Sum}
use Rattle.mesa_schema.specs.Changes.{Lineage, columns_of, epoch_of, lifted}
use Rattle.mesa_validate.specs.mesa_list.Bytes.{same_bytes}
use Rattle.mesa_validate.specs.mesa_columns.Columns.{Columns, aggs_of, chosen, place_of, places_in, value_names}
use Rattle.mesa_open_files.specs.mesa_fold.Folded.{folded, regrouped, rows_of}
use Rattle.mesa_open_files.specs.mesa_fold.Laws.{AreFull}
use Rattle.mesa_validate.specs.mesa_columns.Rows.{AreRowsOf}
use Rattle.mesa_schema.specs.Views.{view_columns, view_key_places, view_rows, view_value_places}
use Rattle.mesa_validate.specs.mesa_columns.declared.columns.ValueColumn.{ValueColumn}
use Rattle.mesa_validate.specs.mesa_columns.declared.rows.Row.{Row}
use Rattle.mesa_validate.specs.mesa_columns.declared.views.View.{View}
use Rattle.mesa_validate.proofs.mesa_columns.Lists.{all_found}
use Rattle.mesa_validate.proofs.mesa_batch.NameNumbers.{position-within}
use Rattle.mesa_validate.specs.mesa_batch.Totals.{abs_total, sum_bound}
use Rattle.mesa_validate.proofs.mesa_batch.Merged.{folds_totals}
use Rattle.mesa_validate.specs.mesa_filter.Query.{are_places}
use Rattle.mesa_query.specs.mesa_answer.Answering.{KeepsSums}
use Rattle.mesa_query.proofs.mesa_answer.Bounds.{bound_regrouped, full_regrouped}
use Rattle.mesa_query.proofs.mesa_answer.Picked.{chosen-map}
use Rattle.mesa_validate.proofs.mesa_catalog_records.Loads.{found_passes}
use Rattle.mesa_delta.specs.declared.input.Input.{Input}
use Rattle.mesa_disk.specs.Image.{Image}
use Rattle.mesa_validate.specs.mesa_store_spec.Catalog.{Delta, TableMeta}
use Rattle.mesa_validate.specs.mesa_store_spec.Contents.{Rows, present, rows_if_any}
use Rattle.mesa_validate.specs.mesa_store_spec.Fitting.{delta_live, deltas_of}
use Rattle.mesa_validate.specs.mesa_store_spec.Shape.{IsShaped}
use Rattle.mesa_validate.specs.mesa_store_spec.Sound.{AreGrouped, IsGrouped, IsGroupedAs, HasSoundRows, IsTold}
use Rattle.mesa_validate.specs.mesa_store_spec.Planned.{planned}
use Rattle.mesa_validate.proofs.mesa_store_spec.Contents.{present_now}
use Rattle.mesa_validate.proofs.mesa_store_spec.Formed.{AreFormed, all_formed, rows_formed}
use Rattle.mesa_validate.proofs.mesa_store_spec.Lists.{all_unflat, is_equal}
use Rattle.mesa_query.specs.mesa_merge.Inputs.{knowns_of}
use Rattle.mesa_pick_files.specs.Read.{own_file, relation_read, view_read}
use Rattle.mesa_pick_files.specs.Told.{parts_under}
use Rattle.mesa_pick_files.proofs.Given.{part_of, rows_seen}
use Rattle.mesa_pick_files.proofs.Reading.{IsThere, columns_read, view_seen}
use Rattle.mesa_pick_files.proofs.Folds.{table_parts}
use Rattle.mesa_pick_files.proofs.Sums.{abs_append, planned_sums}
use Rattle.mesa_pick_files.proofs.Among.{all_planned}
use Rattle.mesa_pick_files.specs.Files.{Seen, Want, files_seen, own_in, own_lineage, seen_by, table_wanted, view_file, view_wanted, want_in, want_of}
use Rattle.mesa_query.specs.mesa_group_blocks.Ungrouped.{rows_under, under_some, under_view}
use Rattle.mesa_record.specs.declared.record.Files.{Files}
use Rattle.mesa_record.specs.declared.record.ViewRef.{ViewRef}
use Rattle.mesa_open_files.specs.Opening.{HaveOpened}
use Rattle.mesa_open_files.specs.declared.opening.Wanted.{Wanted}

-- what a file's rows are in the relation before any are grouped
abbrev pub under_of : Rows → Option ℕ → Seen → List Row
under_of rows view x = rows_under view x.want.lineage (map (lifted x.want.lineage x.want.epoch (epoch_of x.want.lineage)) (rows x.want.file.id)) x.own

add_most : (a b x y : ℕ) → a ≤ b → x ≤ y → a + x ≤ b + y
add_most a b x y p q = omega (arith, p, q)

-- ---- the values that a view chooses

both : (a b : Bool) → a ≡ true → b ≡ true → (a && b) ≡ true
both true b x y = y
both false b x y = absurd cc

-- a name that is there has a place there
places_there : (names asked : List (List ℕ)) → list_all (λ place. nat_lt place (length names)) (places_in names asked) ≡ true
places_there names [] = refl
places_there names (name ∷ asked) = by (place_of name names) refl (places_there names asked)
  where
    by : (o : Option ℕ) → place_of name names ≡ o → list_all (λ place. nat_lt place (length names)) (places_in names asked) ≡ true → list_all (λ place. nat_lt place (length names)) (cons_option o (places_in names asked)) ≡ true
    by None is rest = rest
    by (Some i) is rest = both _ _ (lt-ltb i (length names) (position-within (same_bytes name) names i is)) rest

value_places : (s : Columns) (v : View) → are_places (aggs_of s) (view_value_places s v) ≡ true
value_places s v =
    let many : length (aggs_of s) ≡ length (value_names s) = length-map s.values (λ (c : ValueColumn). c.agg) ∙ sym (length-map s.values (λ (c : ValueColumn). c.name)) in
    ap (λ n. list_all (λ place. nat_lt place n) (view_value_places s v)) many ∙ places_there (value_names s) v.values

-- rows that are grouped add up to no more than before
grouped_at_most : (s : Columns) (v : View) (rows : List Row) (c : ℕ) → slice_get (chosen (view_value_places s v) (aggs_of s)) c ≡ Some Sum → AreRowsOf s rows → abs_total c (view_rows s v rows) ≤ abs_total c (under_view s v rows)
grouped_at_most s v rows c sum form =
    let f : Row → Row = regrouped s (view_key_places s v) (view_value_places s v) in
    let aggs : List Agg = chosen (view_value_places s v) (aggs_of s) in
    let one : map f rows ++ [] ≡ map f rows = append-nil (map f rows) in
    subst (λ (xs : List Row). abs_total c (folded aggs (map f rows ∷ [])) ≤ abs_total c xs) one
    (folds_totals aggs (map f rows ∷ []) c sum (subst (AreFull aggs) (sym one) (full_regrouped s (view_key_places s v) (view_value_places s v) rows form)))

-- ---- the files of a table

table_under : (rows : Rows) (ws : List Want) → map (under_of rows None) (map own_file ws) ≡ map (part_of rows None) (map own_file ws)
table_under rows [] = refl
table_under rows (w ∷ ws) = ap (λ (ps : List (List Row)). map (lifted w.lineage w.epoch (epoch_of w.lineage)) (rows w.file.id) ∷ ps) (table_under rows ws)

-- ---- the files of a view

module _ (rows : Rows) (l : Lineage) (number : ℕ) (v : View) (there : slice_get l.views number ≡ Some v) where
  abbrev s : Columns
  s = columns_of l

  abbrev own : Lineage
  own = own_lineage l v

  abbrev now_of : ℕ → Files → List Row
  now_of epoch f = map (lifted l epoch (epoch_of l)) (rows f.file.id)

  one_at_most : (c : ℕ) → slice_get (chosen (view_value_places (columns_of l) v) (aggs_of (columns_of l))) c ≡ Some Sum → (epoch : ℕ) (totals : Option (List ℕ)) (f : Files) (o : Option ViewRef) → view_file number f.views ≡ o
      → AreGrouped rows l (record { epoch = epoch; files = Some f; totals = totals }) → AreRowsOf (columns_of l) (now_of epoch f) → abs_total c (under_of rows (Some number) (seen_by l (own_lineage l v) epoch f o)) ≤ abs_total c (under_view (columns_of l) v (now_of epoch f))
  one_at_most c sum epoch totals f None is all form = subst (λ (o : Option View). abs_total c (under_some s (now_of epoch f) o) ≤ abs_total c (under_view s v (now_of epoch f))) (sym there) (omega arith)
  one_at_most c sum epoch totals f (Some ref) is all form =
      let d : Delta = record { epoch = epoch; files = Some f; totals = totals } in
      let at : ref.view ≡ number = is_equal ref.view number (found_passes (λ (r : ViewRef). r.view == number) f.views ref is) in
      let its = all_found (IsGrouped rows l d) (λ (r : ViewRef). r.view == number) f.views ref is all in
      let same : under_of rows (Some number) (seen_by l own epoch f (Some ref)) ≡ view_rows s v (now_of epoch f) =
      present_now own (rows ref.file.id) ∙ subst (λ (o : Option View). IsGroupedAs rows l d o ref) (ap (slice_get l.views) at ∙ there) its in
      subst (λ (rs : List Row). abs_total c rs ≤ abs_total c (under_view s v (now_of epoch f))) (sym same) (grouped_at_most s v (now_of epoch f) c sum form)

  view_at_most : (c : ℕ) → slice_get (chosen (view_value_places (columns_of l) v) (aggs_of (columns_of l))) c ≡ Some Sum → (ds : List Delta) → AllByRecursion (AreGrouped rows l) ds → AreFormed rows l ds
      → abs_total c (rows_of (map (under_of rows (Some number)) (flat_map (view_wanted l (own_lineage l v) number) ds))) ≤ abs_total c (under_view (columns_of l) v (rows_of (map (present rows l) ds)))
  view_at_most c sum [] all form = omega arith
  view_at_most c sum (d ∷ ds) all form = by d.files d.epoch d.totals all.0 form.0 (view_at_most c sum ds all.1 form.1)
    where
      by : (files : Option Files) (epoch : ℕ) (totals : Option (List ℕ)) → AreGrouped rows l (record { epoch = epoch; files = files; totals = totals }) → AreRowsOf (columns_of l) (map (lifted l epoch (epoch_of l)) (rows_if_any rows files))
          → abs_total c (rows_of (map (under_of rows (Some number)) (flat_map (view_wanted l (own_lineage l v) number) ds))) ≤ abs_total c (under_view (columns_of l) v (rows_of (map (present rows l) ds)))
          → abs_total c (rows_of (map (under_of rows (Some number)) (files_seen l (own_lineage l v) number epoch files ++ flat_map (view_wanted l (own_lineage l v) number) ds)))
          ≤ abs_total c (under_view (columns_of l) v (map (lifted l epoch (epoch_of l)) (rows_if_any rows files) ++ rows_of (map (present rows l) ds)))
      by None epoch totals its mine rest = rest
      by (Some f) epoch totals its mine rest =
          let x = seen_by l own epoch f (view_file number f.views) in
          let others = rows_of (map (present rows l) ds) in
          let some = rows_of (map (under_of rows (Some number)) (flat_map (view_wanted l own number) ds)) in
          let one = one_at_most c sum epoch totals f (view_file number f.views) refl its mine in
          let read = abs_append c (under_of rows (Some number) x) some in
          let cut : under_view s v (now_of epoch f ++ others) ≡ under_view s v (now_of epoch f) ++ under_view s v others = map-append (regrouped s (view_key_places s v) (view_value_places s v)) (now_of epoch f) others in
          let whole = ap (abs_total c) cut ∙ abs_append c (under_view s v (now_of epoch f)) (under_view s v others) in
          subst (λ n. abs_total c (under_of rows (Some number) x ++ some) ≤ n) (sym whole) (subst (λ n. n ≤ abs_total c (under_view s v (now_of epoch f)) + abs_total c (under_view s v others)) (sym read)
          (add_most (abs_total c (under_of rows (Some number) x)) (abs_total c (under_view s v (now_of epoch f))) (abs_total c some) (abs_total c (under_view s v others)) one rest))

  view_keeps : (ds : List Delta) → AllByRecursion (AreGrouped rows l) ds → AreFormed rows l ds → KeepsSums (columns_of l) (rows_of (map (present rows l) ds)) → KeepsSums (view_columns (columns_of l) v) (rows_of (map (under_of rows (Some number)) (flat_map (view_wanted l (own_lineage l v) number) ds)))
  view_keeps ds all form keeps c sum =
      let whole = rows_of (map (present rows l) ds) in
      let same : aggs_of (view_columns s v) ≡ chosen (view_value_places s v) (aggs_of s) = chosen-map (λ (k : ValueColumn). k.agg) (view_value_places s v) s.values in
      let mine : slice_get (chosen (view_value_places s v) (aggs_of s)) c ≡ Some Sum = subst (λ (gs : List Agg). slice_get gs c ≡ Some Sum) same sum in
      let bound : 0 + abs_total c (under_view s v whole) < sum_bound = bound_regrouped s (view_key_places s v) (view_value_places s v) whole (value_places s v) (rows_formed rows l ds form) keeps c mine in
      let most = view_at_most c mine ds all form in
      below _ _ most bound
    where
      below : (a b : ℕ) → a ≤ b → 0 + b < sum_bound → a < sum_bound
      below a b p q = omega (arith, p, q)

-- ---- a relation

module _ (rows : Rows) (oldest next : ℕ) (t : TableMeta) (shaped : IsShaped oldest next t) (sound_rows : HasSoundRows rows t) (version : ℕ) where
  keeps_planned : KeepsSums (columns_of t.lineage) (rows_of (map (present rows t.lineage) (planned t version)))
  keeps_planned c sum = planned_sums rows oldest next t shaped sound_rows version c sum

  formed_planned : AreFormed rows t.lineage (planned t version)
  formed_planned = all_formed rows t.lineage (planned t version) shaped.lineage (all_planned (λ (d : Delta). AllByRecursion (IsTold rows) (delta_live t.lineage d)) t (all_unflat (IsTold rows) (delta_live t.lineage) (deltas_of t) sound_rows.files) version)

  -- No sum over the files by which a relation is read leaves its type.
  pub read_sums : (view : Option ℕ) → IsThere t.lineage view → KeepsSums (columns_read t.lineage view) (rows_of (map (under_of rows view) (relation_read t.lineage view (planned t version))))
  read_sums None there =
      let ws = flat_map (table_wanted t.lineage) (planned t version) in
      subst (KeepsSums (columns_of t.lineage)) (sym (ap rows_of (table_under rows ws) ∙ table_parts rows t.lineage (planned t version))) keeps_planned
  read_sums (Some number) there =
      subst (λ (o : Option View). KeepsSums (view_seen (columns_of t.lineage) o) (rows_of (map (under_of rows (Some number)) (view_read t.lineage number (planned t version) o)))) (sym there.1)
      (view_keeps rows t.lineage number there.0 there.1 (planned t version) (all_planned (AreGrouped rows t.lineage) t sound_rows.grouped version) formed_planned keeps_planned)

-- ---- the inputs that read them

-- what is known of the inputs makes these parts
pub all_under : {R : Type 0} (bytes : R → Option (List ℕ)) (faults : R → ℕ) (told : Option Image) (rows : Rows) (view : Option ℕ) (ws : List Wanted) (is : List (Input R)) (seen : List Seen) → map want_of ws ≡ map want_in seen → HaveOpened bytes faults told ws is None
    → parts_under view (knowns_of bytes is) (map own_in seen) (map (rows_seen rows) seen) ≡ map (under_of rows view) seen
all_under bytes faults told rows view [] [] [] same have = refl
all_under bytes faults told rows view [] [] (x ∷ seen) same have = absurd cc
all_under bytes faults told rows view [] (i ∷ is) seen same have = absurd have
all_under bytes faults told rows view (w ∷ ws) [] seen same have = absurd have
all_under bytes faults told rows view (w ∷ ws) (i ∷ is) [] same have = absurd cc
all_under bytes faults told rows view (w ∷ ws) (i ∷ is) (x ∷ seen) same have =
    let first : want_of w ≡ x.want = cc in
    let others : map want_of ws ≡ map want_in seen = cc in
    let lineage : i.evolving.value ≡ x.want.lineage = have.0.lineage ∙ ap (λ (y : Want). y.lineage) first in
    let epoch : i.epoch ≡ x.want.epoch = have.0.epoch ∙ ap (λ (y : Want). y.epoch) first in
    λ j. rows_under view (lineage j) (map (lifted (lineage j) (epoch j) (epoch_of (lineage j))) (rows x.want.file.id)) x.own ∷ all_under bytes faults told rows view ws is seen others have.1 j
