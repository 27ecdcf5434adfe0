-- A recast that is allowed, as a table's columns and what is held of it tell.
use Rattle.std.proofs.Common.{◌≡◌, ℕ, ◌+◌, ◌≤◌, ◌<◌, List, [], ◌∷◌, ◌++◌, length, map, drop, get_or, refl, sym, ◌∙◌, ap, arith, Bool, true, false, cond, Option, Some, None, Result, Ok, Err, is_ok}
use Rattle.std.specs.Prelude.{◌==◌, ◌&&◌, count_by, flat_map, nat_lt, slice_get}
use Rattle.std.specs.List.{list_all}
use Rattle.std.proofs.lemmas.Bool.Decides.{nat_tests}
use Rattle.std.proofs.lemmas.List.{drop_all, drop_more, length-map}
use Rattle.std.proofs.lemmas.List.Sums.{sum_by-cons}
use Rattle.mesa_catalog_table.specs.mesa_columns.declared.columns.ValueColumn.{ValueColumn}
use Rattle.mesa_catalog_table.specs.mesa_columns.declared.views.View.{View}
use Rattle.mesa_catalog_table.specs.mesa_columns.declared.views.ViewError.TheVariants.{NoValue}
use Rattle.mesa_catalog_table.specs.mesa_columns.Names.{has_name}
use Rattle.mesa_catalog_table.specs.mesa_columns.Columns.{Columns, aggs_of, chosen, places_in, value_names}
use Rattle.mesa_schema.specs.Changes.{Lineage, columns_at, columns_of}
use Rattle.mesa_schema.specs.Lineages.{IsLineage, is_view_of}
use Rattle.mesa_schema.specs.Recasts.{Recast, recast_checked, recast_columns, recast_lineage}
use Rattle.mesa_schema.proofs.ChosenAgain.{at, choice_there, names_chosen, there}
use Rattle.mesa_schema.proofs.Choices.{chosen-slot}
use Rattle.mesa_schema.proofs.LineageRecasts.{IsAllowed, columns_first, lineage_recast, recast_allowed}
use Rattle.mesa_batch.specs.Totals.{is_sum, sum_bound, sums_in}
use Rattle.mesa_file.specs.declared.file_ref.FileRef.{FileRef}
use Rattle.mesa_catalog_table.specs.mesa_record.declared.record.Files.{Files}
use Rattle.mesa_catalog_table.specs.mesa_record.declared.record.ViewRef.{ViewRef}
use Rattle.mesa_catalog_table.specs.mesa_record.declared.checkpoint.CheckpointSingle.{CheckpointSingle}
use Rattle.mesa_catalog_table.specs.mesa_store_spec.Catalog.{Delta}
use Rattle.mesa_catalog_table.specs.mesa_store_spec.Checkpoint.{stating_single}
use Rattle.mesa_catalog_table.specs.mesa_store_spec.Fitting.{counts_view, files_renewed, is_view_ref, single_renewed, singles_renewed}
use Rattle.mesa_catalog_table.specs.declared.table.Loaded.{Loaded}
use Rattle.mesa_table_records.specs.Renewed.{is_sum_at, is_sum_if_any, is_sum_named, renewed_behind}
use Rattle.mesa_table_records.specs.Stated.{stating_loaded}
use Rattle.mesa_batch.proofs.KeptTotals.{counted}
use Rattle.mesa_catalog_table.proofs.Counts.{view_width}
use Rattle.mesa_catalog_table.proofs.Tests.{both}

ok_is : {E : Type 0} (c : Result (Unit {0}) E) → is_ok c ≡ true → c ≡ Ok tt
ok_is (Ok x) h = refl
ok_is (Err e) h = absurd (cc)

pub checked_is : (l : Lineage) (r : Recast) → is_ok (recast_checked l r) ≡ true → recast_checked l r ≡ Ok tt
checked_is l r ok = ok_is (recast_checked l r) ok

pub allowed_of : (l : Lineage) (r : Recast) → is_ok (recast_checked l r) ≡ true → IsAllowed l r
allowed_of l r ok = recast_allowed l r (checked_is l r ok)

-- ---- the value columns after a recast

-- they are as many as it names
pub recast_width : (l : Lineage) (r : Recast) (epoch : ℕ) → is_ok (recast_checked l r) ≡ true → length (columns_at (recast_lineage l r) epoch).values ≡ length r.values
recast_width l r epoch ok =
    let s = columns_of l in
    let names = names_chosen (λ (c : ValueColumn). c.name) s.values r.values (choice_there (value_names s) NoValue r.values (allowed_of l r ok).rules.values) in
    ap (λ (x : Columns). length x.values) (columns_first l r epoch)
    ∙ sym (length-map (recast_columns s r).values (λ (c : ValueColumn). c.name)) ∙ ap length names

sum_one : (c : ValueColumn) (cs : List ValueColumn) → cond (is_sum c.agg) 1 0 + sums_in (map (λ (x : ValueColumn). x.agg) cs) ≡ sums_in (map (λ (x : ValueColumn). x.agg) (c ∷ cs))
sum_one c cs =
    ap (λ n. cond (is_sum c.agg) 1 0 + n) (counted cs)
    ∙ sym (sum_by-cons (λ (x : ValueColumn). cond (is_sum x.agg) 1 0) c cs) ∙ sym (counted (c ∷ cs))

-- the sum columns among those that are named
pub sums_chosen : (columns : List ValueColumn) (names : List (List ℕ)) → there (map (λ (c : ValueColumn). c.name) columns) names ≡ true
    → count_by (λ name. is_sum_named columns name) names ≡ sums_in (map (λ (c : ValueColumn). c.agg) (chosen (places_in (map (λ (c : ValueColumn). c.name) columns) names) columns))
sums_chosen columns [] h = refl
sums_chosen columns (name ∷ names) h =
    let all = map (λ (c : ValueColumn). c.name) columns in
    let parts = both (has_name name all) (there all names) h in
    let here = at all columns name (length-map columns (λ (c : ValueColumn). c.name)) parts.0 in
    let first : is_sum_named columns name ≡ is_sum here.value.agg = ap (is_sum_at columns) here.is ∙ ap is_sum_if_any here.has in
    sum_by-cons (λ n. cond (is_sum_named columns n) 1 0) name names
    ∙ (λ i. cond (first i) 1 0 + sums_chosen columns names parts.1 i)
    ∙ sum_one here.value (chosen (places_in all names) columns)
    ∙ ap (λ cs. sums_in (map (λ (c : ValueColumn). c.agg) cs)) (sym (chosen-slot all columns name names here.place here.value here.is here.has))

-- ---- files of views

seen_same : (s u : Columns) (views : List View) (i : ℕ) (f : FileRef) (o : Option View) → list_all (is_view_of s) views ≡ true → list_all (is_view_of u) views ≡ true → slice_get views i ≡ o → counts_view u o f ≡ counts_view s o f
seen_same s u views i f None old new e = refl
seen_same s u views i f (Some v) old new e = ap (λ n. length f.aggregates == n) (view_width u views i v new e ∙ sym (view_width s views i v old e))

-- view files count the same columns after a recast
pub views_counted : (l : Lineage) (r : Recast) (seen : List ViewRef) → IsLineage l → is_ok (recast_checked l r) ≡ true → list_all (is_view_ref (recast_lineage l r)) seen ≡ list_all (is_view_ref l) seen
views_counted l r [] is ok = refl
views_counted l r (v ∷ seen) is ok =
    let after = lineage_recast l r is (checked_is l r ok) in
    (λ i. seen_same (columns_of l) (columns_of (recast_lineage l r)) l.views v.view v.file (slice_get l.views v.view) is.views after.views refl i && views_counted l r seen is ok i)

-- ---- versions that are told

module _ (m : Lineage) (e : ℕ) where
  -- one that is told takes the place of the first
  pub told_taken : (told : ℕ) (olds singles slice : List CheckpointSingle) (old new : CheckpointSingle) (b : Bool) → slice ≡ singles → told < length slice → new ≡ get_or slice told new → single_renewed m e old new ≡ b
      → singles_renewed m e (old ∷ olds) (drop told singles) ≡ (b && singles_renewed m e olds (drop (told + 1) singles))
  told_taken told olds singles slice old new b same h is fit =
      ap (λ xs. singles_renewed m e (old ∷ olds) (drop told xs)) (sym same)
      ∙ ap (singles_renewed m e (old ∷ olds)) (drop_more slice told new h ∙ ap (λ x. x ∷ drop (told + 1) slice) (sym is))
      ∙ (λ i. fit i && singles_renewed m e olds (drop (told + 1) (same i)))

  -- and none does where none is left
  pub none_told : (told : ℕ) (olds singles : List CheckpointSingle) (old : CheckpointSingle) → length singles ≤ told → singles_renewed m e (old ∷ olds) (drop told singles) ≡ false
  none_told told olds singles old h = ap (singles_renewed m e (old ∷ olds)) (drop_all told singles h)

  -- what is left, behind a version that is held
  pub loaded_next : (told : ℕ) (singles : List CheckpointSingle) (loaded : List Loaded) (i : ℕ) (x : Loaded) (d : Delta) (o : Option ℕ) (whole : Bool) → i < length loaded → x ≡ get_or loaded i x → d ≡ x.delta.value
      → ((olds : List CheckpointSingle) → singles_renewed m e (stating_single x.version d.epoch d.totals d.files ++ olds) (drop told singles) ≡ renewed_behind m e olds singles o)
      → singles_renewed m e (flat_map stating_loaded (drop i loaded)) (drop told singles) ≡ whole → renewed_behind m e (flat_map stating_loaded (drop (i + 1) loaded)) singles o ≡ whole
  loaded_next told singles loaded i x d o whole h is held step before =
      let olds = flat_map stating_loaded (drop (i + 1) loaded) in
      let cut : drop i loaded ≡ x ∷ drop (i + 1) loaded = drop_more loaded i x h ∙ ap (λ y. y ∷ drop (i + 1) loaded) (sym is) in
      sym (step olds)
      ∙ ap (λ (y : Delta). singles_renewed m e (stating_single x.version y.epoch y.totals y.files ++ olds) (drop told singles)) held
      ∙ ap (λ ls. singles_renewed m e (flat_map stating_loaded ls) (drop told singles)) (sym cut) ∙ before

  all_told : (told : ℕ) (singles : List CheckpointSingle) (b : Bool) → (told == length singles) ≡ b → told ≤ length singles → singles_renewed m e [] (drop told singles) ≡ b
  all_told told singles true t h = let whole : length singles ≤ told = grind (arith, nat_tests) in ap (singles_renewed m e []) (drop_all told singles whole)
  all_told told [] false t h =
      let none : told ≡ 0 = omega (arith, h) in
      let yes : (told == 0) ≡ true = grind (arith, nat_tests) in
      let no : (told == 0) ≡ false = t in
      absurd (cc)
  all_told told (s ∷ singles) false t h =
      let less : told < length (s ∷ singles) = grind (arith, nat_tests) in
      ap (singles_renewed m e []) (drop_more (s ∷ singles) told s less)

  -- no version is left: none that is told may be
  pub loaded_end : (told : ℕ) (singles : List CheckpointSingle) (loaded : List Loaded) (i : ℕ) (whole : Bool) → length loaded ≤ i → told ≤ length singles
      → singles_renewed m e (flat_map stating_loaded (drop i loaded)) (drop told singles) ≡ whole → (told == length singles) ≡ whole
  loaded_end told singles loaded i whole h few before =
      sym (all_told told singles (told == length singles) refl few) ∙ ap (λ ls. singles_renewed m e (flat_map stating_loaded ls) (drop told singles)) (sym (drop_all i loaded h)) ∙ before

-- what is asked of one that is told, by how many sum columns there are
pub single_asked : (l : Lineage) (r : Recast) (e sums version : ℕ) (old new : CheckpointSingle) (f : Files) (b : Bool) → sums ≡ sums_in (aggs_of (recast_columns (columns_of l) r)) → old.version ≡ version → old.files ≡ f
    → ((version == new.version) && (new.epoch == e) && files_renewed (recast_lineage l r) e (Some f) (Some new.files) && ((length new.totals == sums) && list_all (λ total. nat_lt total sum_bound) new.totals)) ≡ b
    → single_renewed (recast_lineage l r) e old new ≡ b
single_asked l r e sums version old new f b counts at its asked =
    let many : sums_in (aggs_of (columns_at (recast_lineage l r) e)) ≡ sums = ap (λ (s : Columns). sums_in (aggs_of s)) (columns_first l r e) ∙ sym counts in
    (λ i. (at i == new.version) && (new.epoch == e) && files_renewed (recast_lineage l r) e (Some (its i)) (Some new.files) && ((length new.totals == many i) && list_all (λ total. nat_lt total sum_bound) new.totals))
    ∙ asked
