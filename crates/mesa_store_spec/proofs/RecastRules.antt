-- The record of a recast keeps the rules of records.
use Rattle.std.proofs.Common.{◌≡◌, ℕ, suc, ◌+◌, ◌<◌, ◌≤◌, ◌^◌, List, [], ◌∷◌, ◌++◌, map, length, true, false, cond, ◌&&◌, ◌==◌, nat_le, Option, Some, None, Ok, refl, sym, ◌∙◌, ap, subst, arith}
use Rattle.std.specs.Prelude.{IfSome, IsTrue}
use Rattle.std.specs.List.{AllByRecursion, list_all}
use Rattle.std.proofs.lemmas.List.{length-map}
use Rattle.mesa_history_spec.specs.mesa_columns.declared.columns.KeyColumn.{KeyColumn}
use Rattle.mesa_history_spec.specs.mesa_columns.declared.columns.ValueColumn.{ValueColumn}
use Rattle.mesa_history_spec.specs.mesa_columns.declared.views.ViewError.TheVariants.{NoKey, NoValue}
use Rattle.mesa_history_spec.specs.mesa_columns.Columns.{key_names, value_names}
use Rattle.mesa_history_spec.specs.mesa_schema.Changes.{columns_of, epoch_of}
use Rattle.mesa_history_spec.specs.mesa_schema.Recasts.{Recast, recast_checked, recast_columns, recast_lineage}
use Rattle.mesa_history_spec.proofs.mesa_schema.ChosenAgain.{choice_there, names_chosen}
use Rattle.mesa_history_spec.proofs.mesa_schema.LineageRecasts.{lineage_recast, recast_allowed}
use Rattle.mesa_history_spec.proofs.mesa_schema.LineageRules.{present_schema}
use Rattle.mesa_history_spec.proofs.mesa_schema.SchemaChanges.{schema_rules}
use Rattle.mesa_history_spec.specs.mesa_file.declared.file_ref.FileRef.{FileRef}
use Rattle.mesa_record.specs.declared.record.Files.{Files}
use Rattle.mesa_record.specs.declared.record.ViewRef.{ViewRef}
use Rattle.mesa_record.specs.declared.checkpoint.CheckpointSingle.{CheckpointSingle}
use Rattle.mesa_record.specs.mesa_record_fields.Rules.{is_count_of_columns, is_file_ref, is_long}
use Rattle.mesa_record.specs.Rules.{are_files, are_files_if_any, are_recast_columns, are_recast_deltas, are_view_refs, is_recast_base, is_recasting, is_stated_single}
use Rattle.mesa_store_spec.specs.Catalog.{Delta, Ending, TableMeta, start_in}
use Rattle.mesa_store_spec.specs.Fitting.{base_deltas, delta_in}
use Rattle.mesa_store_spec.specs.Shape.{IsShaped}
use Rattle.mesa_store_spec.specs.Recordable.{HasFiles, IsRecordable}
use Rattle.mesa_store_spec.specs.Rewritten.{IsRuled, Rewritten, base_rewritten, files_at, files_rewritten, files_with, recasting_of, rewritten_at, single_at, single_rewritten, single_with, singles_rewritten}
use Rattle.mesa_store_spec.proofs.Lists.{all_back, all_front, both_true}
use Rattle.mesa_store_spec.proofs.Recordable.{less, low, some_columns, two_true}

-- a range that is found is one of them
found_has : (P : Rewritten → Type 0) (from to : ℕ) (made : List Rewritten) (x : Rewritten) → AllByRecursion P made → rewritten_at from to made ≡ Some x → P x
found_has P from to [] x all e = absurd (cc)
found_has P from to (y ∷ made) x all e = elim ((y.from == from) && (y.to == to)) as (λ b. cond b (Some y) (rewritten_at from to made) ≡ Some x → P x) [
  | true ↦ λ f. let same : y ≡ x = cc in subst P same all.0
  | false ↦ λ f. found_has P from to made x all.1 f
] e

-- ---- files

with_file : (views : List ViewRef) (o : Option FileRef) → IfSome o (λ f. IsTrue (is_file_ref f)) → are_view_refs views ≡ true → are_files_if_any (files_with views o) ≡ true
with_file views None own e = refl
with_file views (Some file) own e = two_true (is_file_ref file) (are_view_refs views) own e

at_range : (views : List ViewRef) (o : Option Rewritten) → ((x : Rewritten) → o ≡ Some x → IsRuled x) → are_view_refs views ≡ true → are_files_if_any (files_at views o) ≡ true
at_range views None has e = refl
at_range views (Some x) has e = with_file views x.file (has x refl).file e

module _ (made : List Rewritten) (all : AllByRecursion IsRuled made) where
  files_ruled : (from to : ℕ) (files : Option Files) → are_files_if_any files ≡ true → are_files_if_any (files_rewritten from to made files) ≡ true
  files_ruled from to None e = refl
  files_ruled from to (Some f) e = at_range f.views (rewritten_at from to made) (λ x found. found_has IsRuled from to made x all found) (both_true (is_file_ref f.file) (are_view_refs f.views) e).1

  base_ruled : (o : Option Ending) → AllByRecursion HasFiles (base_deltas o) → is_recast_base (base_rewritten made o) ≡ true
  base_ruled None kept = refl
  base_ruled (Some e) kept = files_ruled 0 e.to e.delta.files kept.0.1

  -- ---- singletons

  with_single : (epoch version : ℕ) (views : List ViewRef) (totals : List ℕ) (o : Option FileRef) (rest : List CheckpointSingle) → IfSome o (λ f. IsTrue (is_file_ref f)) → length totals ≤ 16 → are_view_refs views ≡ true → list_all is_stated_single rest ≡ true
      → list_all is_stated_single (single_with epoch version views totals o ++ rest) ≡ true
  with_single epoch version views totals None rest own few e behind = behind
  with_single epoch version views totals (Some file) rest own few e behind =
      let s : CheckpointSingle = record { version = version; epoch = epoch; files = record { file = file; views = views }; totals = totals } in
      two_true (is_stated_single s) (list_all is_stated_single rest) (two_true (are_files s.files) (nat_le (length totals) 16) (two_true (is_file_ref file) (are_view_refs views) own e) (low (length totals) 16 few)) behind

  at_single : (epoch version : ℕ) (views : List ViewRef) (o : Option Rewritten) (rest : List CheckpointSingle) → ((x : Rewritten) → o ≡ Some x → IsRuled x) → are_view_refs views ≡ true → list_all is_stated_single rest ≡ true
      → list_all is_stated_single (single_at epoch version views o ++ rest) ≡ true
  at_single epoch version views None rest has e behind = behind
  at_single epoch version views (Some x) rest has e behind = with_single epoch version views x.totals x.file rest (has x refl).file (has x refl).totals e behind

  single_ruled : (epoch version : ℕ) (files : Option Files) (rest : List CheckpointSingle) → are_files_if_any files ≡ true → list_all is_stated_single rest ≡ true → list_all is_stated_single (single_rewritten epoch version made files ++ rest) ≡ true
  single_ruled epoch version None rest e behind = behind
  single_ruled epoch version (Some f) rest e behind =
      at_single epoch version f.views (rewritten_at version version made) rest (λ x found. found_has IsRuled version version made x all found) (both_true (is_file_ref f.file) (are_view_refs f.views) e).1 behind

  singles_ruled : (epoch version : ℕ) (ds : List Delta) → AllByRecursion HasFiles ds → list_all is_stated_single (singles_rewritten epoch version made ds) ≡ true
  singles_ruled epoch version [] kept = refl
  singles_ruled epoch version (d ∷ ds) kept = single_ruled epoch version d.files (singles_rewritten epoch (version + 1) made ds) kept.0.1 (singles_ruled epoch (version + 1) ds kept.1)

-- ---- how many there are

with_few : (epoch version : ℕ) (views : List ViewRef) (totals : List ℕ) (o : Option FileRef) (rest : List CheckpointSingle) → length (single_with epoch version views totals o ++ rest) ≤ suc (length rest)
with_few epoch version views totals None rest = omega arith
with_few epoch version views totals (Some file) rest = omega arith

at_few : (epoch version : ℕ) (views : List ViewRef) (o : Option Rewritten) (rest : List CheckpointSingle) → length (single_at epoch version views o ++ rest) ≤ suc (length rest)
at_few epoch version views None rest = omega arith
at_few epoch version views (Some x) rest = with_few epoch version views x.totals x.file rest

one_few : (epoch version : ℕ) (made : List Rewritten) (files : Option Files) (rest : List CheckpointSingle) → length (single_rewritten epoch version made files ++ rest) ≤ suc (length rest)
one_few epoch version made None rest = omega arith
one_few epoch version made (Some f) rest = at_few epoch version f.views (rewritten_at version version made) rest

singles_few : (epoch version : ℕ) (made : List Rewritten) (ds : List Delta) → length (singles_rewritten epoch version made ds) ≤ length ds
singles_few epoch version made [] = omega arith
singles_few epoch version made (d ∷ ds) = omega (arith, singles_few epoch (version + 1) made ds, one_few epoch version made d.files (singles_rewritten epoch (version + 1) made ds))

-- ---- the record

-- The record of a recast that is allowed, of a table that is recordable, keeps the rules of records where what is told of its rewritten ranges does.
pub recasting_ruled : (floor next table : ℕ) (t : TableMeta) (r : Recast) (made : List Rewritten) → next < 2 ^ 32 → IsShaped floor next t → IsRecordable t → recast_checked t.lineage r ≡ Ok tt → AllByRecursion IsRuled made → is_recasting (recasting_of table t r made) ≡ true
recasting_ruled floor next table t r made small shaped is checked all =
    let s = columns_of t.lineage in
    let k = recasting_of table t r made in
    let allowed = recast_allowed t.lineage r checked in
    let schema = schema_rules (recast_columns s r) (present_schema (recast_lineage t.lineage r) (lineage_recast t.lineage r shaped.lineage checked)) in
    let keys : length (recast_columns s r).keys ≡ length r.keys =
    sym (length-map (recast_columns s r).keys (λ (c : KeyColumn). c.name)) ∙ ap length (names_chosen (λ (c : KeyColumn). c.name) s.keys r.keys (choice_there (key_names s) NoKey r.keys allowed.rules.keys)) in
    let values : length (recast_columns s r).values ≡ length r.values =
    sym (length-map (recast_columns s r).values (λ (c : ValueColumn). c.name)) ∙ ap length (names_chosen (λ (c : ValueColumn). c.name) s.values r.values (choice_there (value_names s) NoValue r.values allowed.rules.values)) in
    let few_keys : length r.keys ≤ 16 = omega (arith, keys, schema.few_keys) in
    let few_values : length r.values ≤ 16 = omega (arith, values, schema.few_values) in
    let columns : are_recast_columns k ≡ true =
    two_true (is_count_of_columns (length r.keys)) (is_count_of_columns (length r.values))
    (some_columns (length r.keys) (ap (λ n. n == 0) (sym keys) ∙ schema.keys) few_keys) (some_columns (length r.values) (ap (λ n. n == 0) (sym values) ∙ schema.values) few_values) in
    let rest = all_back HasFiles (base_deltas t.base) (map delta_in t.cumulatives ++ t.singles) is.files in
    let many : length k.singles < 2 ^ 32 = omega (arith, singles_few (epoch_of t.lineage + 1) (start_in t) made t.singles, shaped.singles, small) in
    let deltas : are_recast_deltas k ≡ true =
    two_true (is_recast_base k.base) (is_long k.singles && list_all is_stated_single k.singles)
    (base_ruled made all t.base (all_front HasFiles (base_deltas t.base) (map delta_in t.cumulatives ++ t.singles) is.files))
    (two_true (is_long k.singles) (list_all is_stated_single k.singles) (less (length k.singles) (2 ^ 32) many)
    (singles_ruled made all (epoch_of t.lineage + 1) (start_in t) t.singles (all_back HasFiles (map delta_in t.cumulatives) t.singles rest))) in
    two_true (are_recast_columns k) (are_recast_deltas k) columns deltas
