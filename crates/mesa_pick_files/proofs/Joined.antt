-- What is opened makes a task.
use Rattle.std.proofs.Common.{◌≡◌, ℕ, ◌+◌, List, [], ◌∷◌, ◌++◌, map, refl, sym, ap, ◌∙◌, subst, cond, Option, Some, None, inl, inr}
use Rattle.std.specs.Prelude.{◌≢◌, flat_map, is_some, IfSome}
use Rattle.sha2.specs.Sha256.{sha256}
use Rattle.mesa_file.specs.declared.file_ref.FileRef.{FileRef}
use Rattle.mesa_delta.specs.Reading.{IsTailDamage}
use Rattle.mesa_catalog_table.specs.mesa_delta_format.Summary.{file_layout}
use Rattle.std.specs.List.{AllByRecursion}
use Rattle.mesa_file.specs.declared.damage.Damage.{Damage}
use Rattle.mesa_validate.specs.mesa_columns.Columns.{Columns}
use Rattle.mesa_schema.specs.Changes.{Lineage}
use Rattle.mesa_disk.specs.Image.{Image}
use Rattle.mesa_delta.specs.declared.input.Input.{Input}
use Rattle.mesa_record.specs.declared.record.Files.{Files}
use Rattle.mesa_validate.specs.mesa_store_spec.Catalog.{Delta}
use Rattle.mesa_open_files.specs.Inputs.{AreInputsOf}
use Rattle.mesa_open_files.specs.Opening.{HaveOpened, IsDamageOf, wanted_columns}
use Rattle.mesa_open_files.specs.declared.opening.Wanted.{Wanted}
use Rattle.mesa_pick_files.specs.Files.{Want, files_wanted, table_wanted, want_of}
use Rattle.mesa_pick_files.specs.Lent.{with_rows}

-- ---- the files that are wanted

-- only deltas with rows have files
pub rows_wanted : (l : Lineage) (ds : List Delta) → flat_map (table_wanted l) ds ≡ flat_map (table_wanted l) (with_rows ds)
rows_wanted l [] = refl
rows_wanted l (d ∷ ds) = by d.files refl (rows_wanted l ds)
  where
    by : (o : Option Files) → d.files ≡ o → flat_map (table_wanted l) ds ≡ flat_map (table_wanted l) (with_rows ds)
        → files_wanted l d.epoch d.files ++ flat_map (table_wanted l) ds ≡ flat_map (table_wanted l) (cond (is_some d.files) (d ∷ with_rows ds) (with_rows ds))
    by None is more = ap (λ o. files_wanted l d.epoch o ++ flat_map (table_wanted l) ds) is ∙ more ∙ sym (ap (λ o. flat_map (table_wanted l) (cond (is_some o) (d ∷ with_rows ds) (with_rows ds))) is)
    by (Some f) is more = ap (λ fs. files_wanted l d.epoch d.files ++ fs) more ∙ sym (ap (λ o. flat_map (table_wanted l) (cond (is_some o) (d ∷ with_rows ds) (with_rows ds))) is)

-- so deltas that are alike but for those without rows have the same files
pub same_wanted : (l : Lineage) (xs ys : List Delta) → with_rows xs ≡ with_rows ys → flat_map (table_wanted l) xs ≡ flat_map (table_wanted l) ys
same_wanted l xs ys same = rows_wanted l xs ∙ ap (flat_map (table_wanted l)) same ∙ sym (rows_wanted l ys)

-- all are the table's
abbrev IsOfTable : Lineage → Want → Type 0
IsOfTable l w = w.lineage ≡ l

all_of_table : (l : Lineage) (ds : List Delta) → AllByRecursion (IsOfTable l) (flat_map (table_wanted l) ds)
all_of_table l [] = tt
all_of_table l (d ∷ ds) = elim (d.files) as (λ o. AllByRecursion (IsOfTable l) (files_wanted l d.epoch o ++ flat_map (table_wanted l) ds)) [ None ↦ all_of_table l ds | Some f ↦ (refl, all_of_table l ds) ]

unmapped : (l : Lineage) (ws : List Wanted) → AllByRecursion (IsOfTable l) (map want_of ws) → AllByRecursion (λ (w : Wanted). w.evolving.now.value ≡ l) ws
unmapped l [] all = tt
unmapped l (w ∷ ws) all = (all.0, unmapped l ws all.1)

-- what was opened of them may be merged
opened_inputs : {R : Type 0} (bytes : R → Option (List ℕ)) (faults : R → ℕ) (told : Option Image) (l : Lineage) (ws : List Wanted) (is : List (Input R)) (d : Option Damage)
    → AllByRecursion (λ (w : Wanted). w.evolving.now.value ≡ l) ws → HaveOpened bytes faults told ws is d → AreInputsOf bytes l is
opened_inputs bytes faults told l [] [] d all have = tt
opened_inputs bytes faults told l [] (i ∷ is) d all have = absurd have
opened_inputs bytes faults told l (w ∷ ws) [] d all have = tt
opened_inputs bytes faults told l (w ∷ ws) (i ∷ is) d all have = ((have.0.input, have.0.lineage ∙ all.0), opened_inputs bytes faults told l ws is d all.1 have.1)

pub table_inputs : {R : Type 0} (bytes : R → Option (List ℕ)) (faults : R → ℕ) (told : Option Image) (l : Lineage) (ds : List Delta) (ws : List Wanted) (is : List (Input R)) (d : Option Damage)
    → map want_of ws ≡ flat_map (table_wanted l) ds → HaveOpened bytes faults told ws is d → AreInputsOf bytes l is
table_inputs bytes faults told l ds ws is d same have =
    opened_inputs bytes faults told l ws is d (unmapped l ws (subst (AllByRecursion (IsOfTable l)) (sym same) (all_of_table l ds))) have

-- ---- damage

pub differs : (told : Option Image) (s : Columns) (file : FileRef) (d : Damage) → IsDamageOf told s file d → d.want ≢ d.found
differs told s file d is = elim is.shown [
  | inl absent ↦ subst (λ (x : Damage). x.want ≢ x.found) (sym absent.shown) (λ e. absurd cc)
  | inr marred ↦ by marred.content marred.size marred.shown
]
  where
    by : (content : Option (List ℕ)) (size : ℕ) → IsTailDamage content size (file_layout s file) file d → d.want ≢ d.found
    by content size shown = elim shown [
      | inl wrong ↦ subst (λ (x : Damage). x.want ≢ x.found) (sym wrong.0) (λ e. wrong.1 (let same : size ≡ file.len = cc in same))
      | inr piece ↦ elim piece.1.2 [
        | inl digest ↦ subst (λ (x : Damage). x.want ≢ x.found) (sym digest.0) (λ e. digest.1 (let same : sha256 piece.1.0 ≡ file.digest = cc in same))
        | inr misfit ↦ subst (λ (x : Damage). x.want ≢ x.found) (sym misfit.0.0) (λ e. absurd cc)
      ]
    ]

-- damage that was met isn't what was wanted
pub opened_differs : {R : Type 0} (bytes : R → Option (List ℕ)) (faults : R → ℕ) (told : Option Image) (ws : List Wanted) (is : List (Input R)) (d : Option Damage)
    → HaveOpened bytes faults told ws is d → IfSome d (λ (x : Damage). x.want ≢ x.found)
opened_differs bytes faults told [] [] None have = tt
opened_differs bytes faults told [] [] (Some d) have = absurd have
opened_differs bytes faults told [] (i ∷ is) d have = absurd have
opened_differs bytes faults told (w ∷ ws) [] None have = tt
opened_differs bytes faults told (w ∷ ws) [] (Some d) have = differs told (wanted_columns w) w.file.now d have
opened_differs bytes faults told (w ∷ ws) (i ∷ is) d have = opened_differs bytes faults told ws is d have.1
