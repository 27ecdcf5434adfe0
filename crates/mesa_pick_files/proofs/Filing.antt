-- The files of deltas.
use Rattle.std.proofs.Common.{◌≡◌, ◌≤◌, List, [], ◌∷◌, ◌++◌, map, refl, sym, ap, ◌∙◌, subst, append_assoc, cond}
use Rattle.std.specs.Prelude.{flat_map, is_some, Option, Some, None}
use Rattle.std.specs.List.{AllByRecursion}
use Rattle.mesa_schema.specs.Changes.{Lineage, epoch_of}
use Rattle.mesa_record.specs.declared.record.Files.{Files}
use Rattle.mesa_validate.specs.mesa_store_spec.Catalog.{Delta}
use Rattle.mesa_catalog_table.specs.declared.table.Loaded.{Loaded}
use Rattle.mesa_catalog_table.proofs.Named.{flat_map-map}
use Rattle.mesa_catalog_table.proofs.Singles.{flat_map-append}
use Rattle.mesa_open_files.specs.Opening.{HasEpoch}
use Rattle.mesa_open_files.specs.declared.opening.Wanted.{Wanted}
use Rattle.mesa_pick_files.specs.Files.{IsOfEpoch, Want, files_wanted, table_wanted, want_of}
use Rattle.mesa_pick_files.specs.Lent.{AreOfEpochs, single_delta, with_rows}

-- what holds of all that was wanted holds of each
pub epochs_mapped : (files : List Wanted) (wants : List Want) → map want_of files ≡ wants → AllByRecursion IsOfEpoch wants → AllByRecursion HasEpoch files
epochs_mapped files wants is all = unmapped files (subst (AllByRecursion IsOfEpoch) (sym is) all)
  where
    unmapped : (ws : List Wanted) → AllByRecursion IsOfEpoch (map want_of ws) → AllByRecursion HasEpoch ws
    unmapped [] all = tt
    unmapped (w ∷ ws) all = (all.0, unmapped ws all.1)

-- a table's files have the epochs of their deltas
pub table_epochs : (l : Lineage) (ds : List Delta) → AreOfEpochs (epoch_of l) ds → AllByRecursion IsOfEpoch (flat_map (table_wanted l) ds)
table_epochs l [] are = tt
table_epochs l (d ∷ ds) are = by d.files refl (table_epochs l ds)
  where
    by : (o : Option Files) → d.files ≡ o → (AreOfEpochs (epoch_of l) ds → AllByRecursion IsOfEpoch (flat_map (table_wanted l) ds)) → AllByRecursion IsOfEpoch (flat_map (table_wanted l) (d ∷ ds))
    by None is more =
        let rest : AreOfEpochs (epoch_of l) ds = subst (λ (o : Option Files). AllByRecursion (λ (x : Delta). x.epoch ≤ epoch_of l) (cond (is_some o) (d ∷ with_rows ds) (with_rows ds))) is are in
        subst (λ (o : Option Files). AllByRecursion IsOfEpoch (files_wanted l d.epoch o ++ flat_map (table_wanted l) ds)) (sym is) (more rest)
    by (Some f) is more =
        let all = subst (λ (o : Option Files). AllByRecursion (λ (x : Delta). x.epoch ≤ epoch_of l) (cond (is_some o) (d ∷ with_rows ds) (with_rows ds))) is are in
        subst (λ (o : Option Files). AllByRecursion IsOfEpoch (files_wanted l d.epoch o ++ flat_map (table_wanted l) ds)) (sym is) (all.0, more all.1)

-- the files of singletons
abbrev pub single_wanted : Lineage → Loaded → List Want
single_wanted l x = table_wanted l x.delta.value

pub singles_wanted : (l : Lineage) (loaded : List Loaded) → flat_map (single_wanted l) loaded ≡ flat_map (table_wanted l) (map single_delta loaded)
singles_wanted l loaded = sym (flat_map-map (table_wanted l) single_delta loaded)

-- the files of three lists of deltas, one behind the other
pub wanted_joined : (f : Delta → List Want) (xs ys zs : List Want) (base ten singles : List Delta) → xs ≡ [] ++ flat_map f base → ys ≡ xs ++ flat_map f ten → zs ≡ ys ++ flat_map f singles
    → zs ≡ flat_map f (base ++ (ten ++ singles))
wanted_joined f xs ys zs base ten singles first second third =
    third ∙ ap (λ vs. vs ++ flat_map f singles) (second ∙ ap (λ vs. vs ++ flat_map f ten) first)
    ∙ append_assoc (flat_map f base) (flat_map f ten) (flat_map f singles)
    ∙ ap (λ vs. flat_map f base ++ vs) (sym (flat_map-append f ten singles))
    ∙ sym (flat_map-append f base (ten ++ singles))
