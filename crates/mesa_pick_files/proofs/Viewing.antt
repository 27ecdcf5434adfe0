-- The files by which a view is read.
use Rattle.std.proofs.Common.{◌≡◌, ℕ, ◌+◌, ◌≤◌, ◌<◌, List, [], ◌∷◌, ◌++◌, length, map, take, get_or, refl, sym, ap, ◌∙◌, subst, append_assoc, cond, arith, Option, Some, None}
use Rattle.std.specs.Prelude.{flat_map, is_some}
use Rattle.std.specs.List.{AllByRecursion}
use Rattle.std.proofs.lemmas.List.{append-nil, take_more}
use Rattle.mesa_schema.specs.Changes.{Lineage, epoch_of}
use Rattle.mesa_record.specs.declared.record.Files.{Files}
use Rattle.mesa_record.specs.declared.record.ViewRef.{ViewRef}
use Rattle.mesa_validate.specs.mesa_store_spec.Catalog.{Delta}
use Rattle.mesa_catalog_table.specs.declared.table.Loaded.{Loaded}
use Rattle.mesa_catalog_table.proofs.Singles.{flat_map-append}
use Rattle.mesa_pick_files.specs.Files.{IsOfEpoch, Seen, files_seen, seen_by, view_file, view_wanted, want_in}
use Rattle.mesa_pick_files.specs.Lent.{AreOfEpochs, with_rows}

-- the files of one singleton
abbrev pub single_seen : Lineage → Lineage → ℕ → Loaded → List Seen
single_seen l own view x = view_wanted l own view x.delta.value

-- what one singleton more brings
pub seen_more : (f : Loaded → List Seen) (seen : List Seen) (xs : List Loaded) (i : ℕ) (x : Loaded) → i < length xs → x ≡ get_or xs i x
    → (seen ++ flat_map f (take i xs)) ++ f x ≡ seen ++ flat_map f (take (i + 1) xs)
seen_more f seen xs i x h is =
    let before = flat_map f (take i xs) in
    append_assoc seen before (f x)
    ∙ ap (λ ys. seen ++ (before ++ ys)) (sym (append-nil (f x)))
    ∙ ap (λ ys. seen ++ ys) (sym (flat_map-append f (take i xs) (x ∷ [])) ∙ ap (λ y. flat_map f (take i xs ++ y ∷ [])) is ∙ ap (flat_map f) (sym (take_more xs i x h)))

-- a view's file has an epoch of its columns
pub view_epochs : (l own : Lineage) (view : ℕ) (ds : List Delta) → AreOfEpochs (epoch_of l) ds → AllByRecursion IsOfEpoch (map want_in (flat_map (view_wanted l own view) ds))
view_epochs l own view [] are = tt
view_epochs l own view (d ∷ ds) are = by d.files refl (view_epochs l own view ds)
  where
    rest : List Seen
    rest = flat_map (view_wanted l own view) ds

    of_epoch : (f : Files) (o : Option ViewRef) → d.epoch ≤ epoch_of l → IsOfEpoch (want_in (seen_by l own d.epoch f o))
    of_epoch f None low = low
    of_epoch f (Some v) low = omega arith

    by : (o : Option Files) → d.files ≡ o → (AreOfEpochs (epoch_of l) ds → AllByRecursion IsOfEpoch (map want_in rest)) → AllByRecursion IsOfEpoch (map want_in (flat_map (view_wanted l own view) (d ∷ ds)))
    by None is more =
        let fewer : AreOfEpochs (epoch_of l) ds = subst (λ (o : Option Files). AllByRecursion (λ (x : Delta). x.epoch ≤ epoch_of l) (cond (is_some o) (d ∷ with_rows ds) (with_rows ds))) is are in
        subst (λ (o : Option Files). AllByRecursion IsOfEpoch (map want_in (files_seen l own view d.epoch o ++ rest))) (sym is) (more fewer)
    by (Some f) is more =
        let all = subst (λ (o : Option Files). AllByRecursion (λ (x : Delta). x.epoch ≤ epoch_of l) (cond (is_some o) (d ∷ with_rows ds) (with_rows ds))) is are in
        subst (λ (o : Option Files). AllByRecursion IsOfEpoch (map want_in (files_seen l own view d.epoch o ++ rest))) (sym is) (of_epoch f (view_file view f.views) all.0, more all.1)

-- the files of three lists of deltas, one behind the other
pub seen_joined : (f : Delta → List Seen) (base ten singles : List Delta) → ([] ++ flat_map f base ++ flat_map f ten) ++ flat_map f singles ≡ flat_map f (base ++ (ten ++ singles))
seen_joined f base ten singles =
    append_assoc (flat_map f base) (flat_map f ten) (flat_map f singles)
    ∙ ap (λ vs. flat_map f base ++ vs) (sym (flat_map-append f ten singles))
    ∙ sym (flat_map-append f base (ten ++ singles))
