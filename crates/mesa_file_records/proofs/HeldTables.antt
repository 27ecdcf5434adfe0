-- The ranges of a table that is held: where each of them with rows has a file, so has its base, and so have its singletons.
use Rattle.std.proofs.Common.{◌≡◌, ℕ, zero, suc, ◌+◌, ◌-◌, List, [], ◌∷◌, ◌++◌, replicate, sym, subst, arith, Option, None, Some}
use Rattle.std.specs.Prelude.{IfSome, option_map}
use Rattle.std.specs.List.{AllByRecursion}
use Rattle.mesa_engine.specs.mesa_store_spec.Catalog.{Delta, TableMeta, empty_delta, start_in}
use Rattle.mesa_pick_files.specs.Ranges.{Ranged, base_ranged, singles_ranged}
use Rattle.mesa_catalog_table.specs.Meaning.{AreLoaded, ending_of, singles_from, start_of_base, meta_of}
use Rattle.mesa_catalog_table.specs.declared.table.Base.{Base}
use Rattle.mesa_catalog_table.specs.declared.table.Loaded.{Loaded}
use Rattle.mesa_catalog_table.specs.declared.table.Table.{Table}
use Rattle.mesa_catalog_table.proofs.Works.{starts}
use Rattle.mesa_open_files.specs.declared.recasting.RecastedRange.{RecastedRange}
use Rattle.mesa_file_records.specs.Recasts.{HasFileAt, HasFiles}
use Rattle.mesa_file_records.proofs.Bringing.{AreThere}

all_behind : {A : Type 0} (P : A → Type 0) (xs ys : List A) → AllByRecursion P (xs ++ ys) → AllByRecursion P ys
all_behind P [] ys all = all
all_behind P (x ∷ xs) ys all = all_behind P xs ys all.1

module _ {M : Type 0} (ys : List (RecastedRange M)) where
  abbrev HasIt : Ranged → Type 0
  HasIt x = HasFileAt ys x.from x.to x.delta.files

  -- behind versions that brought nothing
  behind_empty : (version n : ℕ) (ds : List Delta) → AllByRecursion HasIt (singles_ranged version (replicate n empty_delta ++ ds)) → AllByRecursion HasIt (singles_ranged (version + n) ds)
  behind_empty version zero ds has = subst (λ v. AllByRecursion HasIt (singles_ranged v ds)) (let e : version ≡ version + 0 = omega arith in e) has
  behind_empty version (suc n) ds has = subst (λ v. AllByRecursion HasIt (singles_ranged v ds)) (let e : version + 1 + n ≡ version + suc n = omega arith in e) (behind_empty (version + 1) n ds has.1)

  each_there : (from next : ℕ) (loaded : List Loaded) → AreLoaded from next loaded → AllByRecursion HasIt (singles_ranged from (singles_from from next loaded)) → AreThere ys loaded
  each_there from next [] rise has = tt
  each_there from next (l ∷ loaded) rise has =
      let rest = singles_from (l.version + 1) next loaded in
      let at : from + (l.version - from) ≡ l.version = (let le = rise.0 in omega (arith, le)) in
      let here : AllByRecursion HasIt (singles_ranged l.version (l.delta.value ∷ rest)) =
      subst (λ v. AllByRecursion HasIt (singles_ranged v (l.delta.value ∷ rest))) at (behind_empty from (l.version - from) (l.delta.value ∷ rest) has) in
      (here.0, each_there (l.version + 1) next loaded rise.2 here.1)

  base_first : (old : Option Base) (more : List Ranged) → AllByRecursion HasIt (base_ranged (option_map ending_of old) ++ more) → IfSome old (λ (b : Base). HasFileAt ys 0 b.to (ending_of b).delta.files)
  base_first None more has = tt
  base_first (Some b) more has = has.0

  module _ (next : ℕ) (t : Table) (s : TableMeta) (is : meta_of next t ≡ s) (files : HasFiles ys s) where
    its : HasFiles ys (meta_of next t)
    its = subst (HasFiles ys) (sym is) files

    -- its base,
    pub base_has : IfSome t.base (λ (b : Base). HasFileAt ys 0 b.to (ending_of b).delta.files)
    base_has = base_first t.base (singles_ranged (start_in (meta_of next t)) (meta_of next t).singles) its

    -- and its singletons
    pub loaded_have : AreLoaded (start_of_base t.base) next t.loaded.items → AreThere ys t.loaded.items
    loaded_have rise =
        each_there (start_of_base t.base) next t.loaded.items rise
        (subst (λ v. AllByRecursion HasIt (singles_ranged v (singles_from (start_of_base t.base) next t.loaded.items))) (starts next t)
        (all_behind HasIt (base_ranged (option_map ending_of t.base)) (singles_ranged (start_in (meta_of next t)) (meta_of next t).singles) its))
