-- Names of tables and views.
use Rattle.std.proofs.Common.{◌≡◌, ℕ, zero, suc, append_assoc, ◌+◌, List, [], ◌∷◌, ◌++◌, map, take, refl, sym, ◌∙◌, ap, arith}
use Rattle.std.specs.Prelude.{not, flat_map, slice_get, is_some, is_none, Option, None, Some}
use Rattle.mesa_table_records.specs.mesa_store_spec.Fitting.{names_in}
use Rattle.mesa_table_records.specs.mesa_catalog_table.declared.table.Table.{Table}
use Rattle.mesa_table_records.specs.mesa_catalog_table.Meaning.{meta_of}
use Rattle.mesa_table_records.proofs.mesa_catalog_table.Named.{flat_map-map}
use Rattle.mesa_catalog_records.specs.Names.{table_names}

-- the names of all tables and views
pub names_held : (next : ℕ) (tables : List Table) → flat_map names_in (map (meta_of next) tables) ≡ flat_map table_names tables
names_held next tables = flat_map-map names_in (meta_of next) tables

take_suc : {X : Type 0} (xs : List X) (i : ℕ) (x : X) → slice_get xs i ≡ Some x → take (suc i) xs ≡ take i xs ++ x ∷ []
take_suc [] i x e = absurd (cc)
take_suc (y ∷ ys) zero x e = let same : y ≡ x = cc in ap (λ z. z ∷ []) same
take_suc (y ∷ ys) (suc i) x e = ap (λ zs. y ∷ zs) (take_suc ys i x e)

-- a name, and those so far behind it, with one more
pub named_more : (start now later names : List (List ℕ)) (first name : List ℕ) (i : ℕ) → slice_get names i ≡ Some name → now ≡ start ++ first ∷ take i names → later ≡ now ++ name ∷ [] → later ≡ start ++ first ∷ take (i + 1) names
named_more start now later names first name i got was more =
    let next : suc i ≡ i + 1 = omega arith in
    more ∙ ap (λ ns. ns ++ name ∷ []) was ∙ append_assoc start (first ∷ take i names) (name ∷ [])
    ∙ ap (λ ns. start ++ first ∷ ns) (sym (take_suc names i name got) ∙ ap (λ n. take n names) next)

pub none_not : {X : Type 0} (o : Option X) → not (is_some o) ≡ is_none o
none_not (Some x) = refl
none_not None = refl
