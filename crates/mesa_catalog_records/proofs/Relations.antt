-- Looking names up.
use Rattle.std.proofs.Common.{◌≡◌, ℕ, ◌+◌, ◌≤◌, ◌<◌, List, [], ◌∷◌, ◌++◌, length, map, drop, get_or, refl, sym, ◌∙◌, ap, Bool, true, false, cond}
use Rattle.std.specs.Prelude.{◌||◌, not, Option, Some, None, option_map, is_some, flat_map}
use Rattle.std.specs.List.{list_any}
use Rattle.std.specs.Option.{option_or}
use Rattle.std.proofs.lemmas.List.{at_drop_more, at_drop_all}
use Rattle.mesa_list.specs.Bytes.{same_bytes}
use Rattle.mesa_table_records.specs.mesa_columns.Names.{has_name}
use Rattle.mesa_table_records.specs.mesa_columns.Columns.{place_of}
use Rattle.mesa_schema.proofs.mesa_columns.Maps.{is_some_position}
use Rattle.mesa_table_records.specs.mesa_store_spec.Catalog.{TableMeta}
use Rattle.mesa_table_records.specs.mesa_store_spec.Fitting.{names_in}
use Rattle.mesa_table_records.specs.mesa_catalog_table.declared.relation.Relation.{Relation}
use Rattle.mesa_table_records.specs.mesa_catalog_table.declared.table.Table.{Table}
use Rattle.mesa_catalog_records.specs.Names.{relation_from}
use Rattle.mesa_table_records.specs.mesa_catalog_table.Lookups.{relation_in, view_names}
use Rattle.mesa_table_records.specs.mesa_catalog_table.Meaning.{meta_of}

-- ---- relations

-- a table more
pub relation_step : (next number : ℕ) (name : List ℕ) (tables : List Table) (t : Table) → number < length tables → t ≡ get_or tables number t
    → relation_from number name (map (meta_of next) (drop number tables)) ≡ option_or (relation_in number name (meta_of next t)) (relation_from (number + 1) name (map (meta_of next) (drop (number + 1) tables)))
relation_step next number name tables t h e =
    at_drop_more (λ ts. relation_from number name (map (meta_of next) ts)) tables number t h
    ∙ ap (λ x. option_or (relation_in number name (meta_of next x)) (relation_from (number + 1) name (map (meta_of next) (drop (number + 1) tables)))) (sym e)

pub relation_end : (next number : ℕ) (name : List ℕ) (tables : List Table) → length tables ≤ number → relation_from number name (map (meta_of next) (drop number tables)) ≡ None
relation_end next number name tables h = at_drop_all (λ ts. relation_from number name (map (meta_of next) ts)) tables number h

some_either : {X : Type 0} (a b : Option X) → is_some (option_or a b) ≡ (is_some a || is_some b)
some_either (Some x) b = refl
some_either None b = refl

some_mapped : {X Y : Type 0} (f : X → Y) (o : Option X) → is_some (option_map f o) ≡ is_some o
some_mapped f (Some x) = refl
some_mapped f None = refl

some_in : (number : ℕ) (name : List ℕ) (t : TableMeta) → is_some (relation_in number name t) ≡ has_name name (names_in t)
some_in number name t =
    let views = view_names t.lineage in
    elim (same_bytes name t.name) as (λ b. is_some {T = Relation} (cond b (Some (record { table = number; view = None })) (option_map (λ (v : ℕ). record { table = number; view = Some v }) (place_of name views))) ≡ (b || has_name name views)) [
      | true ↦ refl
      | false ↦ some_mapped (λ (v : ℕ). record { table = number; view = Some v }) (place_of name views) ∙ is_some_position (same_bytes name) views
    ]

any-append : {X : Type 0} (p : X → Bool) (xs ys : List X) → list_any p (xs ++ ys) ≡ (list_any p xs || list_any p ys)
any-append p [] ys = refl
any-append p (x ∷ xs) ys = elim (p x) as (λ b. (b || list_any p (xs ++ ys)) ≡ (b || list_any p xs || list_any p ys)) [ true ↦ refl | false ↦ any-append p xs ys ]

-- a name that a table or a view has
pub known_name : (number : ℕ) (name : List ℕ) (tables : List TableMeta) → is_some (relation_from number name tables) ≡ has_name name (flat_map names_in tables)
known_name number name [] = refl
known_name number name (t ∷ tables) =
    some_either (relation_in number name t) (relation_from (number + 1) name tables)
    ∙ (λ i. some_in number name t i || known_name (number + 1) name tables i)
    ∙ sym (any-append (same_bytes name) (names_in t) (flat_map names_in tables))

-- a test turned round
pub turned : (a b : Bool) → a ≡ not b → b ≡ not a
turned true true e = absurd (cc)
turned true false e = refl
turned false true e = refl
turned false false e = absurd (cc)
