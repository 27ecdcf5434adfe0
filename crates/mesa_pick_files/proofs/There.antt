-- The relation of a name is one of the catalogue.
use Rattle.std.proofs.Common.{◌≡◌, ℕ, zero, suc, ◌+◌, ◌<◌, List, [], ◌∷◌, length, get_or, refl, sym, ◌∙◌, ap, subst, arith, Bool, true, false, cond, Option, Some, None}
use Rattle.std.specs.Prelude.{IfSome, option_map}
use Rattle.std.specs.Option.{option_or}
use Rattle.std.proofs.lemmas.List.{length-map}
use Rattle.std.proofs.lemmas.Option.{slice_get-get_or, slice_get_within}
use Rattle.mesa_validate.proofs.mesa_batch.NameNumbers.{position-within}
use Rattle.mesa_validate.specs.mesa_list.Bytes.{same_bytes}
use Rattle.mesa_schema.specs.Changes.{Lineage}
use Rattle.mesa_validate.specs.mesa_columns.Columns.{place_of}
use Rattle.mesa_validate.specs.mesa_columns.declared.views.View.{View}
use Rattle.mesa_validate.specs.mesa_catalog_records.Names.{relation_from, relation_of}
use Rattle.mesa_validate.specs.mesa_store_spec.Catalog.{Catalog, TableMeta, no_meta, meta_at}
use Rattle.mesa_pick_files.proofs.Reading.{IsThere}
use Rattle.mesa_catalog_table.specs.Lookups.{relation_in, view_names}
use Rattle.mesa_catalog_table.specs.declared.relation.Relation.{Relation as Place}

-- a view that was found by its name is one
view_there : (name : List ℕ) (l : Lineage) (i : ℕ) → place_of name (view_names l) ≡ Some i → IsThere l (Some i)
view_there name l i e =
    let d : View = record { name = []; keys = []; values = [] } in
    (get_or l.views i d, slice_get-get_or l.views i d (omega (arith, position-within (same_bytes name) (view_names l) i e, length-map l.views (λ (v : View). v.name))))

-- what a table decides
module _ (number : ℕ) (name : List ℕ) (t : TableMeta) (p : Place) where
  decided : (same : Bool) (o : Option ℕ) → ((i : ℕ) → o ≡ Some i → IsThere t.lineage (Some i))
      → cond {A = Option Place} same (Some (record { table = number; view = None })) (option_map (λ (i : ℕ). record { table = number; view = Some i }) o) ≡ Some p → (p.table ≡ number) × IsThere t.lineage p.view
  decided true o there e =
      let same : record { table = number; view = None } ≡ p = cc in
      (ap (λ (x : Place). x.table) (sym same), subst (λ (x : Place). IsThere t.lineage x.view) same tt)
  decided false None there e = absurd cc
  decided false (Some i) there e =
      let same : record { table = number; view = Some i } ≡ p = cc in
      (ap (λ (x : Place). x.table) (sym same), subst (λ (x : Place). IsThere t.lineage x.view) same (there i refl))

  found_in : relation_in number name t ≡ Some p → (p.table ≡ number) × IsThere t.lineage p.view
  found_in e = decided (same_bytes name t.name) (place_of name (view_names t.lineage)) (view_there name t.lineage) e

-- A relation's place among tables that are numbered from one on.
pub record IsPlaceIn (number : ℕ) (tables : List TableMeta) (p : Place) : Type 0 where
  pub at : ℕ
  pub is : p.table ≡ number + at
  pub within : at < length tables
  pub view : IsThere (get_or tables at no_meta).lineage p.view

found_from : (number : ℕ) (name : List ℕ) (tables : List TableMeta) (p : Place) → relation_from number name tables ≡ Some p → IsPlaceIn number tables p
found_from number name [] p e = absurd cc
found_from number name (t ∷ tables) p e = by (relation_in number name t) refl e (λ is. found_from (number + 1) name tables p is)
  where
    by : (o : Option Place) → relation_in number name t ≡ o → option_or o (relation_from (number + 1) name tables) ≡ Some p → (relation_from (number + 1) name tables ≡ Some p → IsPlaceIn (number + 1) tables p) → IsPlaceIn number (t ∷ tables) p
    by (Some q) here is more =
        let its = found_in number name t p (here ∙ is) in
        record { at = zero; is = omega (arith, its.0); within = omega arith; view = its.1 }
    by None here is more =
        let rest = more is in
        record { at = suc rest.at; is = omega (arith, rest.is); within = omega (arith, rest.within); view = rest.view }

-- The table of a relation is there, and so is its view, if it is one.
pub name_there : (c : Catalog) (name : List ℕ) (p : Place) → relation_of c name ≡ Some p → (p.table < length c.tables) × IsThere (meta_at c p.table).lineage p.view
name_there c name p e =
    let its = found_from 0 name c.tables p e in
    let same : its.at ≡ p.table = omega (arith, its.is) in
    (omega (arith, its.within, same), subst (λ n. IsThere (get_or c.tables n no_meta).lineage p.view) same its.view)

-- a view that is there has one of the table's numbers
pub view_within : (l : Lineage) (view : Option ℕ) → IsThere l view → IfSome view (λ number. number < length l.views)
view_within l None there = tt
view_within l (Some number) there = slice_get_within l.views number there.0 there.1

-- and one of the table's numbers is that of a view that is there
pub within_there : (l : Lineage) (view : Option ℕ) → IfSome view (λ number. number < length l.views) → IsThere l view
within_there l None within = tt
within_there l (Some number) within = let d : View = record { name = []; keys = []; values = [] } in (get_or l.views number d, slice_get-get_or l.views number d within)
