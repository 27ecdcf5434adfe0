-- Looking a table or a view up by its name, table by table.
use Rattle.std.proofs.Common.{◌≡◌, ℕ, ◌+◌, ◌<◌, ◌≤◌, List, length, drop, ◌∙◌, ap, Bool, true, false, cond, Option, Some, None}
use Rattle.std.specs.Prelude.{option_map}
use Rattle.std.specs.Option.{option_or}
use Rattle.std.proofs.lemmas.List.{at_drop_more, at_drop_all}
use Rattle.mesa_list.specs.Bytes.{same_bytes}
use Rattle.mesa_catalog.specs.mesa_columns.Columns.{place_of}
use Rattle.mesa_catalog.specs.mesa_store_spec.Catalog.{Catalog, no_meta, meta_at}
use Rattle.mesa_catalog.specs.mesa_catalog_table.declared.relation.Relation.{Relation}
use Rattle.mesa_catalog.specs.mesa_catalog_table.Lookups.{relation_in, view_names}
use Rattle.mesa_catalog.specs.mesa_catalog_records.Names.{relation_from}

-- no table is left
pub found_nowhere : (c : Catalog) (name : List ℕ) (number : ℕ) → length c.tables ≤ number → relation_from number name (drop number c.tables) ≡ None
found_nowhere c name number h = at_drop_all (relation_from number name) c.tables number h

module _ (c : Catalog) (name : List ℕ) (number : ℕ) (there : number < length c.tables) where
  step : relation_from number name (drop number c.tables) ≡ option_or (relation_in number name (meta_at c number)) (relation_from (number + 1) name (drop (number + 1) c.tables))
  step = at_drop_more (relation_from number name) c.tables number no_meta there

  -- what the table decides, by whether it has the name and by the place of its view of the name
  abbrev decides : Bool → Option ℕ → Option Relation
  decides same view = option_or (cond {A = Option Relation} same (Some (record { table = number; view = None })) (option_map (λ (i : ℕ). record { table = number; view = Some i }) view)) (relation_from (number + 1) name (drop (number + 1) c.tables))

  pub found_table : same_bytes name (meta_at c number).name ≡ true → relation_from number name (drop number c.tables) ≡ Some (record { table = number; view = None })
  found_table same = step ∙ ap (λ b. decides b (place_of name (view_names (meta_at c number).lineage))) same

  module _ (other : same_bytes name (meta_at c number).name ≡ false) where
    pub found_view : (i : ℕ) → place_of name (view_names (meta_at c number).lineage) ≡ Some i → relation_from number name (drop number c.tables) ≡ Some (record { table = number; view = Some i })
    found_view i view = step ∙ (λ k. decides (other k) (view k))

    pub found_later : place_of name (view_names (meta_at c number).lineage) ≡ None → relation_from number name (drop number c.tables) ≡ relation_from (number + 1) name (drop (number + 1) c.tables)
    found_later view = step ∙ (λ k. decides (other k) (view k))
