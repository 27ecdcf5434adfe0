-- What a table is asked for.
use Rattle.std.specs.Prelude.{ℕ, List, map, if◌then◌else◌, Option, Some, None, option_map}
use Rattle.mesa_list.specs.Bytes.{same_bytes}
use Rattle.mesa_store_spec.specs.mesa_columns.declared.views.View.{View}
use Rattle.mesa_store_spec.specs.mesa_columns.Columns.{place_of}
use Rattle.mesa_schema.specs.Changes.{Lineage}
use Rattle.mesa_store_spec.specs.Catalog.{TableMeta}
use Rattle.mesa_catalog_table.specs.declared.relation.Relation.{Relation}

-- the names of a table's views, by their numbers
abbrev pub view_names : Lineage → List (List ℕ)
view_names l = map (λ (v : View). v.name) l.views

-- the table of a number, or the view of it, that has this name
abbrev pub relation_in : ℕ → List ℕ → TableMeta → Option Relation
relation_in number name t =
    if same_bytes name t.name then Some (record { table = number; view = None })
    else option_map (λ view. record { table = number; view = Some view }) (place_of name (view_names t.lineage))
