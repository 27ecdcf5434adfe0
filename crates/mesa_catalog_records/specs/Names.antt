-- Names of tables and views.
use Rattle.std.specs.Prelude.{ℕ, ◌+◌, List, [], ◌∷◌, Option, None}
use Rattle.std.specs.Option.{option_or}
use Rattle.mesa_table_records.specs.mesa_store_spec.Catalog.{Catalog, TableMeta}
use Rattle.mesa_table_records.specs.mesa_catalog_table.declared.relation.Relation.{Relation}
use Rattle.mesa_table_records.specs.mesa_catalog_table.Lookups.{relation_in, view_names}
use Rattle.mesa_table_records.specs.mesa_catalog_table.declared.table.Table.{Table}

-- a table's name, and the names of its views
abbrev pub table_names : Table → List (List ℕ)
table_names t = t.name ∷ view_names t.evolving.value

-- the table or the view of a name, among the tables from a number on
abbrev pub relation_from : ℕ → List ℕ → List TableMeta → Option Relation
relation_from number name [] = None
relation_from number name (t ∷ tables) = option_or (relation_in number name t) (relation_from (number + 1) name tables)

-- The table or the view of a name: tables and views share one space of names.
abbrev pub relation_of : Catalog → List ℕ → Option Relation
relation_of c name = relation_from 0 name c.tables
