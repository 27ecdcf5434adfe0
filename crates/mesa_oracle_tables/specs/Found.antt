-- Where relations stand.
use Rattle.std.specs.Prelude.{ℕ, ◌<◌, List, [], find, length, slice_get, slice_index_or, Option, IfSome, option_and_then}
use Rattle.mesa_list.specs.Bytes.{same_bytes}
use Rattle.mesa_answer.specs.mesa_columns.declared.views.View.{View}
use Rattle.mesa_batch.specs.Glance.{Known}
use Rattle.mesa_model.specs.Relations.{Relation}
use Rattle.mesa_model.specs.Warehouse.{Store, table_at}
use Rattle.mesa_oracle_tables.specs.declared.names.Place.{Place}
use Rattle.mesa_oracle_tables.specs.Kept.{Contents, From, table_in}

-- the view of a name among these
abbrev pub view_named : List ℕ → List View → Option View
view_named name views = find (λ (v : View). same_bytes name v.name) views

-- what stands for a table that isn't there
abbrev pub no_known : Known
no_known = record { name = []; lineage = record { begins = 0; first = record { keys = []; values = [] }; changes = []; views = [] } }

-- the table of a number among these
abbrev pub known_at : ℕ → List Known → Known
known_at number tables = slice_index_or tables number no_known

-- the relation at a place
abbrev pub relation_at : From → List (List ℕ) → List Contents → List Known → Place → Relation
relation_at from totals versions tables place = record {
  number = place.table;
  table = table_in from place.table totals versions (known_at place.table tables);
  view = option_and_then (slice_get (known_at place.table tables).lineage.views) place.view;
}

-- the relation at a place of a store
abbrev pub relation_seen : Store → Place → Relation
relation_seen store place = record {
  number = place.table;
  table = table_at store place.table;
  view = option_and_then (slice_get (table_at store place.table).lineage.views) place.view;
}

-- a place is one of a store's tables, or one of their views
pub record IsThere (store : Store) (place : Place) : Type 0 where
  pub table : place.table < length store.tables
  pub view : IfSome place.view (λ view. view < length (table_at store place.table).lineage.views)
