-- How the plain warehouse keeps its tables and their contents.
use Rattle.std.specs.Prelude.{ℕ, ◌+◌, ◌-◌, drop, max, List, [], ◌∷◌, ◌++◌, None, map, slice_index_or, slice_set}
use Rattle.std.specs.declared.alloc.Global.{Global}
use Rattle.std.specs.declared.sync.Arc.{Arc}
use Rattle.mesa_answer.specs.mesa_columns.declared.changes.Change.{Change}
use Rattle.mesa_answer.specs.mesa_columns.declared.lifting.Lift.{Lift}
use Rattle.mesa_answer.specs.mesa_columns.declared.rows.Row.{Row}
use Rattle.mesa_answer.specs.mesa_columns.Columns.{Columns}
use Rattle.mesa_schema.specs.Changes.{Lineage}
use Rattle.mesa_answer.specs.mesa_columns.Lifting.{lifted_with}
use Rattle.mesa_schema.specs.Recasts.{Recast, recast_rows}
use Rattle.mesa_batch.specs.Batch.{Placed}
use Rattle.mesa_batch.specs.Glance.{Known}
use Rattle.mesa_model.specs.Tables.{new_table, table_changed, table_recast}
use Rattle.mesa_model.specs.Load.{tables_loaded}
use Rattle.mesa_model.specs.Versions.{table_from}
use Rattle.mesa_model.specs.Warehouse.{Table, Store, Warehouse, table_at}

-- The tables at their versions, and how many versions there were by then.
pub record Versioned : Type 0 where
  pub store : Store
  pub next : ℕ

-- From which version on contents are kept: the floor, from which they are kept of all tables, and each table's own oldest version, below which a table has none, by the tables' numbers.
pub record From : Type 0 where
  pub floor : ℕ
  pub oldests : List ℕ

-- the greatest of a number and of these
abbrev pub greatest_of : ℕ → List ℕ → ℕ
greatest_of number [] = number
greatest_of number (n ∷ ns) = max n (greatest_of number ns)

-- these, as they are kept
abbrev pub from_of : ℕ → List ℕ → From
from_of floor oldests = record { floor = floor; oldests = oldests }

-- from the first version on, of no table
abbrev pub nowhere : From
nowhere = record { floor = 0; oldests = [] }

-- the oldest version of the table of a number
abbrev pub oldest_in : ℕ → From → ℕ
oldest_in number from = slice_index_or from.oldests number 0

-- how many of the versions that are kept the table of a number has let go
abbrev pub gone_in : ℕ → From → ℕ
gone_in number from = oldest_in number from - from.floor

-- the contents of the tables at one version, by the tables' numbers
abbrev pub Contents : Type 0
Contents = List (Arc (List Row) Global)

-- their rows
abbrev pub shared : Contents → List (List Row)
shared contents = map (λ (content : Arc (List Row) Global). content.value) contents

-- the same at all versions
abbrev pub all_shared : List Contents → List (List (List Row))
all_shared versions = map shared versions

-- the contents at one version, where the rows of the table of a number are made others
abbrev pub contents_with : ℕ → (List Row → List Row) → List (List Row) → List (List Row)
contents_with number make contents = slice_set contents number (make (slice_index_or contents number []))

-- where they are lifted
abbrev pub contents_lifted : ℕ → Lift → List (List Row) → List (List Row)
contents_lifted number lift contents = contents_with number (map (lifted_with lift)) contents

-- where they are grouped by the columns of a recast
abbrev pub contents_recast : ℕ → Columns → Recast → List (List Row) → List (List Row)
contents_recast number s r contents = contents_with number (recast_rows s r) contents

-- the content of the table of a number; a table that was made later has no rows
abbrev pub content_in : ℕ → Contents → List Row
content_in number contents = slice_index_or (shared contents) number []

-- its content at each version
abbrev pub contents_in : ℕ → List Contents → List (List Row)
contents_in number versions = map (content_in number) versions

-- its absolute totals
abbrev pub totals_in : ℕ → List (List ℕ) → List ℕ
totals_in number totals = slice_index_or totals number []

-- the table of a number
abbrev pub table_in : From → ℕ → List (List ℕ) → List Contents → Known → Table
table_in from number totals versions known = record {
  name = known.name;
  lineage = known.lineage;
  totals = totals_in number totals;
  oldest = oldest_in number from;
  contents = drop (gone_in number from) (contents_in number versions);
}

-- The tables from a number on, of which the totals and the contents are kept in lists of their own.
abbrev pub tables_in : From → ℕ → List (List ℕ) → List Contents → List Known → List Table
tables_in from number totals versions [] = []
tables_in from number totals versions (known ∷ tables) = table_in from number totals versions known ∷ tables_in from (number + 1) totals versions tables

-- ---- as callers see it

-- the tables' names, and their columns through their life
abbrev pub known_in : Store → List Known
known_in store = map (λ (t : Table). record { name = t.name; lineage = t.lineage }) store.tables

-- the tables with a version more
abbrev pub with_batch : List Placed → Versioned → Versioned
with_batch placed s = record { store = record s.store { tables = tables_loaded placed 0 s.store.tables }; next = s.next + 1 }

-- the tables with one more, which has no rows
abbrev pub with_table_more : Versioned → List ℕ → Columns → Versioned
with_table_more s name columns =
    let w : Warehouse = record { store = s.store; next = s.next; given = []; pins = []; closed = None } in
    record s { store = record s.store { tables = s.store.tables ++ new_table w name columns ∷ [] } }

-- the tables where the one of a number has these columns and views
abbrev pub with_lineage : Versioned → ℕ → Lineage → Versioned
with_lineage s number l = record s { store = record s.store { tables = slice_set s.store.tables number (record (table_at s.store number) { lineage = l }) } }

-- the tables where the schema of the one of a number is changed
abbrev pub with_schema_changed : Versioned → ℕ → Change → Versioned
with_schema_changed s number c = record s { store = record s.store { tables = slice_set s.store.tables number (table_changed (table_at s.store number) c) } }

-- the tables where the one of a number is recast
abbrev pub with_table_recast : Versioned → ℕ → Recast → Versioned
with_table_recast s number r = record s { store = record s.store { tables = slice_set s.store.tables number (table_recast (table_at s.store number) r) } }

-- the tables where the one of a number has no version below this one
abbrev pub with_table_from : Versioned → ℕ → ℕ → Versioned
with_table_from s number version = record s { store = record s.store { tables = slice_set s.store.tables number (table_from version (table_at s.store number)) } }
