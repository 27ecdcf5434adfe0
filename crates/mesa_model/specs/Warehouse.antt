-- The reference warehouse: for each table the whole content at each version that can be queried.
use Rattle.std.specs.Prelude.{ℕ, ◌-◌, ◌^◌, List, [], Option, Some, None, slice_index_or, slice_set, ◌==◌, if◌then◌else◌}
use Rattle.mesa_columns.specs.declared.rows.Row.{Row}
use Rattle.mesa_batch.specs.mesa_schema.Changes.{Lineage}

-- A table: its name, its columns through its life with its views, its absolute totals for each sum column, its oldest version that can be queried, and its content at each version from that one on.
pub record Table : Type 0 where
  pub name : List ℕ
  pub lineage : Lineage
  pub totals : List ℕ
  pub oldest : ℕ
  pub contents : List (List Row)

-- The tables in the order in which they were made, and the floor: the version that is the oldest one of a table when it is made, at most every table's oldest.
pub record Store : Type 0 where
  pub tables : List Table
  pub floor : ℕ

-- A held pin: whose it is, its token, its version, and a copy of the tables with their contents at that version alone.
pub record Pin : Type 0 where
  pub session : ℕ
  pub token : ℕ
  pub version : ℕ
  pub store : Store

-- The reference warehouse: its tables, how many versions there were, how many pins each session was given, the pins that are held, and the position at which it closed, if it did.
pub record Warehouse : Type 0 where
  pub store : Store
  pub next : ℕ
  pub given : List ℕ
  pub pins : List Pin
  pub closed : Option ℕ

-- A warehouse in which nothing was done yet.
abbrev pub empty_warehouse : Warehouse
empty_warehouse = record { store = record { tables = []; floor = 0 }; next = 0; given = []; pins = []; closed = None }

-- ---- limits

-- how many tables there may be
abbrev pub max_tables : ℕ
max_tables = 32

-- how many pins all sessions together may hold
abbrev pub max_pins : ℕ
max_pins = 64

-- how many versions there may be
abbrev pub max_versions : ℕ
max_versions = 2 ^ 32 - 1

-- ---- versions and contents

-- the newest version, if there is one
abbrev pub newest_of : Warehouse → Option ℕ
newest_of w = if w.next == 0 then None else Some (w.next - 1)

-- a table's content at a version
abbrev pub content_at : Table → ℕ → List Row
content_at t version = slice_index_or t.contents (version - t.oldest) []

-- ---- tables by number

-- what stands for a table that isn't there
abbrev pub no_table : Table
no_table = record { name = []; lineage = record { begins = 0; first = record { keys = []; values = [] }; changes = []; views = [] }; totals = []; oldest = 0; contents = [] }

-- the table of a number
abbrev pub table_at : Store → ℕ → Table
table_at s number = slice_index_or s.tables number no_table

-- the warehouse with these tables
abbrev pub with_tables : Warehouse → List Table → Warehouse
with_tables w tables = record w { store = record w.store { tables = tables } }

-- the warehouse with this table in the place of the one of a number
abbrev pub with_table : Warehouse → ℕ → Table → Warehouse
with_table w number t = with_tables w (slice_set w.store.tables number t)
