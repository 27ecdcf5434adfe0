-- What each command makes of what is kept, and what its record makes of the catalogue that stands for it.
use Rattle.std.specs.Prelude.{◌≡◌, ℕ, List, [], ◌∷◌, ◌++◌, None, Bool, true, false, slice_set, slice_index_or}
use Rattle.mesa_history_spec.specs.mesa_columns.declared.changes.Change.{Change}
use Rattle.mesa_history_spec.specs.mesa_columns.declared.views.View.{View}
use Rattle.mesa_history_spec.specs.mesa_columns.Columns.{Columns}
use Rattle.mesa_history_spec.specs.mesa_schema.Recasts.{Recast}
use Rattle.mesa_history_spec.specs.mesa_schema.Views.{with_view}
use Rattle.mesa_history_spec.specs.mesa_batch.Batch.{Placed}
use Rattle.mesa_history_spec.specs.mesa_span.declared.works.Work.{Work}
use Rattle.mesa_history_spec.specs.mesa_span.declared.works.Work.TheVariants as work
use Rattle.mesa_history_spec.specs.mesa_span.Ranges.{new_ranges}
use Rattle.mesa_history_spec.specs.mesa_span.Work.{swapped}
use Rattle.mesa_commit.specs.mesa_disk.Image.{Image}
use Rattle.mesa_commit.specs.Images.{Has}
use Rattle.mesa_history_spec.specs.mesa_model.Warehouse.{Table, Warehouse, table_at, with_table, with_tables}
use Rattle.mesa_history_spec.specs.mesa_model.Load.{with_batch}
use Rattle.mesa_history_spec.specs.mesa_model.Tables.{new_table, table_changed, with_recast}
use Rattle.mesa_history_spec.specs.mesa_model.Versions.{store_from, table_from}
use Rattle.mesa_history_spec.specs.Found.{Kept}
use Rattle.mesa_history_spec.specs.Machine.{without_cumulatives}
use Rattle.mesa_record.specs.declared.record.Record.{Record}
use Rattle.mesa_store_spec.specs.Catalog.{Catalog, applied}
use Rattle.mesa_store_spec.specs.Fitting.{brought, live_files}
use Rattle.mesa_store_spec.specs.Contents.{Rows, kept_of}
use Rattle.mesa_store_spec.specs.Sound.{HaveSoundRows, wants}

-- a warehouse of what is kept, which no session has come to yet
abbrev pub warehouse_of : Kept → Warehouse
warehouse_of k = record { store = k.store; next = k.next; given = []; pins = []; closed = None }

-- what is kept of a warehouse, beside ranges
abbrev pub kept_with : Warehouse → Kept → Kept
kept_with w k = record k { store = w.store; next = w.next }

-- what is kept once a batch is loaded
abbrev pub kept_loaded : Kept → List Placed → Kept
kept_loaded k batch = kept_with (with_batch (warehouse_of k) batch) k

-- once a table is made, which enters the ranges too
abbrev pub kept_made : Kept → List ℕ → Columns → Kept
kept_made k name s = record (kept_with (with_tables (warehouse_of k) (k.store.tables ++ new_table (warehouse_of k) name s ∷ [])) k) { ranges = k.ranges ++ new_ranges k.store.floor ∷ [] }

-- a table with a view more
abbrev pub table_viewed : Table → View → Table
table_viewed t view = record t { lineage = with_view t.lineage view }

-- once a view is made of the table of a number
abbrev pub kept_viewed : Kept → ℕ → View → Kept
kept_viewed k table view = kept_with (with_table (warehouse_of k) table (table_viewed (table_at k.store table) view)) k

-- once the columns of the table of a number are changed
abbrev pub kept_altered : Kept → ℕ → Change → Kept
kept_altered k table change = kept_with (with_table (warehouse_of k) table (table_changed (table_at k.store table) change)) k

-- once versions below one are let go of all tables
abbrev pub kept_expired : Kept → ℕ → Kept
kept_expired k version = record k { store = store_from k.store version }

-- once they are let go of the table of a number
abbrev pub kept_expired_of : Kept → ℕ → ℕ → Kept
kept_expired_of k table version = kept_with (with_table (warehouse_of k) table (table_from version (table_at k.store table))) k

-- the work whose range a swap brings in
abbrev pub work_of : Bool → ℕ → ℕ → Work
work_of true from to = work.Base to
work_of false from to = work.Cumulative from to

-- whether a work makes a base, and the first and the last version of its range
abbrev pub is_base : Work → Bool
is_base (work.Base to) = true
is_base (work.Cumulative from to) = false

abbrev pub first_of : Work → ℕ
first_of (work.Base to) = 0
first_of (work.Cumulative from to) = from

abbrev pub last_of : Work → ℕ
last_of (work.Base to) = to
last_of (work.Cumulative from to) = to

-- once a work's range is swapped in: the ranges change, and no content
abbrev pub kept_swapped : Kept → ℕ → Work → Kept
kept_swapped k table w = record k { ranges = slice_set k.ranges table (swapped w (slice_index_or k.ranges table (new_ranges 0))) }

-- once the table of a number is recast: its contents are grouped, and its cumulatives go
abbrev pub kept_recast : Kept → ℕ → Recast → Kept
kept_recast k table r = record (kept_with (with_recast (warehouse_of k) table r) k) { ranges = slice_set k.ranges table (without_cumulatives (slice_index_or k.ranges table (new_ranges 0))) }

-- A record moves a catalogue to one that stands for this: what is to hold of rows holds again, and each file that is then named was named before or is brought.
pub record Moves (rows : Rows) (c : Catalog) (r : Record) (after : Kept) : Type 0 where
  pub kept : kept_of rows (applied c r) ≡ after
  pub sound_rows : HaveSoundRows rows (applied c r)
  pub grows : (i : Image) → Has (wants rows (live_files c)) i → Has (wants rows (brought c r)) i → Has (wants rows (live_files (applied c r))) i
