-- The reference warehouse that a catalogue and the rows of its files stand for.
use Rattle.std.specs.Prelude.{ℕ, ◌+◌, ◌-◌, List, [], ◌++◌, map, take, Option, Some, None}
use Rattle.std.specs.List.{range_with_len}
use Rattle.mesa_history_spec.specs.mesa_columns.declared.rows.Row.{Row}
use Rattle.mesa_history_spec.specs.mesa_columns.Columns.{aggs_of}
use Rattle.mesa_history_spec.specs.mesa_schema.Changes.{Lineage, columns_of, epoch_of, lifted}
use Rattle.mesa_history_spec.specs.mesa_fold.Folded.{folded}
use Rattle.mesa_history_spec.specs.mesa_model.Warehouse.{Table}
use Rattle.mesa_history_spec.specs.Found.{Kept}
use Rattle.mesa_record.specs.declared.record.Files.{Files}
use Rattle.mesa_store_spec.specs.Catalog.{Delta, TableMeta, Catalog, ranges_of, start_in}
use Rattle.mesa_store_spec.specs.Fitting.{base_deltas}

-- the rows of each file, by the file's id
abbrev pub Rows : Type 0
Rows = ℕ → List Row

abbrev pub rows_if_any : Rows → Option Files → List Row
rows_if_any rows None = []
rows_if_any rows (Some f) = rows f.file.id

-- the rows of a delta, as they were written
abbrev pub rows_in : Rows → Delta → List Row
rows_in rows d = rows_if_any rows d.files

-- the rows of a delta, lifted to its table's present epoch
abbrev pub present : Rows → Lineage → Delta → List Row
present rows l d = map (lifted l d.epoch (epoch_of l)) (rows_in rows d)

-- the base and the singletons up to a version
abbrev pub deltas_to : TableMeta → ℕ → List Delta
deltas_to t version = base_deltas t.base ++ take (version + 1 - start_in t) t.singles

-- The content of a table at a version: the fold of the base and the singletons up to it, each lifted to the present epoch.
abbrev pub content : Rows → TableMeta → ℕ → List Row
content rows t version = folded (aggs_of (columns_of t.lineage)) (map (present rows t.lineage) (deltas_to t version))

-- a table with its content at each version that can be queried
abbrev pub table_of : Rows → ℕ → TableMeta → Table
table_of rows next t = record { name = t.name; lineage = t.lineage; totals = t.totals; oldest = t.oldest; contents = map (content rows t) (range_with_len t.oldest (next - t.oldest)) }

-- RefOf: what a catalogue stands for where its files have these rows: the tables with their contents, how many versions there were, and the ranges.
unfoldable pub kept_of : Rows → Catalog → Kept
kept_of rows c = record {
  store = record { tables = map (table_of rows c.next) c.tables; floor = c.floor };
  next = c.next;
  ranges = map ranges_of c.tables;
}
