-- Which checkpoints fit.
use Rattle.std.specs.Prelude.{ℕ, ◌+◌, ◌%◌, List, [], ◌∷◌, map, length, flat_map, Bool, true, ◌&&◌, ◌||◌, ◌==◌, nat_le, nat_lt, is_ok, is_none, Option, Some, None}
use Rattle.std.specs.List.{list_all, count_by}
use Rattle.mesa_history_spec.specs.mesa_columns.declared.changes.Change.{Change}
use Rattle.mesa_history_spec.specs.mesa_columns.Names.{repeated}
use Rattle.mesa_history_spec.specs.mesa_columns.Columns.{Columns}
use Rattle.mesa_history_spec.specs.mesa_columns.Schema.{is_schema}
use Rattle.mesa_history_spec.specs.mesa_columns.Changes.{changed}
use Rattle.mesa_history_spec.specs.mesa_schema.Changes.{Lineage, columns_at, columns_of, epoch_of, max_changes, rule_checked}
use Rattle.mesa_history_spec.specs.mesa_schema.Views.{max_views}
use Rattle.mesa_history_spec.specs.mesa_schema.Lineages.{is_view_of}
use Rattle.mesa_commit.specs.mesa_disk.declared.area.Area.{Area}
use Rattle.mesa_commit.specs.mesa_disk.declared.area.Area.TheVariants.{Zero, One}
use Rattle.mesa_history_spec.specs.mesa_model.Warehouse.{max_tables, max_versions}
use Rattle.mesa_record.specs.declared.record.Files.{Files}
use Rattle.mesa_store_spec.specs.Catalog.{Catalog}
use Rattle.mesa_store_spec.specs.Fitting.{files_fit_if_any, has_epoch, max_runs, names_in, run_of_id, live_files, live_id}
pub use Rattle.mesa_store_spec.specs.Fitting.{totals_fit}
use Rattle.mesa_record.specs.declared.checkpoint.CheckpointRange.{CheckpointRange}
use Rattle.mesa_record.specs.declared.checkpoint.CheckpointSingle.{CheckpointSingle}
use Rattle.mesa_record.specs.declared.checkpoint.CheckpointTable.{CheckpointTable}
use Rattle.mesa_record.specs.declared.checkpoint.Checkpoint.{Checkpoint}
use Rattle.mesa_store_spec.specs.Checkpoint.{lineage_stated, start_stated, stated}

-- ---- a table's columns

abbrev pub plain : Columns → Lineage
plain s = record { begins = 0; first = s; changes = []; views = [] }

-- each change is one that the rules allow of the columns before it
abbrev pub changes_pass : Columns → List Change → Bool
changes_pass s [] = true
changes_pass s (c ∷ cs) = is_ok (rule_checked (plain s) c) && changes_pass (changed s c) cs

-- the first columns make a schema, changes and views pass their rules, and there are not too many of either
abbrev pub lineage_fits : Lineage → Bool
lineage_fits l = is_schema l.first && changes_pass l.first l.changes && nat_le (epoch_of l) max_changes && list_all (is_view_of (columns_of l)) l.views && nat_le (length l.views) max_views

-- ---- its deltas

-- the epoch is one that the table has had since it was made or recast, and files count its columns
abbrev pub delta_fits : Lineage → ℕ → Option Files → Bool
delta_fits l epoch files = has_epoch l epoch && files_fit_if_any l epoch files

abbrev pub range_fits : Lineage → ℕ → CheckpointRange → Bool
range_fits l next r = nat_lt r.to next && delta_fits l r.epoch r.files

-- a base ends before the table's oldest version or at it
abbrev pub base_fits : Lineage → ℕ → ℕ → Option CheckpointRange → Bool
base_fits l oldest next None = true
base_fits l oldest next (Some r) = nat_le r.to oldest && range_fits l next r

-- cumulatives end ten, twenty and so on versions behind a version
abbrev pub are_tens : ℕ → List CheckpointRange → Bool
are_tens start [] = true
are_tens start (r ∷ rs) = (r.to == start + 9) && are_tens (start + 10) rs

-- versions rise from one on, all below another
abbrev pub are_singles : ℕ → ℕ → List CheckpointSingle → Bool
are_singles from next [] = true
are_singles from next (s ∷ singles) = nat_le from s.version && nat_lt s.version next && are_singles (s.version + 1) next singles

-- a singleton has the totals of the columns of its epoch
abbrev pub single_fits : Lineage → CheckpointSingle → Bool
single_fits l s = delta_fits l s.epoch (Some s.files) && totals_fit (columns_at l s.epoch) s.totals

-- ---- a table

abbrev pub ranges_fit : Lineage → ℕ → CheckpointTable → Bool
ranges_fit l next t = base_fits l t.oldest next t.base && are_tens (start_stated t) t.cumulatives && list_all (range_fits l next) t.cumulatives

abbrev pub singles_fit : Lineage → ℕ → CheckpointTable → Bool
singles_fit l next t = are_singles (start_stated t) next t.singles && list_all (single_fits l) t.singles

-- a version is there, where there is any
abbrev pub oldest_fits : ℕ → ℕ → Bool
oldest_fits oldest next = nat_lt oldest next || ((oldest == 0) && (next == 0))

-- a table's oldest version is there, and isn't below the floor
abbrev pub starts_fit : ℕ → ℕ → CheckpointTable → Bool
starts_fit floor next t = nat_le floor t.oldest && oldest_fits t.oldest next

-- a table that has had these columns
abbrev pub table_fits_by : Lineage → ℕ → ℕ → CheckpointTable → Bool
table_fits_by l floor next t = lineage_fits l && totals_fit (columns_of l) t.totals && ranges_fit l next t && singles_fit l next t && starts_fit floor next t

abbrev pub table_fits : ℕ → ℕ → CheckpointTable → Bool
table_fits floor next t = table_fits_by (lineage_stated t) floor next t

-- ---- all tables

-- the ids of all files that a catalogue names, and how often an id is among some
abbrev pub ids_in : Catalog → List ℕ
ids_in c = map live_id (live_files c)

abbrev pub times_in : ℕ → List ℕ → ℕ
times_in id ids = count_by (λ n. id == n) ids

-- names differ
abbrev pub names_differ : Catalog → Bool
names_differ c = is_none (repeated (flat_map names_in c.tables))

-- each id is that of one file, and of a run up to the last one
abbrev pub ids_fit : Catalog → Bool
ids_fit c = list_all (λ id. (times_in id (ids_in c) == 1) && nat_le (run_of_id id) c.run) (ids_in c)

abbrev pub counts_fit : Checkpoint → Bool
counts_fit k = nat_le (length k.tables) max_tables && nat_le k.versions max_versions && nat_le k.run max_runs && oldest_fits k.floor k.versions

abbrev pub tables_fit : Checkpoint → Bool
tables_fit k = list_all (table_fits k.floor k.versions) k.tables && names_differ (stated k) && ids_fit (stated k)

-- a checkpoint's number is even and at least 2 in area 0, and odd in area 1
abbrev pub number_fits : Area → ℕ → Bool
number_fits Zero number = nat_le 2 number && (number % 2 == 0)
number_fits One number = number % 2 == 1

-- A checkpoint fits as the first body of an area.
abbrev pub checkpoint_fits : Area → Checkpoint → Bool
checkpoint_fits area k = number_fits area k.number && counts_fit k && tables_fit k
