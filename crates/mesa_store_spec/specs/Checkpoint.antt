-- A checkpoint: a catalogue as one record states it.
use Rattle.std.specs.Prelude.{ℕ, ◌+◌, List, [], ◌∷◌, ◌++◌, map, Option, Some, None, option_map}
use Rattle.mesa_history_spec.specs.mesa_schema.Changes.{Lineage}
use Rattle.mesa_history_spec.specs.mesa_span.Ranges.{start_behind}
use Rattle.mesa_record.specs.declared.record.Files.{Files}
use Rattle.mesa_record.specs.declared.checkpoint.CheckpointRange.{CheckpointRange}
use Rattle.mesa_record.specs.declared.checkpoint.CheckpointSingle.{CheckpointSingle}
use Rattle.mesa_record.specs.declared.checkpoint.CheckpointTable.{CheckpointTable}
use Rattle.mesa_record.specs.declared.checkpoint.Checkpoint.{Checkpoint}
use Rattle.mesa_record.specs.declared.record.Record.TheVariants as record_of
use Rattle.mesa_record.specs.Spelling.{spelled}
use Rattle.mesa_store_spec.specs.Catalog.{Delta, Ending, TableMeta, Catalog, merged_delta, start_in}
pub use Rattle.mesa_store_spec.specs.Catalog.{single_stated, singles_stated}

-- ---- what a checkpoint states

abbrev pub range_stated : CheckpointRange → Ending
range_stated r = record { to = r.to; delta = merged_delta r.epoch r.files }

abbrev pub to_stated : CheckpointRange → ℕ
to_stated r = r.to

-- the first version behind the base that is stated
abbrev pub start_stated : CheckpointTable → ℕ
start_stated t = start_behind (option_map to_stated t.base)

-- a table's columns, which are stated from its first epoch on
abbrev pub lineage_stated : CheckpointTable → Lineage
lineage_stated t = record { begins = t.begins; first = record { keys = t.keys; values = t.values }; changes = t.changes; views = t.views }

abbrev pub meta_stated : ℕ → CheckpointTable → TableMeta
meta_stated next t = record {
  name = t.name;
  lineage = lineage_stated t;
  totals = t.totals;
  oldest = t.oldest;
  base = option_map range_stated t.base;
  cumulatives = map range_stated t.cumulatives;
  singles = singles_stated (start_stated t) next t.singles;
}

-- The catalogue that a checkpoint states.
abbrev pub stated : Checkpoint → Catalog
stated k = record { tables = map (meta_stated k.versions) k.tables; floor = k.floor; next = k.versions; run = k.run }

-- ---- the checkpoint of a catalogue

abbrev pub stating_range : Ending → CheckpointRange
stating_range e = record { to = e.to; epoch = e.delta.epoch; files = e.delta.files }

abbrev pub totals_or_none : Option (List ℕ) → List ℕ
totals_or_none None = []
totals_or_none (Some totals) = totals

-- a delta of a version, where it has files
abbrev pub stating_single : ℕ → ℕ → Option (List ℕ) → Option Files → List CheckpointSingle
stating_single version epoch totals None = []
stating_single version epoch totals (Some f) = record { version = version; epoch = epoch; files = f; totals = totals_or_none totals } ∷ []

-- the singletons with rows, the first of which is of this version
abbrev pub stating_singles : ℕ → List Delta → List CheckpointSingle
stating_singles from [] = []
stating_singles from (d ∷ ds) = stating_single from d.epoch d.totals d.files ++ stating_singles (from + 1) ds

abbrev pub stating_table : TableMeta → CheckpointTable
stating_table t = record {
  name = t.name;
  oldest = t.oldest;
  begins = t.lineage.begins;
  keys = t.lineage.first.keys;
  values = t.lineage.first.values;
  changes = t.lineage.changes;
  views = t.lineage.views;
  totals = t.totals;
  base = option_map stating_range t.base;
  cumulatives = map stating_range t.cumulatives;
  singles = stating_singles (start_in t) t.singles;
}

-- The checkpoint of a catalogue, with a number.
abbrev pub checkpoint_of : ℕ → Catalog → Checkpoint
checkpoint_of number c = record { number = number; run = c.run; floor = c.floor; versions = c.next; tables = map stating_table c.tables }

-- Its body, as it is written.
abbrev pub checkpoint_body : Checkpoint → List ℕ
checkpoint_body k = spelled (record_of.Checkpoint k)
