-- What a catalogue is asked for.
use Rattle.std.specs.Prelude.{ℕ, ◌+◌, map, length, sum_by}
use Rattle.mesa_schema.specs.Changes.{epoch_of}
use Rattle.mesa_batch.specs.Glance.{Known, Sight}
use Rattle.mesa_catalog_records.specs.mesa_record.declared.record.Record.{Record}
use Rattle.mesa_catalog_records.specs.mesa_record.declared.record.Record.TheVariants as record_of
use Rattle.mesa_catalog_records.specs.mesa_store_spec.Catalog.{Catalog, TableMeta}
use Rattle.mesa_catalog_records.specs.mesa_catalog_table.declared.table.Table.{Table}

-- ---- the generation

-- a table counts once, each of its views once, and each of its changes and recasts once
abbrev pub changes_in : TableMeta → ℕ
changes_in t = 1 + length t.lineage.views + epoch_of t.lineage

-- the same of a table that is held
abbrev pub changes_of : Table → ℕ
changes_of t = 1 + length t.evolving.value.views + epoch_of t.evolving.value

-- Generation: how often tables, views and columns were made or changed.
abbrev pub generation_of : Catalog → ℕ
generation_of c = sum_by changes_in c.tables

-- how much the generation rises by a record: by 1 where it makes a table or a view, changes columns, or recasts a table
abbrev pub turns_generation : Record → ℕ
turns_generation (record_of.Run number) = 0
turns_generation (record_of.Table name keys values) = 1
turns_generation (record_of.View table name keys values) = 1
turns_generation (record_of.Alter table change) = 1
turns_generation (record_of.Publish version parts) = 0
turns_generation (record_of.Swap table base from to epoch files) = 0
turns_generation (record_of.Expire version) = 0
turns_generation (record_of.ExpireTable table version) = 0
turns_generation (record_of.Checkpoint k) = 0
turns_generation (record_of.Recast k) = 1

-- ---- glances

abbrev pub known_as : TableMeta → Known
known_as t = record { name = t.name; lineage = t.lineage }

-- the same of a table that is held
abbrev pub known_in : Table → Known
known_in t = record { name = t.name; lineage = t.evolving.value }

-- What a load sees of a catalogue.
abbrev pub sight_of : Catalog → Sight
sight_of c = record { generation = generation_of c; tables = map known_as c.tables }
