-- The files that a catalogue names, and those that a record brings, by their ids.
use Rattle.std.specs.Prelude.{◌≡◌, ℕ, ◌<◌, List, [], ◌∷◌, ◌++◌, map, flat_map, Bool, ◌==◌, ◌&&◌, not, Option, Some, None}
use Rattle.mesa_table_records.specs.mesa_record.declared.record.Part.{Part}
use Rattle.mesa_table_records.specs.mesa_record.declared.record.Record.{Record}
use Rattle.mesa_table_records.specs.mesa_record.declared.record.Record.TheVariants as record_of
use Rattle.mesa_table_records.specs.mesa_record.declared.checkpoint.CheckpointSingle.{CheckpointSingle}
use Rattle.mesa_table_records.specs.mesa_record.declared.recasting.RecastBase.{RecastBase}
use Rattle.mesa_table_records.specs.mesa_record.declared.recasting.Recasting.{Recasting}
use Rattle.mesa_table_records.specs.mesa_store_spec.Fitting.{has_number, run_of_id}
use Rattle.mesa_table_records.specs.mesa_store_spec.Ids.{times}
use Rattle.mesa_table_records.specs.mesa_catalog_table.Named.{file_ids, ids_if_any, own_if_any, table_ids}
use Rattle.mesa_catalog_records.specs.declared.catalog_tables.CatalogTables.{CatalogTables}

-- The ids of all files that are held.
abbrev pub held_ids : CatalogTables → List ℕ
held_ids s = flat_map table_ids s.tables.items

abbrev pub part_ids : Part → List ℕ
part_ids p = file_ids p.files

-- the ids of the files that a recast brings: the table's own, since its views' files stay
abbrev pub recast_base_ids : Option RecastBase → List ℕ
recast_base_ids None = []
recast_base_ids (Some b) = own_if_any b.files

abbrev pub told_id : CheckpointSingle → ℕ
told_id s = s.files.file.id

abbrev pub recast_ids : Recasting → List ℕ
recast_ids k = recast_base_ids k.base ++ map told_id k.singles

-- The ids of the files that a record brings, in the order in which it names them.
abbrev pub ids_brought : Record → List ℕ
ids_brought (record_of.Run number) = []
ids_brought (record_of.Table name keys values) = []
ids_brought (record_of.View table name keys values) = []
ids_brought (record_of.Alter table change) = []
ids_brought (record_of.Publish version parts) = flat_map part_ids parts
ids_brought (record_of.Swap table base from to epoch files) = ids_if_any files
ids_brought (record_of.Expire version) = []
ids_brought (record_of.ExpireTable table version) = []
ids_brought (record_of.Checkpoint k) = []
ids_brought (record_of.Recast k) = recast_ids k

-- ---- new ids

-- an id of the run that isn't taken, and that stands once among those that are brought
abbrev pub is_once_new : ℕ → List ℕ → List ℕ → ℕ → Bool
is_once_new run taken ids id = (run_of_id id == run) && not (has_number id taken) && (times id ids == 1)

-- the ids are of the run, and rise from one that they are above to the last of them
abbrev pub RiseTo : ℕ → ℕ → List ℕ → ℕ → Type 0
RiseTo run above [] last = last ≡ above
RiseTo run above (id ∷ ids) last = (run_of_id id ≡ run) × (above < id) × RiseTo run id ids last
