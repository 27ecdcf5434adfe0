-- Reading a record: its fields from the left, each first for being whole and then for its meaning.
use Rattle.std.specs.Prelude.{ℕ, List, length, Bool, true, false, ◌==◌, nat_le, if◌then◌else◌, Option, None, Some, Result, Ok, Err}
use Rattle.mesa_record_fields.specs.mesa_list.Checks.{◌>>=◌}
use Rattle.mesa_record_fields.specs.mesa_key.declared.KeyType.TheVariants as kind
use Rattle.mesa_record_fields.specs.mesa_columns.declared.views.View.{View}
use Rattle.mesa_record_fields.specs.declared.edition.Edition.{Edition}
use Rattle.mesa_record_fields.specs.declared.edition.Edition.TheVariants.{First, Second, Third, Fourth}
use Rattle.mesa_record_fields.specs.declared.error.RecordError.{RecordError}
use Rattle.mesa_record_fields.specs.declared.error.RecordError.TheVariants as fault
use Rattle.mesa_record.specs.declared.record.Record.{Record}
use Rattle.mesa_record.specs.declared.record.Record.TheVariants as record_of
use Rattle.mesa_record.specs.declared.record.ViewRef.{ViewRef}
use Rattle.mesa_record.specs.declared.record.Files.{Files}
use Rattle.mesa_record.specs.declared.record.Part.{Part}
use Rattle.mesa_record.specs.declared.checkpoint.CheckpointRange.{CheckpointRange}
use Rattle.mesa_record.specs.declared.checkpoint.CheckpointSingle.{CheckpointSingle}
use Rattle.mesa_record.specs.declared.checkpoint.CheckpointTable.{CheckpointTable}
use Rattle.mesa_record.specs.declared.checkpoint.StatedColumns.{StatedColumns}
use Rattle.mesa_record.specs.declared.checkpoint.StatedDeltas.{StatedDeltas}
use Rattle.mesa_record.specs.declared.checkpoint.Checkpoint.{Checkpoint}
use Rattle.mesa_record.specs.declared.recasting.RecastBase.{RecastBase}
use Rattle.mesa_record.specs.declared.recasting.Recasting.{Recasting}
use Rattle.mesa_record_fields.specs.Reading.{Left, Read, byte_at, half_at, word_at, ruled, meaning, name_at, count_at, rising, many, sized_at, flag_of, change_at, file_ref_at, totals_at, key_columns_at, value_columns_at, names_at}

-- ---- files

-- a view's file, its number at least this one
abbrev pub view_ref_at : Edition → ℕ → Left → Read ViewRef
view_ref_at e least l = ruled (nat_le least) byte_at l >>= λ view. file_ref_at e view.1 >>= λ f. Ok (record { view = view.0; file = f.0 }, f.1)

abbrev pub view_number : ViewRef → ℕ
view_number v = v.view

abbrev pub view_refs_at : Edition → Left → Read (List ViewRef)
view_refs_at e l = count_at 8 l >>= λ n. rising view_number (view_ref_at e) 0 n.0 n.1

-- a table's file, and those of its views
unfoldable pub files_at : Edition → Left → Read Files
files_at e l = file_ref_at e l >>= λ f. view_refs_at e f.1 >>= λ views. Ok (record { file = f.0; views = views.0 }, views.1)

-- what a table has of a batch, its number at least this one
abbrev pub part_at : Edition → ℕ → Left → Read Part
part_at e least l = do
  table ← ruled (nat_le least) half_at l
  epoch ← word_at table.1
  files ← files_at e epoch.1
  totals ← totals_at e files.1
  Ok (record { table = table.0; epoch = epoch.0; files = files.0; totals = totals.0 }, totals.1)

abbrev pub part_number : Part → ℕ
part_number p = p.table

-- files, if there are any
abbrev pub files_if : Edition → Bool → Left → Read (Option Files)
files_if e false l = Ok (None, l)
files_if e true l = files_at e l >>= λ f. Ok (Some f.0, f.1)

abbrev pub files_if_any_at : Edition → Left → Read (Option Files)
files_if_any_at e l = meaning flag_of l >>= λ some. files_if e some.0 some.1

-- ---- records

abbrev pub run_at : Left → Read Record
run_at l = word_at l >>= λ number. Ok (record_of.Run number.0, number.1)

abbrev pub table_at : Left → Read Record
table_at l = do
  name ← name_at l
  keys ← key_columns_at name.1
  values ← value_columns_at keys.1
  Ok (record_of.Table name.0 keys.0 values.0, values.1)

abbrev pub view_at : Left → Read Record
view_at l = do
  table ← half_at l
  name ← name_at table.1
  keys ← names_at name.1
  values ← names_at keys.1
  Ok (record_of.View table.0 name.0 keys.0 values.0, values.1)

abbrev pub alter_at : Left → Read Record
alter_at l = half_at l >>= λ table. change_at table.1 >>= λ c. Ok (record_of.Alter table.0 c.0, c.1)

abbrev pub publish_at : Edition → Left → Read Record
publish_at e l = do
  version ← word_at l
  count ← half_at version.1
  parts ← rising part_number (part_at e) 0 count.0 count.1
  Ok (record_of.Publish version.0 parts.0, parts.1)

abbrev pub swap_at : Edition → Left → Read Record
swap_at e l = do
  table ← half_at l
  base ← meaning flag_of table.1
  from ← word_at base.1
  to ← word_at from.1
  epoch ← word_at to.1
  files ← files_if_any_at e epoch.1
  Ok (record_of.Swap table.0 base.0 from.0 to.0 epoch.0 files.0, files.1)

abbrev pub expire_at : Left → Read Record
expire_at l = word_at l >>= λ version. Ok (record_of.Expire version.0, version.1)

abbrev pub expire_table_at : Left → Read Record
expire_table_at l = half_at l >>= λ table. word_at table.1 >>= λ version. Ok (record_of.ExpireTable table.0 version.0, version.1)

-- ---- checkpoints

abbrev pub stated_view_at : Left → Read View
stated_view_at l = do
  name ← name_at l
  keys ← names_at name.1
  values ← names_at keys.1
  Ok (record { name = name.0; keys = keys.0; values = values.0 }, values.1)

abbrev pub stated_views_at : Left → Read (List View)
stated_views_at l = count_at 8 l >>= λ n. many stated_view_at n.0 n.1

-- a base or a cumulative
abbrev pub stated_range_at : Edition → Left → Read CheckpointRange
stated_range_at e l = do
  to ← word_at l
  epoch ← word_at to.1
  files ← files_if_any_at e epoch.1
  Ok (record { to = to.0; epoch = epoch.0; files = files.0 }, files.1)

-- a singleton with rows
unfoldable pub stated_single_at : Edition → Left → Read CheckpointSingle
stated_single_at e l = do
  version ← word_at l
  epoch ← word_at version.1
  files ← files_at e epoch.1
  totals ← totals_at e files.1
  Ok (record { version = version.0; epoch = epoch.0; files = files.0; totals = totals.0 }, totals.1)

-- a base, if there is one
abbrev pub base_if : Edition → Bool → Left → Read (Option CheckpointRange)
base_if e false l = Ok (None, l)
base_if e true l = stated_range_at e l >>= λ r. Ok (Some r.0, r.1)

abbrev pub base_if_any_at : Edition → Left → Read (Option CheckpointRange)
base_if_any_at e l = meaning flag_of l >>= λ some. base_if e some.0 some.1

-- a table's oldest version: where the edition has no field for it, it is the floor
abbrev pub oldest_at : Edition → ℕ → Left → Read ℕ
oldest_at First floor l = Ok (floor, l)
oldest_at Second floor l = Ok (floor, l)
oldest_at Third floor l = word_at l
oldest_at Fourth floor l = word_at l

-- a table's first epoch: where the edition has no field for it, it is 0
abbrev pub begins_at : Edition → Left → Read ℕ
begins_at First l = Ok (0, l)
begins_at Second l = Ok (0, l)
begins_at Third l = Ok (0, l)
begins_at Fourth l = word_at l

-- a table's columns: the first ones and the changes since, its views, and the totals of its sum columns
unfoldable pub stated_columns_at : Edition → Left → Read StatedColumns
stated_columns_at e l = do
  keys ← key_columns_at l
  values ← value_columns_at keys.1
  changes ← sized_at half_at change_at values.1
  views ← stated_views_at changes.1
  totals ← totals_at e views.1
  Ok (record { keys = keys.0; values = values.0; changes = changes.0; views = views.0; totals = totals.0 }, totals.1)

-- a table's deltas: its base, its cumulatives and its singletons with rows
unfoldable pub stated_deltas_at : Edition → Left → Read StatedDeltas
stated_deltas_at e l = do
  base ← base_if_any_at e l
  cumulatives ← sized_at word_at (stated_range_at e) base.1
  singles ← sized_at word_at (stated_single_at e) cumulatives.1
  Ok (record { base = base.0; cumulatives = cumulatives.0; singles = singles.0 }, singles.1)

-- a table's columns and deltas, and the table of them
abbrev pub columns_in : CheckpointTable → StatedColumns
columns_in t = record { keys = t.keys; values = t.values; changes = t.changes; views = t.views; totals = t.totals }

abbrev pub deltas_in : CheckpointTable → StatedDeltas
deltas_in t = record { base = t.base; cumulatives = t.cumulatives; singles = t.singles }

abbrev pub stated_of : List ℕ → ℕ → ℕ → StatedColumns → StatedDeltas → CheckpointTable
stated_of name oldest begins c d = record { name = name; oldest = oldest; begins = begins; keys = c.keys; values = c.values; changes = c.changes; views = c.views; totals = c.totals; base = d.base; cumulatives = d.cumulatives; singles = d.singles }

-- a table, where this is the floor
unfoldable pub stated_table_at : Edition → ℕ → Left → Read CheckpointTable
stated_table_at e floor l = do
  name ← name_at l
  oldest ← oldest_at e floor name.1
  begins ← begins_at e oldest.1
  columns ← stated_columns_at e begins.1
  deltas ← stated_deltas_at e columns.1
  Ok (stated_of name.0 oldest.0 begins.0 columns.0 deltas.0, deltas.1)

-- the fields of a checkpoint
unfoldable pub stated_at : Edition → Left → Read Checkpoint
stated_at e l = do
  number ← word_at l
  run ← word_at number.1
  floor ← word_at run.1
  versions ← word_at floor.1
  tables ← sized_at half_at (stated_table_at e floor.0) versions.1
  Ok (record { number = number.0; run = run.0; floor = floor.0; versions = versions.0; tables = tables.0 }, tables.1)

abbrev pub checkpoint_at : Edition → Left → Read Record
checkpoint_at e l = stated_at e l >>= λ k. Ok (record_of.Checkpoint k.0, k.1)

-- ---- recasts

-- the base that a recast leaves, if there is one
abbrev pub recast_base_at : Left → Read RecastBase
recast_base_at l = word_at l >>= λ to. files_if_any_at Fourth to.1 >>= λ f. Ok (record { to = to.0; files = f.0 }, f.1)

abbrev pub recast_base_if : Bool → Left → Read (Option RecastBase)
recast_base_if false l = Ok (None, l)
recast_base_if true l = recast_base_at l >>= λ b. Ok (Some b.0, b.1)

abbrev pub recast_base_if_any_at : Left → Read (Option RecastBase)
recast_base_if_any_at l = meaning flag_of l >>= λ some. recast_base_if some.0 some.1

-- what a recast makes of a table
unfoldable pub recasting_at : Left → Read Recasting
recasting_at l = do
  table ← half_at l
  epoch ← word_at table.1
  keys ← names_at epoch.1
  values ← names_at keys.1
  base ← recast_base_if_any_at values.1
  singles ← sized_at word_at (stated_single_at Fourth) base.1
  Ok (record { table = table.0; epoch = epoch.0; keys = keys.0; values = values.0; base = base.0; singles = singles.0 }, singles.1)

abbrev pub recast_at : Left → Read Record
recast_at l = recasting_at l >>= λ r. Ok (record_of.Recast r.0, r.1)

-- ---- kinds

-- the fields of a record, by its kind, which stood at a place
unfoldable pub fields_of : ℕ → ℕ → Left → Read Record
fields_of at b l =
    if b == 1 then run_at l
    else if b == 2 then table_at l
    else if b == 3 then view_at l
    else if b == 4 then alter_at l
    else if b == 5 then publish_at First l
    else if b == 6 then swap_at First l
    else if b == 7 then expire_at l
    else if b == 8 then checkpoint_at First l
    else if b == 9 then publish_at Second l
    else if b == 10 then swap_at Second l
    else if b == 11 then checkpoint_at Second l
    else if b == 12 then expire_table_at l
    else if b == 13 then checkpoint_at Third l
    else if b == 14 then recast_at l
    else if b == 15 then checkpoint_at Fourth l
    else Err (fault.BadKind at)

-- a record that nothing may follow
abbrev pub ended : Record × Left → Result Record RecordError
ended x = if length x.1.bytes == 0 then Ok x.0 else Err (fault.Trailing x.1.at)

-- The record that bytes spell, or the first fault from the left.
abbrev pub record_at : List ℕ → Result Record RecordError
record_at bytes = byte_at (record { at = 0; bytes = bytes }) >>= λ kind. fields_of 0 kind.0 kind.1 >>= ended
