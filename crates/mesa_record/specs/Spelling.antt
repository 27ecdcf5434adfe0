-- The bytes of a record: each record has one spelling in each edition that has room for it.
use Rattle.std.specs.Prelude.{ℕ, List, [], ◌∷◌, ◌++◌, Option, None, Some}
use Rattle.mesa_record_fields.specs.mesa_columns.declared.columns.KeyColumn.{KeyColumn}
use Rattle.mesa_record_fields.specs.mesa_columns.declared.columns.ValueColumn.{ValueColumn}
use Rattle.mesa_record_fields.specs.mesa_columns.declared.views.View.{View}
use Rattle.mesa_record_fields.specs.declared.edition.Edition.{Edition}
use Rattle.mesa_record_fields.specs.declared.edition.Edition.TheVariants.{First, Second, Third, Fourth}
use Rattle.mesa_record.specs.declared.record.Record.{Record}
use Rattle.mesa_record.specs.declared.record.Record.TheVariants as record_of
use Rattle.mesa_record.specs.declared.record.ViewRef.{ViewRef}
use Rattle.mesa_record.specs.declared.record.Files.{Files}
use Rattle.mesa_record.specs.declared.record.Part.{Part}
use Rattle.mesa_record.specs.declared.checkpoint.CheckpointRange.{CheckpointRange}
use Rattle.mesa_record.specs.declared.checkpoint.CheckpointSingle.{CheckpointSingle}
use Rattle.mesa_record.specs.declared.checkpoint.CheckpointTable.{CheckpointTable}
use Rattle.mesa_record.specs.declared.checkpoint.Checkpoint.{Checkpoint}
use Rattle.mesa_record.specs.declared.recasting.RecastBase.{RecastBase}
use Rattle.mesa_record.specs.declared.recasting.Recasting.{Recasting}
use Rattle.mesa_record_fields.specs.Spelling.{half, word, text, counted, sized, key_column, value_column, change, total, file_ref, flag}

-- ---- files

abbrev pub view_ref : Edition → ViewRef → List ℕ
view_ref e v = v.view ∷ file_ref e v.file

-- a table's file, and those of its views
unfoldable pub files : Edition → Files → List ℕ
files e f = file_ref e f.file ++ counted (view_ref e) f.views

-- what a table has of a batch
abbrev pub part : Edition → Part → List ℕ
part e p = half p.table ++ (word p.epoch ++ (files e p.files ++ counted (total e) p.totals))

-- files, if there are any
abbrev pub files_if_any : Edition → Option Files → List ℕ
files_if_any e None = 0 ∷ []
files_if_any e (Some f) = 1 ∷ files e f

-- ---- records

-- a table's name and columns
abbrev pub table_fields : List ℕ → List KeyColumn → List ValueColumn → List ℕ
table_fields name keys values = text name ++ (counted key_column keys ++ counted value_column values)

-- a view's name and the names of its columns
abbrev pub view_fields : List ℕ → List (List ℕ) → List (List ℕ) → List ℕ
view_fields name keys values = text name ++ (counted text keys ++ counted text values)

-- the parts of a batch, behind their number in two bytes
abbrev pub parts_fields : Edition → List Part → List ℕ
parts_fields e parts = sized half (part e) parts

-- ---- checkpoints

abbrev pub stated_view : View → List ℕ
stated_view v = view_fields v.name v.keys v.values

-- a base or a cumulative: its last version, its epoch and its files
abbrev pub stated_range : Edition → CheckpointRange → List ℕ
stated_range e r = word r.to ++ (word r.epoch ++ files_if_any e r.files)

-- a singleton with rows
unfoldable pub stated_single : Edition → CheckpointSingle → List ℕ
stated_single e s = word s.version ++ (word s.epoch ++ (files e s.files ++ counted (total e) s.totals))

-- a base, if there is one
abbrev pub base_if_any : Edition → Option CheckpointRange → List ℕ
base_if_any e None = 0 ∷ []
base_if_any e (Some r) = 1 ∷ stated_range e r

-- a table's oldest version, which the third and the fourth edition tell
abbrev pub oldest_field : Edition → ℕ → List ℕ
oldest_field First oldest = []
oldest_field Second oldest = []
oldest_field Third oldest = word oldest
oldest_field Fourth oldest = word oldest

-- a table's first epoch, which only the fourth edition tells
abbrev pub begins_field : Edition → ℕ → List ℕ
begins_field First begins = []
begins_field Second begins = []
begins_field Third begins = []
begins_field Fourth begins = word begins

-- a table's columns: the first ones and the changes since, its views, and the totals of its sum columns
unfoldable pub stated_columns : Edition → CheckpointTable → List ℕ
stated_columns e t = counted key_column t.keys ++ (counted value_column t.values ++ (sized half change t.changes ++ (counted stated_view t.views ++ counted (total e) t.totals)))

-- a table's deltas: its base, its cumulatives and its singletons with rows
unfoldable pub stated_deltas : Edition → CheckpointTable → List ℕ
stated_deltas e t = base_if_any e t.base ++ (sized word (stated_range e) t.cumulatives ++ sized word (stated_single e) t.singles)

unfoldable pub stated_table : Edition → CheckpointTable → List ℕ
stated_table e t = text t.name ++ (oldest_field e t.oldest ++ (begins_field e t.begins ++ (stated_columns e t ++ stated_deltas e t)))

-- a checkpoint's number, its last run, the floor, how many versions there were, and the tables
abbrev pub checkpoint_fields : Edition → Checkpoint → List ℕ
checkpoint_fields e k = word k.number ++ (word k.run ++ (word k.floor ++ (word k.versions ++ sized half (stated_table e) k.tables)))

-- ---- recasts

-- the base that a recast leaves, if there is one: its last version and its files
abbrev pub recast_base : RecastBase → List ℕ
recast_base b = word b.to ++ files_if_any Fourth b.files

abbrev pub recast_base_if_any : Option RecastBase → List ℕ
recast_base_if_any None = 0 ∷ []
recast_base_if_any (Some b) = 1 ∷ recast_base b

-- the table that is recast, its new epoch, and the names of its columns
unfoldable pub recast_columns : Recasting → List ℕ
recast_columns r = half r.table ++ (word r.epoch ++ (counted text r.keys ++ counted text r.values))

-- its base and its singletons with rows
unfoldable pub recast_deltas : Recasting → List ℕ
recast_deltas r = recast_base_if_any r.base ++ sized word (stated_single Fourth) r.singles

abbrev pub recasting_fields : Recasting → List ℕ
recasting_fields r = recast_columns r ++ recast_deltas r

-- ---- kinds

-- what stands for a batch, for a merged range and for a checkpoint
abbrev pub publish_kind : Edition → ℕ
publish_kind First = 5
publish_kind Second = 9
publish_kind Third = 9
publish_kind Fourth = 9

abbrev pub swap_kind : Edition → ℕ
swap_kind First = 6
swap_kind Second = 10
swap_kind Third = 10
swap_kind Fourth = 10

abbrev pub checkpoint_kind : Edition → ℕ
checkpoint_kind First = 8
checkpoint_kind Second = 11
checkpoint_kind Third = 13
checkpoint_kind Fourth = 15

-- A record of an edition is its kind, then its fields.
unfoldable pub spelled_in : Edition → Record → List ℕ
spelled_in e (record_of.Run number) = 1 ∷ word number
spelled_in e (record_of.Table name keys values) = 2 ∷ table_fields name keys values
spelled_in e (record_of.View table name keys values) = 3 ∷ (half table ++ view_fields name keys values)
spelled_in e (record_of.Alter table c) = 4 ∷ (half table ++ change c)
spelled_in e (record_of.Publish version parts) = publish_kind e ∷ (word version ++ parts_fields e parts)
spelled_in e (record_of.Swap table base from to epoch f) = swap_kind e ∷ (half table ++ (flag base ∷ (word from ++ (word to ++ (word epoch ++ files_if_any e f)))))
spelled_in e (record_of.Expire version) = 7 ∷ word version
spelled_in e (record_of.ExpireTable table version) = 12 ∷ (half table ++ word version)
spelled_in e (record_of.Checkpoint k) = checkpoint_kind e ∷ checkpoint_fields e k
spelled_in e (record_of.Recast r) = 14 ∷ recasting_fields r

-- A record is written in the fourth edition.
abbrev pub spelled : Record → List ℕ
spelled r = spelled_in Fourth r
