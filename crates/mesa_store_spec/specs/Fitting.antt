-- Which records fit a catalogue, and the catalogue of a journal.
use Rattle.std.specs.Prelude.{ℕ, ◌+◌, ◌-◌, ◌^◌, ◌/◌, List, [], ◌∷◌, ◌++◌, map, length, flat_map, Bool, true, false, not, ◌&&◌, ◌==◌, nat_lt, nat_le, Option, Some, None, is_none, Result, Ok, Err, is_ok, slice_get}
use Rattle.std.specs.List.{list_all, list_any}
use Rattle.mesa_history_spec.specs.mesa_columns.declared.views.View.{View}
use Rattle.mesa_history_spec.specs.mesa_columns.declared.changes.Change.{Change}
use Rattle.mesa_history_spec.specs.mesa_columns.Names.{has_name}
use Rattle.mesa_history_spec.specs.mesa_columns.Columns.{Columns, aggs_of}
use Rattle.mesa_history_spec.specs.mesa_columns.Schema.{is_schema}
use Rattle.mesa_history_spec.specs.mesa_schema.Changes.{Lineage, columns_at, columns_of, epoch_of, change_checked}
use Rattle.mesa_history_spec.specs.mesa_schema.Recasts.{recast_checked, recast_lineage}
use Rattle.mesa_history_spec.specs.mesa_schema.Views.{max_views, view_checked, view_columns}
use Rattle.mesa_history_spec.specs.mesa_batch.Totals.{over_bound, sum_bound, sums_in}
use Rattle.mesa_history_spec.specs.mesa_file.declared.file_ref.FileRef.{FileRef}
use Rattle.mesa_history_spec.specs.mesa_span.declared.ranges.Ranges.{Ranges}
use Rattle.mesa_history_spec.specs.mesa_span.Ranges.{base_before, start_of}
use Rattle.mesa_history_spec.specs.mesa_span.Work.{missing_end}
use Rattle.mesa_history_spec.specs.mesa_model.Warehouse.{max_tables, max_versions}
use Rattle.mesa_record.specs.declared.record.Record.{Record}
use Rattle.mesa_record.specs.declared.record.Record.TheVariants as record_of
use Rattle.mesa_record.specs.declared.record.ViewRef.{ViewRef}
use Rattle.mesa_record.specs.declared.record.Files.{Files}
use Rattle.mesa_record.specs.declared.record.Part.{Part}
use Rattle.mesa_record.specs.declared.checkpoint.CheckpointSingle.{CheckpointSingle}
use Rattle.mesa_record.specs.declared.recasting.RecastBase.{RecastBase}
use Rattle.mesa_record.specs.declared.recasting.Recasting.{Recasting}
use Rattle.mesa_record.specs.mesa_record_fields.declared.error.RecordError.{RecordError}
use Rattle.mesa_record.specs.Reading.{record_at}
use Rattle.mesa_store_spec.specs.Catalog.{Delta, Ending, TableMeta, Catalog, base_told, ranges_of, recast_in, singles_told, start_in, meta_at, applied}
use Rattle.mesa_store_spec.specs.Checkpoint.{stating_singles}
use Rattle.mesa_store_spec.specs.SameFiles.{same_views}

-- ---- names of relations, and numbers of tables

-- a table's name, and the names of its views
abbrev pub names_in : TableMeta → List (List ℕ)
names_in t = t.name ∷ map (λ (v : View). v.name) t.lineage.views

-- no table and no view has this name
abbrev pub is_new_name : Catalog → List ℕ → Bool
is_new_name c name = not (has_name name (flat_map names_in c.tables))

-- a table of this number is there
abbrev pub is_there : Catalog → ℕ → Bool
is_there c table = nat_lt table (length c.tables)

-- ---- the files that the catalogue names, and those that a record brings

-- A file with the columns of its rows.
pub record LiveFile : Type 0 where
  pub columns : Columns
  pub file : FileRef

-- the columns of a view; none where it isn't there
abbrev pub columns_seen : Columns → Option View → Columns
columns_seen s None = record { keys = []; values = [] }
columns_seen s (Some view) = view_columns s view

-- a view's file under the view's columns, which no change touches
abbrev pub view_live : Lineage → ViewRef → LiveFile
view_live l v = record { columns = columns_seen (columns_of l) (slice_get l.views v.view); file = v.file }

-- files of an epoch: a table's under the columns of the epoch, and each view's under the view's
abbrev pub files_live : Lineage → ℕ → Option Files → List LiveFile
files_live l epoch None = []
files_live l epoch (Some f) = record { columns = columns_at l epoch; file = f.file } ∷ map (view_live l) f.views

abbrev pub base_deltas : Option Ending → List Delta
base_deltas None = []
base_deltas (Some e) = e.delta ∷ []

abbrev pub delta_in : Ending → Delta
delta_in e = e.delta

-- all deltas of a table
abbrev pub deltas_of : TableMeta → List Delta
deltas_of t = base_deltas t.base ++ (map delta_in t.cumulatives ++ t.singles)

-- the files of a delta
abbrev pub delta_live : Lineage → Delta → List LiveFile
delta_live l d = files_live l d.epoch d.files

-- the files of a table's deltas
abbrev pub meta_live : TableMeta → List LiveFile
meta_live t = flat_map (delta_live t.lineage) (deltas_of t)

-- All files that the catalogue names.
abbrev pub live_files : Catalog → List LiveFile
live_files c = flat_map meta_live c.tables

abbrev pub live_id : LiveFile → ℕ
live_id x = x.file.id

-- a delta's own file under the columns of its epoch, without its views'
abbrev pub own_live : Lineage → ℕ → Option Files → List LiveFile
own_live l epoch None = []
own_live l epoch (Some f) = record { columns = columns_at l epoch; file = f.file } ∷ []

abbrev pub delta_own : Lineage → Delta → List LiveFile
delta_own l d = own_live l d.epoch d.files

-- the files that a recast brings: the table's own, since view files are named again as they are
abbrev pub recast_live : Catalog → Recasting → List LiveFile
recast_live c k = flat_map (delta_own (recast_lineage (meta_at c k.table).lineage (recast_in k))) (base_deltas (base_told k) ++ singles_told c.next (meta_at c k.table) k)

-- the files that a batch brings to a table
abbrev pub part_live : Catalog → Part → List LiveFile
part_live c p = files_live (meta_at c p.table).lineage p.epoch (Some p.files)

-- The files that a record brings, in the order in which it names them.
abbrev pub brought : Catalog → Record → List LiveFile
brought c (record_of.Publish version parts) = flat_map (part_live c) parts
brought c (record_of.Swap table base from to epoch files) = files_live (meta_at c table).lineage epoch files
brought c (record_of.Recast k) = recast_live c k
brought c r = []

-- ---- new ids

-- whether a number is among these
abbrev pub has_number : ℕ → List ℕ → Bool
has_number n numbers = list_any (λ m. n == m) numbers

-- the run whose number stands in the upper bits of a file's id
abbrev pub run_of_id : ℕ → ℕ
run_of_id id = id / 2 ^ 40

-- the ids are of the run, differ from each other, and none is among those that are taken
abbrev pub are_new_ids : ℕ → List ℕ → List ℕ → Bool
are_new_ids run taken [] = true
are_new_ids run taken (id ∷ ids) = (run_of_id id == run) && not (has_number id taken) && are_new_ids run (id ∷ taken) ids

-- The files that a record brings have new ids, of the last run.
abbrev pub brings_new_files : Catalog → Record → Bool
brings_new_files c r = are_new_ids c.run (map live_id (live_files c)) (map live_id (brought c r))

-- ---- counts of columns

-- a reference has an aggregate for each value column
abbrev pub counts_columns : Columns → FileRef → Bool
counts_columns s f = length f.aggregates == length s.values

-- a view's file has an aggregate for each of the view's value columns; none does where the view isn't there
abbrev pub counts_view : Columns → Option View → FileRef → Bool
counts_view s None f = false
counts_view s (Some view) f = counts_columns (view_columns s view) f

-- a file is of a view that is there, and counts its columns
abbrev pub is_view_ref : Lineage → ViewRef → Bool
is_view_ref l v = counts_view (columns_of l) (slice_get l.views v.view) v.file

-- files of an epoch: each counts its columns
abbrev pub files_fit : Lineage → ℕ → Files → Bool
files_fit l epoch f = counts_columns (columns_at l epoch) f.file && list_all (is_view_ref l) f.views

abbrev pub files_fit_if_any : Lineage → ℕ → Option Files → Bool
files_fit_if_any l epoch None = true
files_fit_if_any l epoch (Some f) = files_fit l epoch f

-- totals for the sum columns of some columns, none past 2^127 - 1
abbrev pub totals_fit : Columns → List ℕ → Bool
totals_fit s totals = (length totals == sums_in (aggs_of s)) && list_all (λ total. nat_lt total sum_bound) totals

-- an epoch that a table has had since it was made or recast
abbrev pub has_epoch : Lineage → ℕ → Bool
has_epoch l epoch = nat_le l.begins epoch && nat_le epoch (epoch_of l)

-- ---- the rules of each kind

-- the number of the last run that there may be: it stands in 24 bits of its files' ids
abbrev pub max_runs : ℕ
max_runs = 2 ^ 24 - 1

-- a run's number is one more than the last
abbrev pub run_fits : Catalog → ℕ → Bool
run_fits c number = (number == c.run + 1) && nat_le number max_runs

-- a table's name is new, its columns make a schema, and there is room for it
abbrev pub table_fits : Catalog → List ℕ → Columns → Bool
table_fits c name s = is_new_name c name && is_schema s && nat_lt (length c.tables) max_tables

-- a view's table is there, its name is new, its table's columns allow it, and there is room for it
abbrev pub view_fits : Catalog → ℕ → List ℕ → List (List ℕ) → List (List ℕ) → Bool
view_fits c table name keys values =
    is_there c table && is_new_name c name && is_ok (view_checked (columns_of (meta_at c table).lineage) keys values)
    && nat_lt (length (meta_at c table).lineage.views) max_views

-- a change's table is there, and the rules allow it
abbrev pub alter_fits : Catalog → ℕ → Change → Bool
alter_fits c table change = is_there c table && is_ok (change_checked (meta_at c table).lineage change)

-- what a batch brings to a table has its present epoch, files that count its columns, and a total for each sum column, with which none of the table's totals passes 2^127 - 1
abbrev pub part_fits : TableMeta → Part → Bool
part_fits t p =
    (p.epoch == epoch_of t.lineage) && files_fit t.lineage p.epoch p.files && (length p.totals == sums_in (aggs_of (columns_of t.lineage)))
    && is_none (over_bound t.totals p.totals)

-- a batch is the next version, and each of its parts is of a table that is there, which it fits
abbrev pub publish_fits : Catalog → ℕ → List Part → Bool
publish_fits c version parts =
    (version == c.next) && nat_lt version max_versions && list_all (λ (p : Part). is_there c p.table && part_fits (meta_at c p.table) p) parts

-- Work may give a base to this version, at the table's present oldest version or when a lesser one was the oldest: it is behind the present base, not the first version, and at most the oldest.
abbrev pub may_be_base : Ranges → ℕ → ℕ → ℕ → Bool
may_be_base r oldest from to = (from == 0) && nat_le 1 to && nat_le (start_of r) to && nat_le to oldest

abbrev pub is_number : Option ℕ → ℕ → Bool
is_number None n = false
is_number (Some m) n = m == n

-- Work may give this cumulative, at an oldest version that asks for no base: it is the first one that isn't there.
abbrev pub may_be_cumulative : Ranges → ℕ → ℕ → ℕ → Bool
may_be_cumulative r next from to = (from == start_of r) && is_number (missing_end (start_of r) r.cumulatives (base_before next)) to

-- work may give this range, of a base or of a cumulative
abbrev pub may_be_work : Catalog → TableMeta → Bool → ℕ → ℕ → Bool
may_be_work c t true from to = may_be_base (ranges_of t) t.oldest from to
may_be_work c t false from to = may_be_cumulative (ranges_of t) c.next from to

-- a merged range is one that work may give, of an epoch that its table has had since it was made or recast, with files that count its columns
abbrev pub swap_fits : Catalog → TableMeta → Bool → ℕ → ℕ → ℕ → Option Files → Bool
swap_fits c t base from to epoch files = may_be_work c t base from to && has_epoch t.lineage epoch && files_fit_if_any t.lineage epoch files

-- Files take the place of others, of columns that begin with this epoch: there are some where there were some, they count the columns, and the view files are those that were there.
abbrev pub files_renewed : Lineage → ℕ → Option Files → Option Files → Bool
files_renewed l epoch None None = true
files_renewed l epoch None (Some new) = false
files_renewed l epoch (Some old) None = false
files_renewed l epoch (Some old) (Some new) = same_views old.views new.views && files_fit l epoch new

-- a base takes the place of a base with the same end
abbrev pub base_renewed : Lineage → ℕ → Option Ending → Option RecastBase → Bool
base_renewed l epoch None None = true
base_renewed l epoch None (Some b) = false
base_renewed l epoch (Some e) None = false
base_renewed l epoch (Some e) (Some b) = (e.to == b.to) && files_renewed l epoch e.delta.files b.files

-- a singleton takes the place of one of the same version, and has a total for each sum column of the new columns
abbrev pub single_renewed : Lineage → ℕ → CheckpointSingle → CheckpointSingle → Bool
single_renewed l epoch old new = (old.version == new.version) && (new.epoch == epoch) && files_renewed l epoch (Some old.files) (Some new.files) && totals_fit (columns_at l epoch) new.totals

-- singletons with rows take the places of singletons with rows, one of each
abbrev pub singles_renewed : Lineage → ℕ → List CheckpointSingle → List CheckpointSingle → Bool
singles_renewed l epoch [] [] = true
singles_renewed l epoch [] (new ∷ news) = false
singles_renewed l epoch (old ∷ olds) [] = false
singles_renewed l epoch (old ∷ olds) (new ∷ news) = single_renewed l epoch old new && singles_renewed l epoch olds news

-- the ranges of a recast are a table's base and its singletons with rows
abbrev pub ranges_renewed : Lineage → TableMeta → Recasting → Bool
ranges_renewed l t k = base_renewed l k.epoch t.base k.base && singles_renewed l k.epoch (stating_singles (start_in t) t.singles) k.singles

-- a recast passes the rules of recasts, begins the next epoch, and tells all ranges of its table
abbrev pub recast_fits : TableMeta → Recasting → Bool
recast_fits t k = is_ok (recast_checked t.lineage (recast_in k)) && (k.epoch == epoch_of t.lineage + 1) && ranges_renewed (recast_lineage t.lineage (recast_in k)) t k

-- a version from this one to the newest
abbrev pub expire_fits : Catalog → ℕ → ℕ → Bool
expire_fits c oldest version = nat_le oldest version && nat_lt version c.next

-- the rules of a record's own kind; a checkpoint fits behind none
abbrev pub kind_fits : Catalog → Record → Bool
kind_fits c (record_of.Run number) = run_fits c number
kind_fits c (record_of.Table name keys values) = table_fits c name (record { keys = keys; values = values })
kind_fits c (record_of.View table name keys values) = view_fits c table name keys values
kind_fits c (record_of.Alter table change) = alter_fits c table change
kind_fits c (record_of.Publish version parts) = publish_fits c version parts
kind_fits c (record_of.Swap table base from to epoch files) = is_there c table && swap_fits c (meta_at c table) base from to epoch files
kind_fits c (record_of.Expire version) = expire_fits c c.floor version
kind_fits c (record_of.ExpireTable table version) = is_there c table && expire_fits c (meta_at c table).oldest version
kind_fits c (record_of.Checkpoint k) = false
kind_fits c (record_of.Recast k) = is_there c k.table && recast_fits (meta_at c k.table) k

-- A record fits what stands before it: it keeps the rules of its kind, and its files are new.
unfoldable pub fits : Catalog → Record → Bool
fits c r = kind_fits c r && brings_new_files c r

-- ---- the catalogue of a journal

-- the catalogue after a record, if it fits
abbrev pub applied_if : Catalog → Record → Bool → Option Catalog
applied_if c r true = Some (applied c r)
applied_if c r false = None

-- the catalogue after what a body spells, if that is a record, and fits
abbrev pub read_record : Catalog → Result Record RecordError → Option Catalog
read_record c (Ok r) = applied_if c r (fits c r)
read_record c (Err e) = None

-- the catalogue after a body
abbrev pub with_body : Catalog → List ℕ → Option Catalog
with_body c body = read_record c (record_at body)

abbrev pub then_bodies : Option Catalog → (Catalog → Option Catalog) → Option Catalog
then_bodies None rest = None
then_bodies (Some c) rest = rest c

-- the catalogue after bodies, one after the other
unfoldable pub catalog_from : Catalog → List (List ℕ) → Option Catalog
catalog_from c [] = Some c
catalog_from c (body ∷ bodies) = then_bodies (with_body c body) (λ d. catalog_from d bodies)
