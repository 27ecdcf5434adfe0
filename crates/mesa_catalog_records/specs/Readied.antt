-- Records in the form in which they are taken in.
use Rattle.std.specs.Prelude.{◌≡◌, ◌<◌, List, [], ◌∷◌, map, None, IsTrue, vec_len, vec_capacity, ⊤}
use Rattle.std.specs.List.{AllByRecursion}
use Rattle.mesa_table_records.specs.mesa_columns.declared.changes.Change.{Change}
use Rattle.mesa_table_records.specs.mesa_columns.declared.changes.Change.TheVariants.{DropValue}
use Rattle.mesa_table_records.specs.mesa_columns.declared.views.View.{View}
use Rattle.mesa_schema.specs.Changes.{Lineage, columns_of, with_change}
use Rattle.mesa_schema.specs.Views.{with_view}
use Rattle.mesa_table_records.specs.mesa_batch.Totals.{totals_after, totals_with}
use Rattle.mesa_table_records.specs.mesa_record.declared.record.Record.{Record}
use Rattle.mesa_table_records.specs.mesa_record.declared.record.Record.TheVariants as record_of
use Rattle.mesa_table_records.specs.mesa_store_spec.Catalog.{Catalog, new_meta, part_delta, meta_at}
use Rattle.mesa_table_records.specs.mesa_store_spec.Fitting.{fits}
use Rattle.mesa_table_records.specs.mesa_catalog_table.declared.table.Table.{Table}
use Rattle.mesa_catalog_records.specs.declared.catalog_tables.CatalogTables.{CatalogTables}
use Rattle.mesa_catalog_records.specs.declared.ready.Ready.{Ready}
use Rattle.mesa_catalog_records.specs.declared.ready.Ready.TheVariants as ready_of
use Rattle.mesa_table_records.specs.declared.ready.ReadyPart.{ReadyPart}
use Rattle.mesa_table_records.specs.mesa_catalog_table.Room.{HasSpare, IsRoomier}
use Rattle.mesa_table_records.specs.Readied.{IsRecast, part_in, recasting_in}
use Rattle.mesa_table_records.specs.mesa_catalog_table.Meaning.{IsTable, meta_of, widths_of}
use Rattle.mesa_catalog_records.specs.Meaning.{catalogue_of}

-- the last of a list, or this one where it is empty
abbrev pub last_or : {X : Type 0} → X → List X → X
last_or x [] = x
last_or x (y ∷ ys) = last_or y ys

abbrev pub last_view : Lineage → View
last_view l = last_or (record { name = []; keys = []; values = [] }) l.views

abbrev pub last_change : Lineage → Change
last_change l = last_or (DropValue []) l.changes

-- The record that is ready to be taken in.
abbrev pub record_in : Ready → Record
record_in (ready_of.Run number) = record_of.Run number
record_in (ready_of.Table t) = record_of.Table t.name t.evolving.value.first.keys t.evolving.value.first.values
record_in (ready_of.View table e) = record_of.View table (last_view e.value).name (last_view e.value).keys (last_view e.value).values
record_in (ready_of.Alter table e widths totals) = record_of.Alter table (last_change e.value)
record_in (ready_of.Publish version parts) = record_of.Publish version (map part_in parts.items)
record_in (ready_of.Swap table base from to d) = record_of.Swap table base from to d.value.epoch d.value.files
record_in (ready_of.Expire version) = record_of.Expire version
record_in (ready_of.ExpireTable table version) = record_of.ExpireTable table version
record_in (ready_of.Recast table y) = record_of.Recast (recasting_in table y)

-- a part's delta has its totals, and beside it stand the table's totals with them
pub record IsMadePart (c : Catalog) (p : ReadyPart) : Type 0 where
  pub delta : p.delta.value ≡ part_delta (part_in p)
  pub totals : p.totals ≡ totals_with (meta_at c p.table).totals (part_in p).totals

-- the pieces of a record are made for this catalogue
abbrev pub IsMade : Catalog → Ready → Type 0
IsMade c (ready_of.Run number) = ⊤
IsMade c (ready_of.Table t) = (meta_of c.next t ≡ new_meta c t.name t.evolving.value.first) × IsTable c.next t
IsMade c (ready_of.View table e) = e.value ≡ with_view (meta_at c table).lineage (last_view e.value)
IsMade c (ready_of.Alter table e widths totals) =
    (e.value ≡ with_change (meta_at c table).lineage (last_change e.value))
    × (widths ≡ widths_of e.value)
    × (totals ≡ totals_after (columns_of (meta_at c table).lineage) (last_change e.value) (meta_at c table).totals)
IsMade c (ready_of.Publish version parts) = AllByRecursion (IsMadePart c) parts.items
IsMade c (ready_of.Swap table base from to d) = d.value.totals ≡ None
IsMade c (ready_of.Expire version) = ⊤
IsMade c (ready_of.ExpireTable table version) = ⊤
IsMade c (ready_of.Recast table y) = IsRecast (meta_at c table).lineage (meta_at c table).totals y (recasting_in table y)

-- there is room for a table more, and in each table for a delta more
pub record HasRoom (s : CatalogTables) : Type 0 where
  pub table : vec_len s.tables < vec_capacity s.tables
  pub deltas : AllByRecursion HasSpare s.tables.items

-- A record that fits, with all that it takes to take it in without memory.
pub record IsReady (s : CatalogTables) (y : Ready) : Type 0 where
  pub fits : IsTrue (fits (catalogue_of s) (record_in y))
  pub room : HasRoom s
  pub made : IsMade (catalogue_of s) y

-- ---- steps of taking in

-- each of the tables
abbrev pub AreRoomier : List Table → List Table → Type 0
AreRoomier [] [] = ⊤
AreRoomier [] (t ∷ ts) = ⊥
AreRoomier (s ∷ ss) [] = ⊥
AreRoomier (s ∷ ss) (t ∷ ts) = IsRoomier s t × AreRoomier ss ts
