-- In every catalogue that bodies spell, no name of a table or of a value column has a line break.
use Rattle.std.proofs.Common.{◌≡◌, ℕ, zero, suc, ◌+◌, List, [], ◌∷◌, take, drop, length, Option, Some, None, Bool, true, false, refl, sym, subst}
use Rattle.std.specs.Prelude.{unwrap_or}
use Rattle.std.specs.List.{AllByRecursion}
use Rattle.mesa_key.specs.Spelling.{AreBytes}
use Rattle.mesa_disk.specs.declared.area.Area.{Area}
use Rattle.mesa_columns.specs.declared.changes.Change.{Change}
use Rattle.mesa_columns.specs.declared.changes.Change.TheVariants.{AddKey, AddValue, DropValue}
use Rattle.mesa_columns.specs.declared.columns.ValueColumn.{ValueColumn}
use Rattle.mesa_columns.specs.Columns.{Columns, place_of, value_names}
use Rattle.mesa_columns.specs.Changes.{changed, columns_after}
use Rattle.mesa_session.specs.mesa_schema.Changes.{columns_of}
use Rattle.mesa_columns.proofs.Lists.{all_append, all_at, all_drop, all_map, all_set, all_so}
use Rattle.mesa_session.specs.mesa_schema.Recasts.{recast_values}
use Rattle.mesa_check.proofs.mesa_schema.PresentRows.{columns_more}
use Rattle.mesa_model.specs.declared.commands.Script.{Script}
use Rattle.mesa_session.specs.mesa_history_spec.Rows.{Rows}
use Rattle.mesa_engine.specs.mesa_record.declared.record.Record.{Record}
use Rattle.mesa_engine.specs.mesa_record.declared.record.Record.TheVariants as record_of
use Rattle.mesa_engine.specs.mesa_record.declared.record.Part.{Part}
use Rattle.mesa_engine.specs.mesa_record.declared.checkpoint.CheckpointTable.{CheckpointTable}
use Rattle.mesa_engine.specs.mesa_record.declared.checkpoint.Checkpoint.{Checkpoint}
use Rattle.mesa_engine.specs.mesa_record_fields.Rules.{IsNamed, IsTypedChange}
use Rattle.mesa_engine.specs.mesa_record.Rules.{IsTyped, IsTypedCheckpoint, IsTypedTable}
use Rattle.mesa_engine.specs.mesa_store_spec.Catalog.{Catalog, Delta, TableMeta, applied, new_meta, no_meta, part_of, meta_at, meta_changed, meta_from, meta_loaded, meta_recast, meta_swapped, metas_loaded, merged_delta, recast_in}
use Rattle.mesa_engine.specs.mesa_store_spec.Contents.{kept_of, table_of}
use Rattle.mesa_engine.specs.mesa_store_spec.Checkpoint.{stated, meta_stated}
use Rattle.mesa_engine.specs.mesa_store_spec.Journaled.{catalog}
use Rattle.mesa_engine.proofs.mesa_store_spec.Wholes.{whole}
use Rattle.mesa_generate.specs.Excerpt.{ArePlainColumns, HasPlainNames, IsPlainColumn, IsPlainTable}
use Rattle.mesa_generate.specs.Lines.{IsUnbroken}
use Rattle.mesa_generate.proofs.Breaks.{name_unbroken}
use Rattle.mesa_generate.proofs.Names.{chosen_plain}
use Rattle.mesa_shell.specs.StoreStart.{start_of}

-- a table's name has no line break, nor has a name of its value columns
abbrev IsPlainMeta : TableMeta → Type 0
IsPlainMeta t = IsUnbroken t.name × ArePlainColumns (columns_of t.lineage)

abbrev IsPlain : Catalog → Type 0
IsPlain c = AllByRecursion IsPlainMeta c.tables

all_take : {A : Type 0} (P : A → Type 0) (n : ℕ) (xs : List A) → AllByRecursion P xs → AllByRecursion P (take n xs)
all_take P zero xs all = tt
all_take P (suc n) [] all = tt
all_take P (suc n) (x ∷ xs) all = (all.0, all_take P n xs all.1)

changed_plain : (s : Columns) (change : Change) → IsTypedChange change → ArePlainColumns s → ArePlainColumns (changed s change)
changed_plain s (AddValue column default) typed all = all_append IsPlainColumn s.values (column ∷ []) all (name_unbroken column.name typed.0, tt)
changed_plain s (DropValue name) typed all =
    let place = unwrap_or (place_of name (value_names s)) (length s.values) in
    all_append IsPlainColumn (take place s.values) (drop (place + 1) s.values) (all_take IsPlainColumn place s.values all) (all_drop IsPlainColumn (place + 1) s.values all)
changed_plain s (AddKey column default) typed all = all

meta_plain : (c : Catalog) (table : ℕ) → IsPlain c → IsPlainMeta (meta_at c table)
meta_plain c table all = all_at IsPlainMeta c.tables table no_meta (refl, tt) all

loaded_one : (t : TableMeta) (part : Option Part) → IsPlainMeta t → IsPlainMeta (meta_loaded t part)
loaded_one t None is = is
loaded_one t (Some part) is = is

loaded_plain : (parts : List Part) (number : ℕ) (tables : List TableMeta) → AllByRecursion IsPlainMeta tables → AllByRecursion IsPlainMeta (metas_loaded parts number tables)
loaded_plain parts number [] all = tt
loaded_plain parts number (t ∷ tables) all = (loaded_one t (part_of number parts) all.0, loaded_plain parts (number + 1) tables all.1)

swapped_plain : (t : TableMeta) (base : Bool) (to : ℕ) (d : Delta) → IsPlainMeta t → IsPlainMeta (meta_swapped t base to d)
swapped_plain t true to d is = is
swapped_plain t false to d is = is

-- a record keeps that
applied_plain : (c : Catalog) (r : Record) → IsPlain c → IsTyped r → IsPlain (applied c r)
applied_plain c (record_of.Run number) is typed = is
applied_plain c (record_of.Table name keys values) is typed =
    all_append IsPlainMeta c.tables (new_meta c name (record { keys = keys; values = values }) ∷ []) is
    ((name_unbroken name typed.0, all_so (λ (v : ValueColumn). IsNamed v.name) IsPlainColumn values (λ v named. name_unbroken v.name named) typed.2), tt)
applied_plain c (record_of.View table name keys values) is typed = all_set IsPlainMeta c.tables table _ (meta_plain c table is) is
applied_plain c (record_of.Alter table change) is typed =
    let old = meta_plain c table is in
    let t : TableMeta = meta_at c table in
    all_set IsPlainMeta c.tables table (meta_changed t change) (old.0, subst ArePlainColumns (sym (columns_more t.lineage change)) (changed_plain (columns_of t.lineage) change typed.1 old.1)) is
applied_plain c (record_of.Publish version parts) is typed = loaded_plain parts 0 c.tables is
applied_plain c (record_of.Swap table base from to epoch files) is typed =
    all_set IsPlainMeta c.tables table (meta_swapped (meta_at c table) base to (merged_delta epoch files)) (swapped_plain (meta_at c table) base to (merged_delta epoch files) (meta_plain c table is)) is
applied_plain c (record_of.Expire version) is typed = all_map IsPlainMeta (meta_from version) c.tables (all_so IsPlainMeta (λ t. IsPlainMeta (meta_from version t)) c.tables (λ t its. its) is)
applied_plain c (record_of.Checkpoint k) is typed = is
applied_plain c (record_of.ExpireTable table version) is typed = all_set IsPlainMeta c.tables table (meta_from version (meta_at c table)) (meta_plain c table is) is
applied_plain c (record_of.Recast k) is typed =
    let t : TableMeta = meta_at c k.table in
    let old = meta_plain c k.table is in
    all_set IsPlainMeta c.tables k.table (meta_recast c.next t k) (old.0, chosen_plain IsPlainColumn (recast_values (columns_of t.lineage) (recast_in k)) (columns_of t.lineage).values old.1) is

-- ---- a checkpoint's tables

changes_plain : (changes : List Change) (s : Columns) → AllByRecursion IsTypedChange changes → ArePlainColumns s → ArePlainColumns (columns_after s changes)
changes_plain [] s typed is = is
changes_plain (change ∷ changes) s typed is = changes_plain changes (changed s change) typed.1 (changed_plain s change typed.0 is)

meta_stated_plain : (next : ℕ) (t : CheckpointTable) → IsTypedTable t → IsPlainMeta (meta_stated next t)
meta_stated_plain next t typed = (
  name_unbroken t.name typed.name,
  changes_plain t.changes (record { keys = t.keys; values = t.values }) typed.columns.changes (all_so (λ (v : ValueColumn). IsNamed v.name) IsPlainColumn t.values (λ v named. name_unbroken v.name named) typed.columns.values),
)

stated_plain : (k : Checkpoint) → IsTypedCheckpoint k → IsPlain (stated k)
stated_plain k typed = all_map IsPlainMeta (meta_stated k.versions) k.tables (all_so IsTypedTable (λ t. IsPlainMeta (meta_stated k.versions t)) k.tables (meta_stated_plain k.versions) typed.tables)

bodies_plain : (area : Area) (bodies : List (List ℕ)) (c : Catalog) → AllByRecursion AreBytes bodies → catalog area bodies ≡ Some c → IsPlain c
bodies_plain = whole IsPlain (λ c r is its fit. applied_plain c r is its.typed) tt (λ area k is fit. stated_plain k is.typed)

-- a run over such a catalogue starts with such names
pub start_plain : (script : Script) (c : Catalog) (rows : Rows) (area : Area) (bodies : List (List ℕ)) → AllByRecursion AreBytes bodies → catalog area bodies ≡ Some c → HasPlainNames (start_of script c rows).warehouse.store
unfolding kept_of
start_plain script c rows area bodies bytes e = all_map IsPlainTable (table_of rows c.next) c.tables (bodies_plain area bodies c bytes e)
