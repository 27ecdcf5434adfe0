-- What every catalogue keeps, so that its checkpoint and a recast of its tables are records.
use Rattle.std.specs.Prelude.{◌≡◌, ℕ, List, length, Bool, true, nat_le, Option, IfSome}
use Rattle.std.specs.List.{AllByRecursion}
use Rattle.mesa_history_spec.specs.mesa_columns.declared.columns.KeyColumn.{KeyColumn}
use Rattle.mesa_history_spec.specs.mesa_columns.declared.columns.ValueColumn.{ValueColumn}
use Rattle.mesa_record.specs.declared.record.Files.{Files}
use Rattle.mesa_record.specs.mesa_record_fields.Rules.{IsNamed, IsTotal, IsTypedChange, is_change}
use Rattle.mesa_record.specs.Rules.{AreTypedFiles, IsTypedStatedView, are_files_if_any, is_stated_view}
use Rattle.mesa_store_spec.specs.Catalog.{Catalog, Delta, TableMeta}
use Rattle.mesa_store_spec.specs.Fitting.{deltas_of}

-- what is within its types, and keeps a rule
abbrev pub Keeps : {A : Type 0} → (A → Type 0) → (A → Bool) → A → Type 0
Keeps P p x = P x × (p x ≡ true)

-- totals of as many bits as their fields have, and no more than there may be columns
abbrev pub HasTotals : List ℕ → Type 0
HasTotals totals = AllByRecursion IsTotal totals × (nat_le (length totals) 16 ≡ true)

abbrev pub AreKept : Option Files → Type 0
AreKept files = AreTypedFiles files × (are_files_if_any files ≡ true)

abbrev pub HasFiles : Delta → Type 0
HasFiles d = AreKept d.files

abbrev pub HasCounts : Delta → Type 0
HasCounts d = IfSome d.totals HasTotals

-- A table's names, changes, views, files and totals are within the types of records' fields, and keep the rules of records.
pub record IsRecordable (t : TableMeta) : Type 0 where
  pub name : IsNamed t.name
  pub keys : AllByRecursion (λ (c : KeyColumn). IsNamed c.name) t.lineage.first.keys
  pub values : AllByRecursion (λ (c : ValueColumn). IsNamed c.name) t.lineage.first.values
  pub changes : AllByRecursion (Keeps IsTypedChange is_change) t.lineage.changes
  pub views : AllByRecursion (Keeps IsTypedStatedView is_stated_view) t.lineage.views
  pub files : AllByRecursion HasFiles (deltas_of t)
  pub counts : AllByRecursion HasCounts t.singles

-- So is each table of a catalogue.
abbrev pub AreRecordable : Catalog → Type 0
AreRecordable c = AllByRecursion IsRecordable c.tables
