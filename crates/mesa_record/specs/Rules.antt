-- Which records there are.
use Rattle.std.specs.Prelude.{◌≡◌, ℕ, ◌^◌, ◌<◌, List, length, map, IsTrue, Bool, true, ◌&&◌, nat_le, nat_lt, Option, None, Some}
use Rattle.std.specs.List.{AllByRecursion, list_all}
use Rattle.mesa_record_fields.specs.mesa_columns.declared.columns.KeyColumn.{KeyColumn}
use Rattle.mesa_record_fields.specs.mesa_columns.declared.columns.ValueColumn.{ValueColumn}
use Rattle.mesa_record_fields.specs.mesa_columns.declared.views.View.{View}
use Rattle.mesa_record_fields.specs.declared.edition.Edition.{Edition}
use Rattle.mesa_record_fields.specs.declared.edition.Edition.TheVariants.{First, Second, Third, Fourth}
use Rattle.mesa_record.specs.declared.record.Record.{Record}
use Rattle.mesa_record.specs.declared.record.Record.TheVariants as record_of
use Rattle.mesa_record.specs.declared.record.ViewRef.{ViewRef}
use Rattle.mesa_record.specs.declared.record.Files.{Files}
use Rattle.mesa_record.specs.declared.record.Part.{Part}
use Rattle.mesa_record.specs.declared.checkpoint.CheckpointRange.{CheckpointRange}
use Rattle.mesa_record.specs.declared.checkpoint.CheckpointSingle.{CheckpointSingle}
use Rattle.mesa_record.specs.declared.checkpoint.CheckpointTable.{CheckpointTable}
use Rattle.mesa_record.specs.declared.checkpoint.Checkpoint.{Checkpoint}
use Rattle.mesa_record.specs.declared.recasting.RecastBase.{RecastBase}
use Rattle.mesa_record.specs.declared.recasting.Recasting.{Recasting}
use Rattle.mesa_record_fields.specs.Rules.{is_count_of_columns, is_file_ref, rise_from, is_change, is_short, is_long, IsHalf, IsWord, IsTotal, IsNamed, IsTypedChange, IsTypedRef, FitsRef, FitsTotals}

-- ---- the rules that a record's fields keep

-- a table has at most 8 views
abbrev pub are_view_refs : List ViewRef → Bool
are_view_refs views = nat_le (length views) 8 && rise_from 0 (map (λ (v : ViewRef). v.view) views) && list_all (λ (v : ViewRef). is_file_ref v.file) views

abbrev pub are_files : Files → Bool
are_files f = is_file_ref f.file && are_view_refs f.views

abbrev pub is_part : Part → Bool
is_part p = are_files p.files && nat_le (length p.totals) 16

abbrev pub are_parts : List Part → Bool
are_parts parts = nat_lt (length parts) (2 ^ 16) && rise_from 0 (map (λ (p : Part). p.table) parts) && list_all is_part parts

abbrev pub are_files_if_any : Option Files → Bool
are_files_if_any None = true
are_files_if_any (Some f) = are_files f

abbrev pub is_stated_view : View → Bool
is_stated_view v = is_count_of_columns (length v.keys) && is_count_of_columns (length v.values)

abbrev pub is_stated_range : CheckpointRange → Bool
is_stated_range r = are_files_if_any r.files

abbrev pub is_stated_single : CheckpointSingle → Bool
is_stated_single s = are_files s.files && nat_le (length s.totals) 16

abbrev pub is_base_if_any : Option CheckpointRange → Bool
is_base_if_any None = true
is_base_if_any (Some r) = is_stated_range r

abbrev pub are_stated_columns : CheckpointTable → Bool
are_stated_columns t = is_count_of_columns (length t.keys) && is_count_of_columns (length t.values) && (is_short t.changes && list_all is_change t.changes) && (nat_le (length t.views) 8 && list_all is_stated_view t.views) && nat_le (length t.totals) 16

abbrev pub are_stated_deltas : CheckpointTable → Bool
are_stated_deltas t = is_base_if_any t.base && (is_long t.cumulatives && list_all is_stated_range t.cumulatives) && (is_long t.singles && list_all is_stated_single t.singles)

abbrev pub is_stated_table : CheckpointTable → Bool
is_stated_table t = are_stated_columns t && are_stated_deltas t

abbrev pub is_checkpoint : Checkpoint → Bool
is_checkpoint k = is_short k.tables && list_all is_stated_table k.tables

abbrev pub is_recast_base : Option RecastBase → Bool
is_recast_base None = true
is_recast_base (Some b) = are_files_if_any b.files

abbrev pub are_recast_columns : Recasting → Bool
are_recast_columns r = is_count_of_columns (length r.keys) && is_count_of_columns (length r.values)

abbrev pub are_recast_deltas : Recasting → Bool
are_recast_deltas r = is_recast_base r.base && (is_long r.singles && list_all is_stated_single r.singles)

abbrev pub is_recasting : Recasting → Bool
is_recasting r = are_recast_columns r && are_recast_deltas r

-- The rules of a record.
abbrev pub keeps_rules : Record → Bool
keeps_rules (record_of.Run number) = true
keeps_rules (record_of.Table name keys values) = is_count_of_columns (length keys) && is_count_of_columns (length values)
keeps_rules (record_of.View table name keys values) = is_count_of_columns (length keys) && is_count_of_columns (length values)
keeps_rules (record_of.Alter table c) = is_change c
keeps_rules (record_of.Publish version parts) = are_parts parts
keeps_rules (record_of.Swap table base from to epoch f) = are_files_if_any f
keeps_rules (record_of.Expire version) = true
keeps_rules (record_of.ExpireTable table version) = true
keeps_rules (record_of.Checkpoint k) = is_checkpoint k
keeps_rules (record_of.Recast r) = is_recasting r

-- ---- what the types of the fields say of them

pub record IsTypedView (v : ViewRef) : Type 0 where
  pub view : v.view < 2 ^ 8
  pub file : IsTypedRef v.file

pub record IsTypedFiles (f : Files) : Type 0 where
  pub file : IsTypedRef f.file
  pub views : AllByRecursion IsTypedView f.views

pub record IsTypedPart (p : Part) : Type 0 where
  pub table : IsHalf p.table
  pub epoch : IsWord p.epoch
  pub files : IsTypedFiles p.files
  pub totals : AllByRecursion IsTotal p.totals

abbrev pub AreTypedFiles : Option Files → Type 0
AreTypedFiles None = Unit {0}
AreTypedFiles (Some f) = IsTypedFiles f

pub record IsTypedStatedView (v : View) : Type 0 where
  pub name : IsNamed v.name
  pub keys : AllByRecursion IsNamed v.keys
  pub values : AllByRecursion IsNamed v.values

pub record IsTypedRange (r : CheckpointRange) : Type 0 where
  pub to : IsWord r.to
  pub epoch : IsWord r.epoch
  pub files : AreTypedFiles r.files

pub record IsTypedSingle (s : CheckpointSingle) : Type 0 where
  pub version : IsWord s.version
  pub epoch : IsWord s.epoch
  pub files : IsTypedFiles s.files
  pub totals : AllByRecursion IsTotal s.totals

abbrev pub IsTypedBase : Option CheckpointRange → Type 0
IsTypedBase None = Unit {0}
IsTypedBase (Some r) = IsTypedRange r

pub record AreTypedColumns (t : CheckpointTable) : Type 0 where
  pub keys : AllByRecursion (λ (c : KeyColumn). IsNamed c.name) t.keys
  pub values : AllByRecursion (λ (c : ValueColumn). IsNamed c.name) t.values
  pub changes : AllByRecursion IsTypedChange t.changes
  pub views : AllByRecursion IsTypedStatedView t.views
  pub totals : AllByRecursion IsTotal t.totals

pub record AreTypedDeltas (t : CheckpointTable) : Type 0 where
  pub base : IsTypedBase t.base
  pub cumulatives : AllByRecursion IsTypedRange t.cumulatives
  pub singles : AllByRecursion IsTypedSingle t.singles

pub record IsTypedTable (t : CheckpointTable) : Type 0 where
  pub name : IsNamed t.name
  pub oldest : IsWord t.oldest
  pub begins : IsWord t.begins
  pub columns : AreTypedColumns t
  pub deltas : AreTypedDeltas t

pub record IsTypedCheckpoint (k : Checkpoint) : Type 0 where
  pub number : IsWord k.number
  pub run : IsWord k.run
  pub floor : IsWord k.floor
  pub versions : IsWord k.versions
  pub tables : AllByRecursion IsTypedTable k.tables

abbrev pub IsTypedRecastBase : Option RecastBase → Type 0
IsTypedRecastBase None = Unit {0}
IsTypedRecastBase (Some b) = IsWord b.to × AreTypedFiles b.files

pub record AreTypedNames (r : Recasting) : Type 0 where
  pub table : IsHalf r.table
  pub epoch : IsWord r.epoch
  pub keys : AllByRecursion IsNamed r.keys
  pub values : AllByRecursion IsNamed r.values

pub record AreTypedRecast (r : Recasting) : Type 0 where
  pub base : IsTypedRecastBase r.base
  pub singles : AllByRecursion IsTypedSingle r.singles

pub record IsTypedRecasting (r : Recasting) : Type 0 where
  pub columns : AreTypedNames r
  pub deltas : AreTypedRecast r

-- Each field is within its type.
abbrev pub IsTyped : Record → Type 0
IsTyped (record_of.Run number) = IsWord number
IsTyped (record_of.Table name keys values) = IsNamed name × AllByRecursion (λ (c : KeyColumn). IsNamed c.name) keys × AllByRecursion (λ (c : ValueColumn). IsNamed c.name) values
IsTyped (record_of.View table name keys values) = IsHalf table × IsNamed name × AllByRecursion IsNamed keys × AllByRecursion IsNamed values
IsTyped (record_of.Alter table c) = IsHalf table × IsTypedChange c
IsTyped (record_of.Publish version parts) = IsWord version × AllByRecursion IsTypedPart parts
IsTyped (record_of.Swap table base from to epoch f) = IsHalf table × IsWord from × IsWord to × IsWord epoch × AreTypedFiles f
IsTyped (record_of.Expire version) = IsWord version
IsTyped (record_of.ExpireTable table version) = IsHalf table × IsWord version
IsTyped (record_of.Checkpoint k) = IsTypedCheckpoint k
IsTyped (record_of.Recast r) = IsTypedRecasting r

-- ---- what has room in an edition

-- so is a view's file
abbrev pub FitsView : Edition → ViewRef → Type 0
FitsView e v = FitsRef e v.file

pub record FitsFiles (e : Edition) (f : Files) : Type 0 where
  pub file : FitsRef e f.file
  pub views : AllByRecursion (FitsView e) f.views

pub record FitsPart (e : Edition) (p : Part) : Type 0 where
  pub files : FitsFiles e p.files
  pub totals : FitsTotals e p.totals

abbrev pub FitsFilesIfAny : Edition → Option Files → Type 0
FitsFilesIfAny e None = Unit {0}
FitsFilesIfAny e (Some f) = FitsFiles e f

abbrev pub FitsRange : Edition → CheckpointRange → Type 0
FitsRange e r = FitsFilesIfAny e r.files

pub record FitsSingle (e : Edition) (s : CheckpointSingle) : Type 0 where
  pub files : FitsFiles e s.files
  pub totals : FitsTotals e s.totals

abbrev pub FitsBase : Edition → Option CheckpointRange → Type 0
FitsBase e None = Unit {0}
FitsBase e (Some r) = FitsRange e r

-- a table's oldest version is the floor, unless the edition tells it
abbrev pub FitsOldest : Edition → ℕ → ℕ → Type 0
FitsOldest First floor oldest = oldest ≡ floor
FitsOldest Second floor oldest = oldest ≡ floor
FitsOldest Third floor oldest = Unit {0}
FitsOldest Fourth floor oldest = Unit {0}

-- a table's first epoch is 0, unless the edition tells it
abbrev pub FitsBegins : Edition → ℕ → Type 0
FitsBegins First begins = begins ≡ 0
FitsBegins Second begins = begins ≡ 0
FitsBegins Third begins = begins ≡ 0
FitsBegins Fourth begins = Unit {0}

pub record FitsTable (e : Edition) (floor : ℕ) (t : CheckpointTable) : Type 0 where
  pub oldest : FitsOldest e floor t.oldest
  pub begins : FitsBegins e t.begins
  pub totals : FitsTotals e t.totals
  pub base : FitsBase e t.base
  pub cumulatives : AllByRecursion (FitsRange e) t.cumulatives
  pub singles : AllByRecursion (FitsSingle e) t.singles

-- In the first edition files are of format 1, and aggregates and totals are numbers of 64 bits; in the first and the second one each table that a checkpoint states has the floor as its oldest version, and in all but the fourth one its first epoch is 0.
abbrev pub FitsIn : Edition → Record → Type 0
FitsIn e (record_of.Run number) = Unit {0}
FitsIn e (record_of.Table name keys values) = Unit {0}
FitsIn e (record_of.View table name keys values) = Unit {0}
FitsIn e (record_of.Alter table c) = Unit {0}
FitsIn e (record_of.Publish version parts) = AllByRecursion (FitsPart e) parts
FitsIn e (record_of.Swap table base from to epoch f) = FitsFilesIfAny e f
FitsIn e (record_of.Expire version) = Unit {0}
FitsIn e (record_of.ExpireTable table version) = Unit {0}
FitsIn e (record_of.Checkpoint k) = AllByRecursion (FitsTable e k.floor) k.tables
FitsIn e (record_of.Recast r) = Unit {0}

-- A record: its fields are within their types and keep the rules.
pub record IsRecord (r : Record) : Type 0 where
  pub typed : IsTyped r
  pub rules : IsTrue (keeps_rules r)
