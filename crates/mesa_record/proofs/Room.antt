-- The fourth edition has room for every record.
use Rattle.std.proofs.Common.{ℕ, List, [], ◌∷◌, Option, Some, None}
use Rattle.std.specs.List.{AllByRecursion}
use Rattle.mesa_record_fields.specs.declared.edition.Edition.TheVariants.{Fourth}
use Rattle.mesa_record.specs.declared.record.Record.{Record}
use Rattle.mesa_record.specs.declared.record.Record.TheVariants as record_of
use Rattle.mesa_record.specs.declared.record.ViewRef.{ViewRef}
use Rattle.mesa_record.specs.declared.record.Files.{Files}
use Rattle.mesa_record.specs.declared.record.Part.{Part}
use Rattle.mesa_record.specs.declared.checkpoint.CheckpointRange.{CheckpointRange}
use Rattle.mesa_record.specs.declared.checkpoint.CheckpointSingle.{CheckpointSingle}
use Rattle.mesa_record.specs.declared.checkpoint.CheckpointTable.{CheckpointTable}
use Rattle.mesa_record.specs.Rules.{FitsBase, FitsFiles, FitsFilesIfAny, FitsIn, FitsPart, FitsRange, FitsSingle, FitsTable, FitsView}

-- what holds of each thing holds of all of a list
pub all_of : {A : Type 0} (Is : A → Type 0) → ((x : A) → Is x) → (xs : List A) → AllByRecursion Is xs
all_of Is each [] = tt
all_of Is each (x ∷ xs) = (each x, all_of Is each xs)

view_fits : (v : ViewRef) → FitsView Fourth v
view_fits v = tt

files_fit : (f : Files) → FitsFiles Fourth f
files_fit f = record { file = tt; views = all_of (FitsView Fourth) view_fits f.views }

pub files_if_any_fit : (f : Option Files) → FitsFilesIfAny Fourth f
files_if_any_fit None = tt
files_if_any_fit (Some f) = files_fit f

part_fits : (p : Part) → FitsPart Fourth p
part_fits p = record { files = files_fit p.files; totals = tt }

range_fits : (r : CheckpointRange) → FitsRange Fourth r
range_fits r = files_if_any_fit r.files

pub single_fits : (s : CheckpointSingle) → FitsSingle Fourth s
single_fits s = record { files = files_fit s.files; totals = tt }

base_fits : (o : Option CheckpointRange) → FitsBase Fourth o
base_fits None = tt
base_fits (Some r) = range_fits r

table_fits : (floor : ℕ) (t : CheckpointTable) → FitsTable Fourth floor t
table_fits floor t = record {
  oldest = tt;
  begins = tt;
  totals = tt;
  base = base_fits t.base;
  cumulatives = all_of (FitsRange Fourth) range_fits t.cumulatives;
  singles = all_of (FitsSingle Fourth) single_fits t.singles;
}

pub fits_fourth : (r : Record) → FitsIn Fourth r
fits_fourth (record_of.Run number) = tt
fits_fourth (record_of.Table name keys values) = tt
fits_fourth (record_of.View table name keys values) = tt
fits_fourth (record_of.Alter table c) = tt
fits_fourth (record_of.Publish version parts) = all_of (FitsPart Fourth) part_fits parts
fits_fourth (record_of.Swap table base from to epoch f) = files_if_any_fit f
fits_fourth (record_of.Expire version) = tt
fits_fourth (record_of.ExpireTable table version) = tt
fits_fourth (record_of.Checkpoint k) = all_of (FitsTable Fourth k.floor) (table_fits k.floor) k.tables
fits_fourth (record_of.Recast r) = tt
