-- What a file is found to be.
use Rattle.std.specs.Prelude.{◌≡◌, ℕ, List, Bool, true, false, map, Option, Some, None, Result, Ok, Err}
use Rattle.mesa_open_files.specs.mesa_columns.declared.rows.Row.{Row}
use Rattle.mesa_open_files.specs.mesa_columns.Columns.{Columns}
use Rattle.mesa_open_files.specs.mesa_columns.Lifting.{lifted_with}
use Rattle.mesa_open_files.specs.mesa_columns.declared.lifting.Lift.{Lift}
use Rattle.mesa_open_files.specs.mesa_batch.Totals.{abs_totals}
use Rattle.mesa_open_files.specs.mesa_file.declared.file_ref.FileRef.{FileRef}
use Rattle.mesa_disk.specs.Image.{Image, file_of}
use Rattle.mesa_open_files.specs.mesa_delta_format.File.{IsFile, file_bytes}
use Rattle.mesa_open_files.specs.mesa_delta_format.Summary.{IsReferenceOf}
use Rattle.mesa_open_files.specs.Opening.{wanted_layout}
use Rattle.mesa_open_files.specs.declared.opening.Wanted.{Wanted}
use Rattle.mesa_examine.specs.Sums.{AreSumsOf, counted}
use Rattle.mesa_examine.specs.Tallies.{IsToldOf}
use Rattle.mesa_examine.specs.declared.error.CheckError.{CheckError}
use Rattle.mesa_examine.specs.declared.error.CheckError.TheVariants as check_error
use Rattle.mesa_examine.specs.declared.totals.Sums.{Sums}

-- The sums are those of these rows of a wanted file.
abbrev pub AreSumsIn : Wanted → List Row → Sums → Type 0
AreSumsIn w rows sums = AreSumsOf w.evolving.now.value w.epoch rows sums

-- An image has a wanted file, of which the reference is true, and its rows add up to these sums; or what it has, if anything, is no file of the reference.
abbrev pub IsExaminedAs : Image → Wanted → Option Sums → Type 0
IsExaminedAs i w (Some sums) =
    (rows : List Row) × (file_of i w.file.now.id ≡ Some (file_bytes (wanted_layout w) rows)) × IsFile (wanted_layout w) rows (file_bytes (wanted_layout w) rows)
    × IsReferenceOf (wanted_layout w) w.file.now.id rows w.file.now × AreSumsIn w rows sums
IsExaminedAs i w None = (b : List ℕ) (rows : List Row) → file_of i w.file.now.id ≡ Some b → IsFile (wanted_layout w) rows b → IsReferenceOf (wanted_layout w) w.file.now.id rows w.file.now → ⊥

-- The reference tells these rows, and the sums are those of the rows and of the rows as they are lifted to the present columns; or it doesn't.
abbrev pub AreJudged : Columns → Columns → Lift → FileRef → List Row → Option Sums → Type 0
AreJudged own present lift file rows (Some sums) = IsToldOf own rows file × (sums.own ≡ counted (abs_totals own rows)) × (sums.present ≡ counted (abs_totals present (map (lifted_with lift) rows)))
AreJudged own present lift file rows None = IsToldOf own rows file → ⊥

-- a file was not read
abbrev pub is_read_failure : {T : Type 0} → Result T CheckError → Bool
is_read_failure (Ok x) = false
is_read_failure (Err check_error.Read) = true
is_read_failure (Err check_error.Memory) = false
