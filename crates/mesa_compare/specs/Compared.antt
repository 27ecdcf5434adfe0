-- Files that are compared, and what they are to have.
use Rattle.std.specs.Prelude.{◌≡◌, ℕ, List, [], ◌∷◌, ◌++◌, map, Option, None, Some, Result, Ok, Err, IsTrue, ⊤}
use Rattle.mesa_schema.specs.mesa_columns.declared.rows.Row.{Row}
use Rattle.mesa_schema.specs.Changes.{columns_of, epoch_of, lifted}
use Rattle.mesa_schema.specs.mesa_columns.Columns.{Columns}
use Rattle.mesa_schema.specs.mesa_columns.Rows.{keys_rise}
use Rattle.mesa_disk.specs.Image.{Image, file_of}
use Rattle.mesa_examine.specs.mesa_delta_format.File.{IsFile, file_bytes}
use Rattle.mesa_examine.specs.mesa_delta_format.Summary.{IsReferenceOf}
use Rattle.mesa_examine.specs.mesa_delta.declared.error.FileError.{FileError}
use Rattle.mesa_examine.specs.mesa_delta.declared.error.FileError.TheVariants as file_error
use Rattle.mesa_examine.specs.mesa_open_files.Opening.{wanted_layout}
use Rattle.mesa_examine.specs.mesa_open_files.declared.opening.Wanted.{Wanted}
use Rattle.mesa_compare.specs.Difference.{first_difference, next_of}
use Rattle.mesa_examine.specs.declared.error.CheckError.{CheckError}
use Rattle.mesa_examine.specs.declared.error.CheckError.TheVariants as check_error

-- An image has the wanted file: it is the file of these rows, of which the reference is true.
abbrev pub HasFile : Image → Wanted → List Row → Type 0
HasFile i w rows =
    (file_of i w.file.now.id ≡ Some (file_bytes (wanted_layout w) rows)) × IsFile (wanted_layout w) rows (file_bytes (wanted_layout w) rows) × IsReferenceOf (wanted_layout w) w.file.now.id rows w.file.now

-- each of these files
abbrev pub HaveFiles : Image → List Wanted → List (List Row) → Type 0
HaveFiles i [] [] = ⊤
HaveFiles i [] (rows ∷ contents) = ⊥
HaveFiles i (w ∷ ws) [] = ⊥
HaveFiles i (w ∷ ws) (rows ∷ contents) = HasFile i w rows × HaveFiles i ws contents

-- a file that may be left out, where there are no rows
abbrev pub HasFileIfAny : Image → Option Wanted → List Row → Type 0
HasFileIfAny i None rows = rows ≡ []
HasFileIfAny i (Some w) rows = HasFile i w rows

-- a wanted file's rows are lifted to these columns
abbrev pub IsLiftedTo : Columns → Wanted → Type 0
IsLiftedTo s w = columns_of w.evolving.now.value ≡ s

-- the rows of a wanted file at present
abbrev pub present_rows : Wanted → List Row → List Row
present_rows w rows = map (lifted w.evolving.now.value w.epoch (epoch_of w.evolving.now.value)) rows

-- those of each of these files
abbrev pub present_parts : List Wanted → List (List Row) → List (List Row)
present_parts [] contents = []
present_parts (w ∷ ws) [] = []
present_parts (w ∷ ws) (rows ∷ contents) = present_rows w rows ∷ present_parts ws contents

abbrev pub present_if_any : Option Wanted → List Row → List Row
present_if_any None rows = rows
present_if_any (Some w) rows = present_rows w rows

-- What is answered of a comparison: none is asked of a file that isn't the recorded one.
abbrev pub answer_of : {T : Type 0} → Result (Option T) FileError → Result (Option T) CheckError
answer_of (Ok o) = Ok o
answer_of (Err file_error.Read) = Err check_error.Read
answer_of (Err (file_error.Damaged d)) = Ok None
answer_of (Err file_error.Memory) = Err check_error.Memory

-- What two rows show that come next in lists that were the same so far: where these first differ.
abbrev pub Shows : List ℕ → Option Row → Option Row → Type 0
Shows key row beside = (front rows others : List Row) → next_of rows ≡ row → next_of others ≡ beside → IsTrue (keys_rise (front ++ rows)) → IsTrue (keys_rise (front ++ others)) → first_difference (front ++ rows) (front ++ others) ≡ Some key
