-- A file's rows one by one.
use Rattle.std.proofs.Common.{ℕ, List, [], ◌∷◌, ◌++◌, ◌∙◌}
use Rattle.std.specs.Prelude.{Option}
use Rattle.mesa_open_files.specs.mesa_columns.declared.rows.Row.{Row}
use Rattle.mesa_open_files.specs.mesa_columns.Columns.{Columns}
use Rattle.mesa_open_files.specs.mesa_columns.Rows.{AreRowsOf, IsRowOf}
use Rattle.mesa_delta.specs.declared.input.Input.{Input}
use Rattle.mesa_scan.specs.Cursors.{IsSameInput}

-- one of many rows has the form of all
pub form_in : (s : Columns) (front : List Row) (row : Row) (rows : List Row) → AreRowsOf s (front ++ row ∷ rows) → IsRowOf s row
form_in s [] row rows all = all.0
form_in s (x ∷ front) row rows all = form_in s front row rows all.1

-- one read after another of the same file
pub same_input : {R : Type 0} (bytes : R → Option (List ℕ)) (a b d : Input R) → IsSameInput bytes a b → IsSameInput bytes b d → IsSameInput bytes a d
same_input bytes a b d one two = record { index = two.index ∙ one.index; evolving = two.evolving ∙ one.evolving; epoch = two.epoch ∙ one.epoch; told = two.told ∙ one.told }
