-- Finished files, and whose rows they have.
use Rattle.std.specs.Prelude.{◌≡◌, ℕ, ◌+◌, List, [], ◌∷◌, map, Option, Some, ⊤}
use Rattle.mesa_history_spec.specs.mesa_columns.declared.rows.Row.{Row}
use Rattle.mesa_history_spec.specs.mesa_columns.declared.views.View.{View}
use Rattle.mesa_history_spec.specs.mesa_columns.Columns.{Columns}
use Rattle.mesa_schema.specs.Views.{view_columns, view_rows}
use Rattle.mesa_scan.specs.mesa_delta_format.File.{IsFile, file_bytes}
use Rattle.mesa_scan.specs.mesa_delta_format.Summary.{IsReferenceOf, new_layout}
use Rattle.mesa_open_files.specs.declared.made.MadeFile.{MadeFile}
use Rattle.mesa_open_files.specs.declared.made.MadeFiles.{MadeFiles}
use Rattle.mesa_open_files.specs.declared.made.MadeView.{MadeView}

-- rows of a table or a view, with their columns
pub record Content : Type 0 where
  pub columns : Columns
  pub rows : List Row

-- the view's content over a table's rows
abbrev pub content_of : Columns → List Row → View → Content
content_of s rows v = record { columns = view_columns s v; rows = view_rows s v rows }

-- The file of a content, which is of format 2: its rows make one, which the bytes are where they are told, and the reference is true of it and has its draft's id.
pub record IsMadeFile {M : Type 0} (bytes : M → Option (List ℕ)) (id_of : M → ℕ) (content : Content) (made : MadeFile M) : Type 0 where
  pub rows : IsFile (new_layout content.columns) content.rows (file_bytes (new_layout content.columns) content.rows)
  pub told : (b : List ℕ) → bytes made.made ≡ Some b → b ≡ file_bytes (new_layout content.columns) content.rows
  pub reference : IsReferenceOf (new_layout content.columns) (id_of made.made) content.rows made.file

-- One file for each of these contents of views, which are numbered from this one on.
abbrev pub AreMadeViews : {M : Type 0} → (M → Option (List ℕ)) → (M → ℕ) → ℕ → List Content → List (MadeView M) → Type 0
AreMadeViews bytes id_of view [] [] = ⊤
AreMadeViews bytes id_of view [] (made ∷ more) = ⊥
AreMadeViews bytes id_of view (content ∷ contents) [] = ⊥
AreMadeViews bytes id_of view (content ∷ contents) (made ∷ more) = (made.view ≡ view) × IsMadeFile bytes id_of content made.file × AreMadeViews bytes id_of (view + 1) contents more

-- The files of a table's rows: one of its rows, and one for each of its views, by their numbers, of the rows grouped by the view's columns.
pub record AreMadeFiles {M : Type 0} (bytes : M → Option (List ℕ)) (id_of : M → ℕ) (s : Columns) (views : List View) (rows : List Row) (made : MadeFiles M) : Type 0 where
  pub table : IsMadeFile bytes id_of (record { columns = s; rows = rows }) made.file
  pub grouped : AreMadeViews bytes id_of 0 (map (content_of s rows) views) made.views.items
