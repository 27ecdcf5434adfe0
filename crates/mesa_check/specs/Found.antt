-- The rows that the files of a store are found to have.
use Rattle.std.specs.Prelude.{◌≡◌, ℕ, List, [], Option, Some, None, unwrap_or}
use Rattle.std.specs.List.{AllByRecursion}
use Rattle.mesa_pick_files.specs.mesa_columns.declared.rows.Row.{Row}
use Rattle.mesa_disk.specs.Image.{Image, file_of}
use Rattle.mesa_delta.specs.mesa_delta_format.File.{IsFile, file_bytes}
use Rattle.mesa_delta.specs.mesa_delta_format.Summary.{IsReferenceOf}
use Rattle.mesa_pick_files.specs.mesa_commit.Images.{Has}
use Rattle.mesa_store_spec.specs.Catalog.{Catalog}
use Rattle.mesa_store_spec.specs.Fitting.{LiveFile, live_files}
use Rattle.mesa_store_spec.specs.Contents.{Rows}
use Rattle.mesa_store_spec.specs.Sound.{HaveSoundRows, layout_of, wants}

-- what was found of files: by a file's id its rows, where it is the recorded file, and none where it isn't
abbrev pub Found : Type 0
Found = ℕ → Option (List Row)

-- the rows that were found
abbrev pub rows_found : Found → Rows
rows_found found id = unwrap_or (found id) []

-- every file has these rows
abbrev pub all_found : Rows → Found
all_found rows id = Some (rows id)

-- An image has the file of these rows, of which the reference is true; or what it has, if anything, is no file of the reference.
abbrev pub IsFoundAs : Image → LiveFile → Option (List Row) → Type 0
IsFoundAs i x (Some rows) = (file_of i x.file.id ≡ Some (file_bytes (layout_of x) rows)) × IsFile (layout_of x) rows (file_bytes (layout_of x) rows) × IsReferenceOf (layout_of x) x.file.id rows x.file
IsFoundAs i x None = (b : List ℕ) (rows : List Row) → file_of i x.file.id ≡ Some b → IsFile (layout_of x) rows b → IsReferenceOf (layout_of x) x.file.id rows x.file → ⊥

-- This is what an image has of each of these files.
abbrev pub AreFound : Image → Found → List LiveFile → Type 0
AreFound i found files = AllByRecursion (λ (x : LiveFile). IsFoundAs i x (found x.file.id)) files

-- The files that a catalogue names are there, with rows of which holds what is to hold of rows: with a whole journal whose live area makes this catalogue, the image is sound.
abbrev pub HasSoundFiles : Image → Catalog → Type 0
HasSoundFiles i c = (rows : Rows) × Has (wants rows (live_files c)) i × HaveSoundRows rows c
