-- What is found of the files of a range.
use Rattle.std.specs.Prelude.{◌≡◌, ℕ, List, true, Option, Some, None, ⊤}
use Rattle.std.specs.List.{AllByRecursion}
use Rattle.mesa_disk.specs.Image.{Image}
use Rattle.mesa_schema.specs.Changes.{Lineage, columns_of}
use Rattle.mesa_pick_files.specs.mesa_columns.declared.rows.Row.{Row}
use Rattle.mesa_batch.specs.Totals.{abs_totals}
use Rattle.mesa_store_spec.specs.Catalog.{Delta}
use Rattle.mesa_store_spec.specs.Contents.{present}
use Rattle.mesa_store_spec.specs.Fitting.{LiveFile, delta_live}
use Rattle.mesa_compare.specs.mesa_open_files.Opening.{wanted_columns}
use Rattle.mesa_compare.specs.mesa_open_files.declared.opening.Wanted.{Wanted}
use Rattle.mesa_compare.specs.mesa_examine.Sums.{AreSumsOf, counted}
use Rattle.mesa_compare.specs.mesa_examine.declared.totals.Sums.{Sums}
use Rattle.mesa_check.specs.Found.{AreFound, Found, IsFoundAs, rows_found}
use Rattle.mesa_check.specs.Faults.{is_found, is_totalled}
use Rattle.mesa_check.specs.Held.{delta_of}
use Rattle.mesa_check.specs.declared.range.Held.{Held}
use Rattle.mesa_check.specs.declared.testing.Test.{Test}

-- ---- one file

-- a wanted file as a catalogue names it
abbrev pub live_file_of : Wanted → LiveFile
live_file_of w = record { columns = wanted_columns w; file = w.file.now }

-- An image has the file.
abbrev pub HasRows : Image → LiveFile → Type 0
HasRows i x = (rows : List Row) × IsFoundAs i x (Some rows)

-- the sums of a file are those of its rows, which are of this epoch; there are none where the file isn't there
abbrev pub AreSumsAt : Lineage → ℕ → Option (List Row) → Option Sums → Type 0
AreSumsAt l epoch None None = ⊤
AreSumsAt l epoch None (Some sums) = ⊥
AreSumsAt l epoch (Some rows) None = ⊥
AreSumsAt l epoch (Some rows) (Some sums) = AreSumsOf l epoch rows sums

abbrev pub AreSumsFound : Wanted → Option (List Row) → Option Sums → Type 0
AreSumsFound w rows sums = AreSumsAt w.evolving.now.value w.epoch rows sums

-- ---- the files of a range

-- A test says whether a delta's files are the recorded ones, whether its totals are those of its rows, and what the absolute values of its rows at present add up to.
pub record IsTested (are : Found) (l : Lineage) (d : Delta) (t : Test) : Type 0 where
  pub found : t.found ≡ is_found are l d
  pub totalled : t.found ≡ true → t.totalled ≡ is_totalled are l d
  pub present : t.found ≡ true → t.present ≡ counted (abs_totals (columns_of l) (present (rows_found are) l d))

-- Whatever a read gives of the files, the test says it; and where it says that they are the recorded ones, they have rows.
pub record IsTestIn (told : Option Image) (l : Lineage) (d : Delta) (t : Test) : Type 0 where
  pub tested : (i : Image) (found : Found) → told ≡ Some i → AreFound i found (delta_live l d) → IsTested found l d t
  pub there : (i : Image) → told ≡ Some i → t.found ≡ true → AllByRecursion (HasRows i) (delta_live l d)

-- it does so of its own range
abbrev pub IsTestOf : Option Image → Lineage → Test → Type 0
IsTestOf told l t = IsTestIn told l (delta_of t.range) t

-- what was found of a range's files is what its test says
pub record IsRead (i : Image) (found : Found) (l : Lineage) (t : Test) : Type 0 where
  pub files : AreFound i found (delta_live l (delta_of t.range))
  pub tested : IsTested found l (delta_of t.range) t

abbrev pub range_of : Test → Held
range_of t = t.range

-- an image has a file with the rows that were found
abbrev pub IsThere : Image → Found → LiveFile → Type 0
IsThere i found x = IsFoundAs i x (Some (rows_found found x.file.id))

-- it has each file of a delta so
abbrev pub AreThere : Image → Found → Lineage → Delta → Type 0
AreThere i found l d = AllByRecursion (IsThere i found) (delta_live l d)
