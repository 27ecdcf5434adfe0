-- Finished files under the ids under which they are adopted.
use Rattle.std.specs.Prelude.{◌≡◌, ℕ, ◌+◌, ◌<◌, List, [], ◌∷◌, ◌++◌, map, flat_map, length, Option, None, Some}
use Rattle.std.specs.List.{AllByRecursion}
use Rattle.mesa_columns.specs.Columns.{aggs_of}
use Rattle.mesa_pick_files.specs.mesa_schema.Changes.{columns_of, epoch_of}
use Rattle.mesa_batch.specs.Totals.{sums_in}
use Rattle.mesa_file.specs.declared.file_ref.FileRef.{FileRef}
use Rattle.mesa_record.specs.declared.record.ViewRef.{ViewRef}
use Rattle.mesa_record.specs.declared.record.Files.{Files}
use Rattle.mesa_record.specs.declared.record.Part.{Part}
use Rattle.mesa_engine.specs.mesa_store_spec.Catalog.{Catalog, meta_at}
use Rattle.mesa_open_files.specs.declared.made.MadeFile.{MadeFile}
use Rattle.mesa_open_files.specs.declared.made.MadeFiles.{MadeFiles}
use Rattle.mesa_open_files.specs.declared.made.MadeView.{MadeView}
use Rattle.mesa_open_files.specs.declared.prepared.PreparedPart.{PreparedPart}

-- ---- files

-- a file's reference, with the id under which it is adopted
abbrev pub ref_under : {M : Type 0} → ℕ → MadeFile M → FileRef
ref_under id f = record f.file { id = id }

-- the references of views' files, with ids from one on
abbrev pub views_under : {M : Type 0} → ℕ → List (MadeView M) → List ViewRef
views_under id [] = []
views_under id (v ∷ views) = record { view = v.view; file = ref_under id v.file } ∷ views_under (id + 1) views

-- the references of a table's files, its own before its views'
abbrev pub files_under : {M : Type 0} → ℕ → MadeFiles M → Files
files_under id made = record { file = ref_under id made.file; views = views_under (id + 1) made.views.items }

abbrev pub file_in : {M : Type 0} → MadeView M → MadeFile M
file_in v = v.file

-- the files themselves, in that order
abbrev pub files_in : {M : Type 0} → MadeFiles M → List (MadeFile M)
files_in made = made.file ∷ map file_in made.views.items

abbrev pub files_if_any : {M : Type 0} → Option (MadeFiles M) → List (MadeFile M)
files_if_any None = []
files_if_any (Some made) = files_in made

-- files by their ids, from one on, with their bytes where they are told
abbrev pub told_under : {M : Type 0} → (M → Option (List ℕ)) → ℕ → List (MadeFile M) → List (ℕ × Option (List ℕ))
told_under bytes id [] = []
told_under bytes id (f ∷ files) = (id, bytes f.made) ∷ told_under bytes (id + 1) files

-- ---- parts

abbrev pub files_of_part : {M : Type 0} → PreparedPart M → List (MadeFile M)
files_of_part p = files_if_any p.files

-- what a batch brings to a table, with ids from one on, if its part has files
abbrev pub part_under : {M : Type 0} → Catalog → ℕ → ℕ → List ℕ → Option (MadeFiles M) → List Part
part_under c id table totals None = []
part_under c id table totals (Some made) = record { table = table; epoch = epoch_of (meta_at c table).lineage; files = files_under id made; totals = totals } ∷ []

-- and to each table
abbrev pub parts_under : {M : Type 0} → Catalog → ℕ → List (PreparedPart M) → List Part
parts_under c id [] = []
parts_under c id (p ∷ parts) = part_under c id p.table p.totals p.files ++ parts_under c (id + length (files_of_part p)) parts

abbrev pub files_of_parts : {M : Type 0} → List (PreparedPart M) → List (MadeFile M)
files_of_parts parts = flat_map files_of_part parts

abbrev pub listed : Option Part → List Part
listed None = []
listed (Some p) = p ∷ []

-- A part is of a table that is there, and has a total for each of its sum columns.
pub record IsPartOf {M : Type 0} (c : Catalog) (p : PreparedPart M) : Type 0 where
  pub there : p.table < length c.tables
  pub count : length p.totals ≡ sums_in (aggs_of (columns_of (meta_at c p.table).lineage))

abbrev pub ArePartsOf : {M : Type 0} → Catalog → List (PreparedPart M) → Type 0
ArePartsOf c parts = AllByRecursion (IsPartOf c) parts
