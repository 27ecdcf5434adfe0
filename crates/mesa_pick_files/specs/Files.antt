-- The files of deltas that are to be opened.
use Rattle.std.specs.Prelude.{◌≡◌, ℕ, ◌≤◌, map, ◌==◌, List, [], ◌∷◌, find, Bool, true, false, Option, Some, None}
use Rattle.mesa_schema.specs.Changes.{Lineage, columns_of, epoch_of}
use Rattle.mesa_validate.specs.mesa_columns.declared.views.View.{View}
use Rattle.mesa_schema.specs.Views.{view_columns}
use Rattle.mesa_file.specs.declared.file_ref.FileRef.{FileRef}
use Rattle.mesa_record.specs.declared.record.Files.{Files}
use Rattle.mesa_record.specs.declared.record.ViewRef.{ViewRef}
use Rattle.mesa_validate.specs.mesa_store_spec.Catalog.{Delta}
use Rattle.mesa_open_files.specs.declared.opening.Wanted.{Wanted}
use Rattle.mesa_pick_files.specs.declared.views.Sources.{Sources}

-- A file that is to be opened: its reference, the columns of its table or view through their life, and the epoch of its rows.
pub record Want : Type 0 where
  pub file : FileRef
  pub lineage : Lineage
  pub epoch : ℕ

abbrev pub want_of : Wanted → Want
want_of w = record { file = w.file.now; lineage = w.evolving.now.value; epoch = w.epoch }

-- a file's epoch is one that its table had
abbrev pub IsOfEpoch : Want → Type 0
IsOfEpoch w = w.epoch ≤ epoch_of w.lineage

-- ---- a table's own

abbrev pub files_wanted : Lineage → ℕ → Option Files → List Want
files_wanted l epoch None = []
files_wanted l epoch (Some f) = record { file = f.file; lineage = l; epoch = epoch } ∷ []

-- a table's file of a delta, in the epoch in which it was written; none where the delta has no rows
abbrev pub table_wanted : Lineage → Delta → List Want
table_wanted l d = files_wanted l d.epoch d.files

-- ---- a view's

-- the file of the view of a number among those of a delta
abbrev pub view_file : ℕ → List ViewRef → Option ViewRef
view_file view views = find (λ (v : ViewRef). v.view == view) views

-- a view's columns through their life: no change touches them
abbrev pub own_lineage : Lineage → View → Lineage
own_lineage l v = record { begins = 0; first = view_columns (columns_of l) v; changes = []; views = [] }

-- A file by which a view is read, and whether it is the view's own.
pub record Seen : Type 0 where
  pub want : Want
  pub own : Bool

-- the view's own file, whose columns no change touches, or else the table's
abbrev pub seen_by : Lineage → Lineage → ℕ → Files → Option ViewRef → Seen
seen_by l own epoch f (Some v) = record { want = record { file = v.file; lineage = own; epoch = 0 }; own = true }
seen_by l own epoch f None = record { want = record { file = f.file; lineage = l; epoch = epoch }; own = false }

abbrev pub files_seen : Lineage → Lineage → ℕ → ℕ → Option Files → List Seen
files_seen l own view epoch None = []
files_seen l own view epoch (Some f) = seen_by l own epoch f (view_file view f.views) ∷ []

-- The file of a delta by which the view of a number is read: its own where the delta has one, and else the table's, from which its rows are derived; none where the delta has no rows.
abbrev pub view_wanted : Lineage → Lineage → ℕ → Delta → List Seen
view_wanted l own view d = files_seen l own view d.epoch d.files

abbrev pub want_in : Seen → Want
want_in s = s.want

abbrev pub own_in : Seen → Bool
own_in s = s.own

-- These are the files by which a view is read.
pub record AreSources (s : Sources) (seen : List Seen) : Type 0 where
  pub wanted : map want_of s.wanted.items ≡ map want_in seen
  pub own : s.own.items ≡ map own_in seen
