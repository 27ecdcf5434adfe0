-- A table's ranges, and what is open of them.
use Rattle.std.specs.Prelude.{◌≡◌, ◌⊎◌, ℕ, ◌+◌, List, [], ◌∷◌, ◌++◌, Option, None, Some, ⊤}
use Rattle.std.specs.List.{AllByRecursion}
use Rattle.mesa_file.specs.declared.damage.Damage.{Damage}
use Rattle.mesa_disk.specs.Image.{Image}
use Rattle.mesa_schema.specs.Changes.{Lineage, columns_at}
use Rattle.mesa_record.specs.declared.record.Files.{Files}
use Rattle.mesa_validate.specs.mesa_store_spec.Catalog.{Delta, Ending, TableMeta, start_in}
use Rattle.mesa_delta.specs.declared.input.Input.{Input}
use Rattle.mesa_pick_files.specs.Files.{Want, want_of}
use Rattle.mesa_open_files.specs.Opening.{IsDamageOf, IsOpened}
use Rattle.mesa_open_files.specs.declared.opening.Wanted.{Wanted}
use Rattle.mesa_open_files.specs.declared.recasting.RecastRange.{RecastRange}

-- ---- a table's ranges

-- A range of versions, and the delta that a table has of it.
pub record Ranged : Type 0 where
  pub from : ℕ
  pub to : ℕ
  pub delta : Delta

abbrev pub base_ranged : Option Ending → List Ranged
base_ranged None = []
base_ranged (Some e) = record { from = 0; to = e.to; delta = e.delta } ∷ []

-- singletons, the first of which is of this version
abbrev pub singles_ranged : ℕ → List Delta → List Ranged
singles_ranged version [] = []
singles_ranged version (d ∷ ds) = record { from = version; to = version; delta = d } ∷ singles_ranged (version + 1) ds

-- A table's ranges: its base, and its singletons. No two of them overlap, and together they have all of its versions.
abbrev pub ranged : TableMeta → List Ranged
ranged t = base_ranged t.base ++ singles_ranged (start_in t) t.singles

-- one of these ranges
abbrev pub IsOneOf : Ranged → List Ranged → Type 0
IsOneOf x [] = ⊥
IsOneOf x (y ∷ ys) = (x ≡ y) ⊎ IsOneOf x ys

-- ---- what is held of them

-- a range is among these, with an input
abbrev pub HasInput : {R : Type 0} → List (RecastRange R) → ℕ → ℕ → Type 0
HasInput [] from to = ⊥
HasInput {R = R} (x ∷ xs) from to = ((x.from ≡ from) × (x.to ≡ to) × (i : Input R) × (x.input ≡ Some i)) ⊎ HasInput xs from to

-- where it has rows
abbrev pub HoldsAt : {R : Type 0} → List (RecastRange R) → ℕ → ℕ → Option Files → Type 0
HoldsAt ranges from to None = ⊤
HoldsAt ranges from to (Some f) = HasInput ranges from to

abbrev pub HoldsEach : {R : Type 0} → List (RecastRange R) → List Ranged → Type 0
HoldsEach ranges xs = AllByRecursion (λ x. HoldsAt ranges x.from x.to x.delta.files) xs

-- Each range with rows that a table has is among these, with an input.
abbrev pub HoldsAll : {R : Type 0} → List (RecastRange R) → TableMeta → Type 0
HoldsAll ranges t = HoldsEach ranges (ranged t)

abbrev pub empty_ranged : {R : Type 0} → ℕ → Option Files → List (RecastRange R)
empty_ranged to None = record { from = 0; to = to; input = None } ∷ []
empty_ranged to (Some f) = []

-- the range of a base without rows
abbrev pub first_ranged : {R : Type 0} → Option Ending → List (RecastRange R)
first_ranged None = []
first_ranged (Some e) = empty_ranged e.to e.delta.files

-- ---- what is open

-- the file of a delta's rows, as it is to be opened
abbrev pub range_wanted : Lineage → Delta → Files → Want
range_wanted l d f = record { file = f.file; lineage = l; epoch = d.epoch }

-- A range's input is that of a delta's file, which was opened.
pub record IsOpenedAs {R : Type 0} (bytes : R → Option (List ℕ)) (faults : R → ℕ) (told : Option Image) (l : Lineage) (from to : ℕ) (d : Delta) (x : RecastRange R) : Type 0 where
  pub at_from : x.from ≡ from
  pub at_to : x.to ≡ to
  pub input : Input R
  pub has : x.input ≡ Some input
  pub files : Files
  pub there : d.files ≡ Some files
  pub wanted : Wanted
  pub is : want_of wanted ≡ range_wanted l d files
  pub opened : IsOpened bytes faults told wanted input

-- So it is for one of a table's ranges.
pub record IsOpenedRange {R : Type 0} (bytes : R → Option (List ℕ)) (faults : R → ℕ) (told : Option Image) (t : TableMeta) (x : RecastRange R) : Type 0 where
  pub range : Ranged
  pub one : IsOneOf range (ranged t)
  pub opened : IsOpenedAs bytes faults told t.lineage range.from range.to range.delta x

-- Ranges of a table whose files were opened stand behind those that were there.
abbrev pub HasMore : {R : Type 0} → (R → Option (List ℕ)) → (R → ℕ) → Option Image → TableMeta → List (RecastRange R) → List (RecastRange R) → Type 0
HasMore {R = R} bytes faults told t old new = (more : List (RecastRange R)) × (new ≡ old ++ more) × AllByRecursion (IsOpenedRange bytes faults told t) more

-- A base without rows has a range without an input.
pub record IsEmptyRange {R : Type 0} (t : TableMeta) (x : RecastRange R) : Type 0 where
  pub range : Ranged
  pub one : IsOneOf range (ranged t)
  pub at_from : x.from ≡ range.from
  pub at_to : x.to ≡ range.to
  pub none : x.input ≡ None
  pub empty : range.delta.files ≡ None

-- A range of a task is one of its table's ranges: its file is open, or it has no rows.
abbrev pub IsOfRange : {R : Type 0} → (R → Option (List ℕ)) → (R → ℕ) → Option Image → TableMeta → RecastRange R → Type 0
IsOfRange bytes faults told t x = IsOpenedRange bytes faults told t x ⊎ IsEmptyRange t x

-- Damage is that of a delta's file, which isn't the recorded one.
pub record IsDamagedAs (told : Option Image) (l : Lineage) (d : Delta) (damage : Damage) : Type 0 where
  pub files : Files
  pub there : d.files ≡ Some files
  pub damaged : IsDamageOf told (columns_at l d.epoch) files.file damage

pub record IsDamagedRange (told : Option Image) (t : TableMeta) (damage : Damage) : Type 0 where
  pub range : Ranged
  pub one : IsOneOf range (ranged t)
  pub damaged : IsDamagedAs told t.lineage range.delta damage
