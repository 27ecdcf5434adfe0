-- Files that are opened once for each part of a merge.
use Rattle.std.specs.Prelude.{◌≡◌, ℕ, List, [], length, Option, None, Some}
use Rattle.std.specs.List.{AllByRecursion}
use Rattle.mesa_file.specs.declared.damage.Damage.{Damage}
use Rattle.mesa_disk.specs.Image.{Image}
use Rattle.mesa_open_files.specs.Opening.{HaveOpened}
use Rattle.mesa_open_files.specs.declared.merging.Spare.{Spare}
use Rattle.mesa_open_files.specs.declared.opening.Wanted.{Wanted}
use Rattle.mesa_pick_files.specs.declared.parts.Part.{Part}
use Rattle.mesa_pick_files.specs.declared.parts.Parts.{Parts}

-- Readers are of the wanted files, with this damage.
abbrev pub AreReaders : {R : Type 0} → (R → Option (List ℕ)) → (R → ℕ) → Option Image → List Wanted → Option Damage → Spare R → Type 0
AreReaders bytes faults told wanted damage s = HaveOpened bytes faults told wanted s.inputs.items damage

-- the files as one opening met them
abbrev pub IsPartOf : {R : Type 0} → (R → Option (List ℕ)) → (R → ℕ) → Option Image → List Wanted → Part R → Type 0
IsPartOf bytes faults told wanted p = AreReaders bytes faults told wanted p.damage p.readers

-- The files as the first opening met them, and readers of all of them for so many further parts; or the files as an opening met them that found damage, and no further readers.
pub record ArePartsOf {R : Type 0} (bytes : R → Option (List ℕ)) (faults : R → ℕ) (told : Option Image) (wanted : List Wanted) (more : ℕ) (ps : Parts R) : Type 0 where
  pub first : IsPartOf bytes faults told wanted ps.first
  pub spare : AllByRecursion (AreReaders bytes faults told wanted None) ps.spare.items
  pub count : ps.first.damage ≡ None → length ps.spare.items ≡ more
  pub none : (d : Damage) → ps.first.damage ≡ Some d → ps.spare.items ≡ []
