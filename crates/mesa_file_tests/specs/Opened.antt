-- Files that were opened to be merged.
use Rattle.std.specs.Prelude.{◌≡◌, ℕ, List, [], ◌∷◌, Option}
use Rattle.mesa_file.specs.declared.file_ref.FileRef.{FileRef}
use Rattle.mesa_schema.specs.Changes.{Lineage}
use Rattle.mesa_delta.specs.declared.input.Input.{Input}
use Rattle.mesa_scan.specs.Cursors.{IsInput}
use Rattle.mesa_open_files.specs.Inputs.{lineage_of}
use Rattle.mesa_open_files.specs.Spares.{IsReferredBy}
use Rattle.mesa_open_files.specs.declared.merging.Spare.{Spare}

-- An input is of the file of this reference, which was written at the first epoch of this table.
pub record IsOpened {R : Type 0} (bytes : R → Option (List ℕ)) (file : FileRef) (l : Lineage) (i : Input R) : Type 0 where
  pub input : IsInput bytes i
  pub refers : IsReferredBy file i
  pub table : lineage_of i ≡ l
  pub epoch : i.epoch ≡ 0

-- Two inputs are of these files.
abbrev pub AreOpened : {R : Type 0} → (R → Option (List ℕ)) → FileRef → FileRef → Lineage → List (Input R) → Type 0
AreOpened bytes older newer l [] = ⊥
AreOpened bytes older newer l (a ∷ []) = ⊥
AreOpened bytes older newer l (a ∷ b ∷ []) = IsOpened bytes older l a × IsOpened bytes newer l b
AreOpened bytes older newer l (a ∷ b ∷ c ∷ more) = ⊥

-- The readers of a part are of these files.
pub record IsOpenedPart {R : Type 0} (bytes : R → Option (List ℕ)) (older newer : FileRef) (l : Lineage) (s : Spare R) : Type 0 where
  pub inputs : AreOpened bytes older newer l s.inputs.items
