-- Laws of parts, and of files of one content.
use Rattle.std.specs.Prelude.{◌≡◌, ℕ, List, [], ◌∷◌, IsTrue, Option, None, Some, ⊤}
use Rattle.mesa_compact.specs.mesa_columns.declared.rows.Row.{Row}
use Rattle.mesa_compact.specs.mesa_columns.Columns.{Columns, aggs_of}
use Rattle.mesa_schema.specs.Changes.{Lineage}
use Rattle.mesa_open_files.specs.mesa_fold.Folded.{folded, rows_of}
use Rattle.mesa_compact.specs.mesa_columns.Rows.{AreRowsOf, keys_rise}
use Rattle.mesa_compact.specs.mesa_scan.Cut.{CutsRise}
use Rattle.mesa_merge.specs.Inputs.{Known, lifted_parts}
use Rattle.mesa_merge.specs.Inputs.{AreTold as AreToldKnowns}
use Rattle.mesa_open_files.specs.Inputs.{AreTold}
use Rattle.mesa_open_files.specs.Made.{Content, IsMadeFile}
use Rattle.mesa_open_files.specs.Tasks.{IsMerged}
use Rattle.mesa_open_files.specs.declared.made.MadeFile.{MadeFile}
use Rattle.mesa_open_files.specs.declared.made.MadeFiles.{MadeFiles}
use Rattle.mesa_open_files.specs.declared.made.MadeView.{MadeView}
use Rattle.mesa_open_files.specs.declared.merging.NewDelta.{NewDelta}
use Rattle.mesa_open_files.specs.declared.merging.Task.{Task}
use Rattle.mesa_split.specs.Parts.{ArePartsOf}

-- The parts at rising cuts, one after the other, make a file's rows on every store: they have the form, and their keys rise.
abbrev pub PartsRise : Type 0
PartsRise = (s : Columns) (cuts : List (List ℕ)) (knowns : List Known) (parts : List (List Row)) → CutsRise None cuts → ArePartsOf s None cuts knowns parts → AreRowsOf s (rows_of parts) × IsTrue (keys_rise (rows_of parts))

-- And where the inputs' bytes are told, they are the fold of all.
abbrev pub PartsFold : Type 0
PartsFold = (s : Columns) (cuts : List (List ℕ)) (knowns : List Known) (parts : List (List Row)) (contents : List (List Row)) → CutsRise None cuts → ArePartsOf s None cuts knowns parts → AreToldKnowns knowns contents
    → rows_of parts ≡ folded (aggs_of s) (lifted_parts knowns contents)

-- Two finished files are the same but for their ids: they have the same bytes, where these are told, and references that are the same but for their ids.
abbrev pub AreSameFiles : {M : Type 0} → (M → Option (List ℕ)) → MadeFile M → MadeFile M → Type 0
AreSameFiles bytes a b = ((x y : List ℕ) → bytes a.made ≡ Some x → bytes b.made ≡ Some y → x ≡ y) × (record a.file { id = b.file.id } ≡ b.file)

-- Two finished files of the same rows are.
abbrev pub OneSpelling : {M : Type 0} → (M → Option (List ℕ)) → (M → ℕ) → Type 0
OneSpelling {M = M} bytes id_of = (content : Content) (a b : MadeFile M) → IsMadeFile bytes id_of content a → IsMadeFile bytes id_of content b → AreSameFiles bytes a b

-- The files of views are, one by one.
abbrev pub AreSameViews : {M : Type 0} → (M → Option (List ℕ)) → List (MadeView M) → List (MadeView M) → Type 0
AreSameViews bytes [] [] = ⊤
AreSameViews bytes [] (b ∷ bs) = ⊥
AreSameViews bytes (a ∷ as_) [] = ⊥
AreSameViews bytes (a ∷ as_) (b ∷ bs) = (b.view ≡ a.view) × AreSameFiles bytes a.file b.file × AreSameViews bytes as_ bs

-- All files of two merged ranges are, or neither has any.
abbrev pub AreSameDeltas : {M : Type 0} → (M → Option (List ℕ)) → Option (MadeFiles M) → Option (MadeFiles M) → Type 0
AreSameDeltas bytes None None = ⊤
AreSameDeltas bytes None (Some b) = ⊥
AreSameDeltas bytes (Some a) None = ⊥
AreSameDeltas bytes (Some a) (Some b) = AreSameFiles bytes a.file b.file × AreSameViews bytes a.views.items b.views.items

-- A task whose files are told is merged in one way alone: whoever merges it, whole or in parts, at whichever cuts, and however often, makes the same files but for their ids.
abbrev pub OneDelta : {M R : Type 0} → (M → Option (List ℕ)) → (M → ℕ) → (R → Option (List ℕ)) → Type 0
OneDelta {M = M} {R = R} bytes id_of read = (l : Lineage) (t : Task R) (a b : NewDelta M) (contents : List (List Row)) → AreTold read t.inputs.items contents
    → IsMerged bytes id_of read l t a → IsMerged bytes id_of read l t b → AreSameDeltas bytes a.files b.files
