-- Files that are read as rows of the present.
use Rattle.std.specs.Prelude.{◌≡◌, ℕ, List, [], ◌∷◌, map, Option, Some, ⊤}
use Rattle.std.specs.List.{AllByRecursion}
use Rattle.mesa_history_spec.specs.mesa_columns.declared.rows.Row.{Row}
use Rattle.mesa_history_spec.specs.mesa_columns.Columns.{Columns, aggs_of}
use Rattle.mesa_schema.specs.Changes.{Lineage, columns_of}
use Rattle.mesa_history_spec.specs.mesa_fold.Folded.{folded}
use Rattle.mesa_delta.specs.Reading.{IsIndexed, index_of}
use Rattle.mesa_delta.specs.declared.input.Input.{Input}
use Rattle.mesa_scan.specs.Cursors.{IsInput, lift_by, reader_in}

-- the columns of an input's table or view through its life
abbrev pub lineage_of : {R : Type 0} → Input R → Lineage
lineage_of i = i.evolving.value

-- Inputs that may be merged: all are lifted to these columns.
abbrev pub AreInputsTo : {R : Type 0} → (R → Option (List ℕ)) → Columns → List (Input R) → Type 0
AreInputsTo bytes s inputs = AllByRecursion (λ i. IsInput bytes i × (columns_of (lineage_of i) ≡ s)) inputs

-- Inputs of one table: all have its columns and views.
abbrev pub AreInputsOf : {R : Type 0} → (R → Option (List ℕ)) → Lineage → List (Input R) → Type 0
AreInputsOf bytes l inputs = AllByRecursion (λ i. IsInput bytes i × (lineage_of i ≡ l)) inputs

-- rows of an input's file at present
abbrev pub lifted_in : {R : Type 0} → Input R → List Row → List Row
lifted_in i rows = map (lift_by i) rows

-- An input's bytes are told, and are the file of these rows.
abbrev pub IsTold : {R : Type 0} → (R → Option (List ℕ)) → Input R → List Row → Type 0
IsTold bytes i rows = (b : List ℕ) × (bytes (reader_in i) ≡ Some b) × IsIndexed (index_of i.reader) rows b

-- each input's
abbrev pub AreTold : {R : Type 0} → (R → Option (List ℕ)) → List (Input R) → List (List Row) → Type 0
AreTold bytes [] [] = ⊤
AreTold bytes [] (rows ∷ parts) = ⊥
AreTold bytes (i ∷ inputs) [] = ⊥
AreTold bytes (i ∷ inputs) (rows ∷ parts) = IsTold bytes i rows × AreTold bytes inputs parts

-- each input's rows at present
abbrev pub present_parts : {R : Type 0} → List (Input R) → List (List Row) → List (List Row)
present_parts [] parts = []
present_parts (i ∷ inputs) [] = []
present_parts (i ∷ inputs) (rows ∷ parts) = lifted_in i rows ∷ present_parts inputs parts

-- Rows are the merge of inputs: where the inputs' bytes are told, each the file of its index, they are the fold of all rows of these files, in the order of the inputs.
abbrev pub IsMergeOf : {R : Type 0} → (R → Option (List ℕ)) → Columns → List (Input R) → List Row → Type 0
IsMergeOf bytes s inputs rows = (parts : List (List Row)) → AreTold bytes inputs parts → rows ≡ folded (aggs_of s) (present_parts inputs parts)
