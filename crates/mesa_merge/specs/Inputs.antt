-- Inputs that are merged, by what is known of them.
use Rattle.std.specs.Prelude.{◌≡◌, ℕ, List, [], ◌∷◌, map, Option, Some, ⊤}
use Rattle.std.specs.List.{AllByRecursion}
use Rattle.mesa_scan.specs.mesa_columns.declared.rows.Row.{Row}
use Rattle.mesa_schema.specs.Changes.{Lineage, columns_of, epoch_of, lifted}
use Rattle.mesa_scan.specs.mesa_columns.Columns.{Columns}
use Rattle.mesa_delta.specs.Ahead.{Told}
use Rattle.mesa_scan.specs.mesa_delta_format.Indexed.{Indexed}
use Rattle.mesa_delta.specs.Reading.{IsIndexed, IsWhole, index_of}
use Rattle.mesa_delta.specs.declared.input.Input.{Input}
use Rattle.mesa_scan.specs.Cursors.{IsInput, reader_in}

-- What is known of an input: its file's index, the table or view whose rows it has, their epoch, and its bytes where they are told.
pub record Known : Type 0 where
  pub file : Indexed
  pub table : Lineage
  pub epoch : ℕ
  pub told : Option (List ℕ)

abbrev pub known_of : {R : Type 0} → (R → Option (List ℕ)) → Input R → Known
known_of bytes i = record { file = index_of i.reader; table = i.evolving.value; epoch = i.epoch; told = bytes (reader_in i) }

abbrev pub knowns_of : {R : Type 0} → (R → Option (List ℕ)) → List (Input R) → List Known
knowns_of bytes inputs = map (known_of bytes) inputs

-- what is known of the files whose blocks are read ahead
abbrev pub tolds_of : List Known → List Told
tolds_of knowns = map (λ (k : Known). record { index = k.file; content = k.told }) knowns

-- a row of an input's epoch at the present one
abbrev pub lifted_in : Known → Row → Row
lifted_in k row = lifted k.table k.epoch (epoch_of k.table) row

-- the rows of inputs are lifted to these columns
abbrev pub AreAlike : Columns → List Known → Type 0
AreAlike s knowns = AllByRecursion (λ (k : Known). columns_of k.table ≡ s) knowns

-- Inputs may be merged: each is one, and all are lifted to the same columns.
pub record AreInputs {R : Type 0} (bytes : R → Option (List ℕ)) (s : Columns) (inputs : List (Input R)) : Type 0 where
  pub each : AllByRecursion (IsInput bytes) inputs
  pub alike : AreAlike s (knowns_of bytes inputs)

-- An input's bytes are told, and are the file of these rows.
abbrev pub IsTold : Known → List Row → Type 0
IsTold k rows = (b : List ℕ) × (k.told ≡ Some b) × IsIndexed k.file rows b

-- each input's
abbrev pub AreTold : List Known → List (List Row) → Type 0
AreTold [] [] = ⊤
AreTold [] (rows ∷ contents) = ⊥
AreTold (k ∷ ks) [] = ⊥
AreTold (k ∷ ks) (rows ∷ contents) = IsTold k rows × AreTold ks contents

-- the rows of each input, lifted
abbrev pub lifted_parts : List Known → List (List Row) → List (List Row)
lifted_parts [] contents = []
lifted_parts (k ∷ ks) [] = []
lifted_parts (k ∷ ks) (rows ∷ contents) = map (lifted_in k) rows ∷ lifted_parts ks contents

-- These are all rows of an input, lifted: the rows are a file whose tail the index tells, and where the bytes are told, that file.
pub record IsAll (k : Known) (given : List Row) : Type 0 where
  pub rows : List Row
  pub lifts : given ≡ map (lifted_in k) rows
  pub whole : IsWhole k.file rows k.told
  pub same : (b : List ℕ) (all : List Row) → k.told ≡ Some b → IsIndexed k.file all b → rows ≡ all

-- each input's
abbrev pub AreAll : List Known → List (List Row) → Type 0
AreAll [] [] = ⊤
AreAll [] (given ∷ givens) = ⊥
AreAll (k ∷ ks) [] = ⊥
AreAll (k ∷ ks) (given ∷ givens) = IsAll k given × AreAll ks givens
