-- What damage a merge tells of.
use Rattle.std.specs.Prelude.{◌≡◌, ◌⊎◌, ℕ, ℤ, ◌<◌, List, [], ◌∷◌, ◌++◌, length, get_or, slice_get, Option, Some, ⊤}
use Rattle.mesa_value.specs.declared.Agg.{Agg}
use Rattle.mesa_value.specs.declared.Agg.TheVariants.{Sum, Min, Max, Replace}
use Rattle.mesa_value.specs.Agg.{IsSum}
use Rattle.mesa_scan.specs.mesa_file.declared.damage.Damage.{Damage}
use Rattle.mesa_scan.specs.mesa_columns.declared.rows.Row.{Row}
use Rattle.mesa_scan.specs.mesa_columns.Columns.{Columns, aggs_of}
use Rattle.mesa_scan.specs.mesa_fold.Folded.{folded}
use Rattle.mesa_scan.specs.mesa_fold.Laws.{AreUnder}
use Rattle.mesa_delta.specs.Reading.{IsIndexed, index_of}
use Rattle.mesa_delta.specs.declared.input.Input.{Input}
use Rattle.mesa_scan.specs.declared.cursor.Cursor.{Cursor}
use Rattle.mesa_scan.specs.Cursors.{IsFall, reader_in}
use Rattle.mesa_scan.specs.Damaged.{IsDamaged}
use Rattle.mesa_merge.specs.Hands.{IsAhead, hands_of}
use Rattle.mesa_merge.specs.Inputs.{AreAlike, Known, known_of, knowns_of}
use Rattle.mesa_merge.specs.Merging.{AreReady, HasGivens}
use Rattle.mesa_merge.specs.Sums.{HasKey, sum_damage}

-- From one block of a file to the next its keys fall, which is told where its rows are read from a key on, and never of a file whose index is true of it.
pub record HasFall {R : Type 0} (bytes : R → Option (List ℕ)) (i : Input R) (d : Damage) : Type 0 where
  pub falls : IsFall (index_of i.reader) d
  pub unsound : (b : List ℕ) (all : List Row) → bytes (reader_in i) ≡ Some b → IsIndexed (index_of i.reader) all b → ⊥

-- Damage of a block of one of the inputs: as its reader told it when the block was read, or a fall of keys.
pub record IsBlockOf {R : Type 0} (bytes : R → Option (List ℕ)) (size : R → ℕ) (knowns : List Known) (d : Damage) : Type 0 where
  pub at : ℕ
  pub input : Input R
  pub one : slice_get knowns at ≡ Some (known_of bytes input)
  pub damaged : IsDamaged bytes size input d ⊎ HasFall bytes input d

-- a value of a sum column is within the type of sums
abbrev pub SumKeeps : Agg → ℤ → Type 0
SumKeeps Sum value = IsSum value
SumKeeps Min value = ⊤
SumKeeps Max value = ⊤
SumKeeps Replace value = ⊤

-- column by column
abbrev pub SumsKeep : List Agg → List ℤ → Type 0
SumsKeep [] values = ⊤
SumsKeep (agg ∷ aggs) [] = ⊤
SumsKeep (agg ∷ aggs) (value ∷ values) = SumKeeps agg value × SumsKeep aggs values

-- Of inputs that are being merged, this is the newest file that holds a key: where just these rows were given, from some key on or from the first, it has given a row of the key or has one at hand, and each newer one has given lesser keys alone, and has a greater one at hand or is at its end.
pub record IsNewestWith {R : Type 0} (bytes : R → Option (List ℕ)) (inputs : List (Input R)) (key : List ℕ) (givens : List (List Row)) (file : Known) : Type 0 where
  pub low : Option (List ℕ)
  pub cursors : List Cursor
  pub given : HasGivens bytes low inputs cursors givens
  pub ready : AreReady (length inputs) inputs cursors
  pub at : ℕ
  pub holds : HasKey key (get_or givens at [] ++ get_or (hands_of cursors) at [])
  pub newer : (j : ℕ) → at < j → AreUnder key (get_or givens j []) × IsAhead key (get_or (hands_of cursors) j [])
  pub one : slice_get (knowns_of bytes inputs) at ≡ Some file

-- A sum of the rows of a key leaves its type: the fold of what was given, in the columns to which all inputs are lifted, ends with a row that has a value of a sum column which isn't within it. It is told of the newest file that holds the row's key.
pub record IsSumOf {R : Type 0} (bytes : R → Option (List ℕ)) (inputs : List (Input R)) (d : Damage) : Type 0 where
  pub columns : Columns
  pub alike : AreAlike columns (knowns_of bytes inputs)
  pub givens : List (List Row)
  pub front : List Row
  pub sum : Row
  pub fold : folded (aggs_of columns) givens ≡ front ++ sum ∷ []
  pub leaves : SumsKeep (aggs_of columns) sum.values → ⊥
  pub file : Known
  pub newest : IsNewestWith bytes inputs sum.key givens file
  pub told : d ≡ sum_damage file.file.file

-- which damage a merge tells of: a block's of one of the inputs, or a sum's
abbrev pub IsDamageOf : {R : Type 0} → (R → Option (List ℕ)) → (R → ℕ) → List (Input R) → Damage → Type 0
IsDamageOf bytes size inputs d = IsBlockOf bytes size (knowns_of bytes inputs) d ⊎ IsSumOf bytes inputs d
