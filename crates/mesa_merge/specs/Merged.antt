-- What a merge has given, and where it ends.
use Rattle.std.specs.Prelude.{◌≡◌, ℕ, ◌<◌, List, [], length, map, get_or, Option, None, Some, true, false}
use Rattle.mesa_scan.specs.mesa_columns.declared.rows.Row.{Row}
use Rattle.mesa_scan.specs.mesa_columns.Columns.{Columns, aggs_of}
use Rattle.mesa_scan.specs.mesa_fold.Laws.{AreUnder}
use Rattle.mesa_delta.specs.declared.error.FileError.{FileError}
use Rattle.mesa_delta.specs.declared.input.Input.{Input}
use Rattle.mesa_merge.specs.Hands.{IsPast, hands_of}
use Rattle.mesa_merge.specs.Inputs.{AreAlike, knowns_of}
use Rattle.mesa_merge.specs.Matches.{IsTree}
use Rattle.mesa_merge.specs.Merging.{HasGivens, IsMerging}
use Rattle.mesa_merge.specs.declared.merge.Merge.{Merge}

-- the inputs of a merge, why it failed, and the rows at hand of each input
abbrev pub inputs_of : {R : Type 0} → Merge R → List (Input R)
inputs_of m = m.inputs.items

abbrev pub failed_of : {R : Type 0} → Merge R → Option FileError
failed_of m = m.failed

abbrev pub hands_in : {R : Type 0} → Merge R → List (List Row)
hands_in m = hands_of m.cursors.items

-- the row of the last `next` that answered true; after an Err it may be any row
abbrev pub row_in : {R : Type 0} → Merge R → Row
row_in m = m.row

-- the place of the newest input that gave a row of that row's key
abbrev pub last_in : {R : Type 0} → Merge R → ℕ
last_in m = m.last

-- the first blocks were read
abbrev pub IsBegun : {R : Type 0} → Merge R → Type 0
IsBegun m = m.begun ≡ true

-- no row is given whose key is at or above this one
abbrev pub high_of : {R : Type 0} → Merge R → Option (List ℕ)
high_of m = m.high

-- No row is left: the first blocks were read, and of the rows at hand none is below the high end.
pub record HasEnded {R : Type 0} (m : Merge R) : Type 0 where
  pub begun : IsBegun m
  pub past : (j : ℕ) → IsPast (high_of m) (get_or (hands_in m) j [])

-- no row of any input
abbrev pub nothing_given : {R : Type 0} → List (Input R) → List (List Row)
nothing_given inputs = map (λ i. []) inputs

-- rows lie below the high end, where there is one
abbrev pub AreBelow : Option (List ℕ) → List Row → Type 0
AreBelow None rows = Unit {0}
AreBelow (Some high) rows = AreUnder high rows

-- A merge between these ends, of inputs that are lifted to these columns, has not failed, and each input has given just these rows. All rows to come are above them.
pub record HasMergedBetween {R : Type 0} (bytes : R → Option (List ℕ)) (low high : Option (List ℕ)) (s : Columns) (m : Merge R) (givens : List (List Row)) : Type 0 where
  pub going : m.failed ≡ None
  pub columns : 0 < length m.inputs.items → m.aggs.items ≡ aggs_of s
  pub tree : IsTree (hands_of m.cursors.items) m.tree
  pub alike : AreAlike s (knowns_of bytes m.inputs.items)
  pub given : HasGivens bytes low m.inputs.items m.cursors.items givens
  pub end : m.high ≡ high
  pub below : (j : ℕ) → AreBelow high (get_or givens j [])
  pub none : m.begun ≡ false → (j : ℕ) → get_or (hands_of m.cursors.items) j [] ≡ []
  pub fresh : m.begun ≡ false → (j : ℕ) → get_or givens j [] ≡ []
  pub merging : m.begun ≡ true → IsMerging bytes low s m.inputs.items m.cursors.items givens

-- It is so between some ends, for some columns, with some rows given.
abbrev pub IsGoing : {R : Type 0} → (R → Option (List ℕ)) → Merge R → Type 0
IsGoing bytes m = (low : Option (List ℕ)) × (high : Option (List ℕ)) × (s : Columns) × (givens : List (List Row)) × HasMergedBetween bytes low high s m givens

-- A merge of whole files.
abbrev pub HasMerged : {R : Type 0} → (R → Option (List ℕ)) → Columns → Merge R → List (List Row) → Type 0
HasMerged bytes s m givens = HasMergedBetween bytes None None s m givens
