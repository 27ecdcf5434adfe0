-- Merging inputs row by row.
use Rattle.std.specs.Prelude.{◌≡◌, ℕ, zero, suc, ◌+◌, ◌<◌, ◌≤◌, List, [], ◌∷◌, ◌++◌, length, get_or, Option, true, ⊤}
use Rattle.std.specs.List.{AllByRecursion}
use Rattle.std.specs.Ordering.{is_ge}
use Rattle.mesa_key.specs.Order.{byte_cmp}
use Rattle.mesa_scan.specs.mesa_columns.declared.rows.Row.{Row}
use Rattle.mesa_scan.specs.mesa_columns.Columns.{Columns, aggs_of}
use Rattle.mesa_scan.specs.mesa_fold.Folded.{folded}
use Rattle.mesa_scan.specs.mesa_fold.Laws.{AreUnder}
use Rattle.mesa_scan.specs.mesa_columns.Rows.{AreRowsOf, IsRowOf}
use Rattle.mesa_delta.specs.declared.input.Input.{Input}
use Rattle.mesa_scan.specs.declared.cursor.Cursor.{Cursor}
use Rattle.mesa_scan.specs.Cursors.{HasGivenFrom, IsReady}
use Rattle.mesa_merge.specs.Hands.{IsAhead, IsFrom, hands_of}
use Rattle.mesa_merge.specs.Inputs.{AreAlike, knowns_of}
use Rattle.mesa_merge.specs.Sums.{HasKey}

-- each input has given just these rows, from a key on where there is one
abbrev pub HasGivens : {R : Type 0} → (R → Option (List ℕ)) → Option (List ℕ) → List (Input R) → List Cursor → List (List Row) → Type 0
HasGivens bytes low [] [] [] = ⊤
HasGivens bytes low [] [] (g ∷ gs) = ⊥
HasGivens bytes low [] (c ∷ cs) gs = ⊥
HasGivens bytes low (i ∷ is) [] gs = ⊥
HasGivens bytes low (i ∷ is) (c ∷ cs) [] = ⊥
HasGivens bytes low (i ∷ is) (c ∷ cs) (g ∷ gs) = HasGivenFrom bytes low i c g × HasGivens bytes low is cs gs

-- of the first inputs, so many, each has a row at hand or is at its end
abbrev pub AreReady : {R : Type 0} → ℕ → List (Input R) → List Cursor → Type 0
AreReady zero is cs = ⊤
AreReady (suc n) [] cs = ⊤
AreReady (suc n) (i ∷ is) [] = ⊤
AreReady (suc n) (i ∷ is) (c ∷ cs) = IsReady i c × AreReady n is cs

-- each row at hand is above all that were given
abbrev pub AreAbove : List (List Row) → List (List Row) → Type 0
AreAbove hands givens = (j : ℕ) (row : Row) (rows : List Row) → get_or hands j [] ≡ row ∷ rows → (k : ℕ) → AreUnder row.key (get_or givens k [])

-- each given row's key is at most this one
abbrev pub AreUpTo : List ℕ → List Row → Type 0
AreUpTo key rows = AllByRecursion (λ (row : Row). is_ge (byte_cmp key row.key) ≡ true) rows

-- Rows of a key are being given: the first n inputs are done with it, and no other gave one of it.
pub record IsStage (key : List ℕ) (n : ℕ) (hands givens : List (List Row)) : Type 0 where
  pub done : (j : ℕ) → j < n → IsAhead key (get_or hands j [])
  pub each : (j : ℕ) → IsFrom key (get_or hands j [])
  pub under : (j : ℕ) → n ≤ j → AreUnder key (get_or givens j [])
  pub upto : (j : ℕ) → AreUpTo key (get_or givens j [])

-- A row is the last of the fold of what was given: the rows of its key are being combined in it, of which the last of the first n inputs gave one.
pub record IsGathering {R : Type 0} (bytes : R → Option (List ℕ)) (low : Option (List ℕ)) (s : Columns) (inputs : List (Input R)) (cursors : List Cursor) (n : ℕ) (row : Row) (front : List Row) (givens : List (List Row)) : Type 0 where
  pub alike : AreAlike s (knowns_of bytes inputs)
  pub given : HasGivens bytes low inputs cursors givens
  pub ready : AreReady (length inputs) inputs cursors
  pub stage : IsStage row.key n (hands_of cursors) givens
  pub formed : (j : ℕ) → AreRowsOf s (get_or givens j [])
  pub fold : folded (aggs_of s) givens ≡ front ++ row ∷ []
  pub below : AreUnder row.key front
  pub here : (j : ℕ) → n ≡ j + 1 → HasKey row.key (get_or givens j [])
  pub form : IsRowOf s row

-- Of inputs that are lifted to these columns just these rows were given, so that all rows to come are above them.
pub record IsMerging {R : Type 0} (bytes : R → Option (List ℕ)) (low : Option (List ℕ)) (s : Columns) (inputs : List (Input R)) (cursors : List Cursor) (givens : List (List Row)) : Type 0 where
  pub alike : AreAlike s (knowns_of bytes inputs)
  pub given : HasGivens bytes low inputs cursors givens
  pub ready : AreReady (length inputs) inputs cursors
  pub formed : (j : ℕ) → AreRowsOf s (get_or givens j [])
  pub rising : AreAbove (hands_of cursors) givens
