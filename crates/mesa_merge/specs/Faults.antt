-- When a fault of one of several readers may be answered, told by their counts of faults.
use Rattle.std.specs.Prelude.{◌≡◌, ◌⊎◌, ℕ, ◌≤◌, List, [], ◌∷◌, map, Result, OnOk, IfErr, ⊤}
use Rattle.mesa_scan.specs.mesa_io.Causes.{Rose}
use Rattle.mesa_delta.specs.declared.input.Input.{Input}
use Rattle.mesa_scan.specs.Cursors.{reader_in}

-- the counts of faults of the inputs' readers
abbrev pub faults_of : {R : Type 0} → (R → ℕ) → List (Input R) → List ℕ
faults_of faults inputs = map (λ i. faults (reader_in i)) inputs

-- none of the counts fell
abbrev pub NoneFell : List ℕ → List ℕ → Type 0
NoneFell [] [] = ⊤
NoneFell [] (n ∷ ns) = ⊥
NoneFell (b ∷ bs) [] = ⊥
NoneFell (b ∷ bs) (n ∷ ns) = (b ≤ n) × NoneFell bs ns

-- one of them rose
abbrev pub SomeRose : List ℕ → List ℕ → Type 0
SomeRose [] ns = ⊥
SomeRose (b ∷ bs) [] = ⊥
SomeRose (b ∷ bs) (n ∷ ns) = Rose b n ⊎ SomeRose bs ns

-- Counts of faults never fall. One rose where the call ended in a fault, and with any other end they stay.
pub record HaveFaultCause {T E : Type 0} (IsFault : E → Type 0) (before now : List ℕ) (result : Result T E) : Type 0 where
  pub later : NoneFell before now
  pub failed : IfErr result (λ e. IsFault e → SomeRose before now)
  pub quiet : OnOk result (now ≡ before)
  pub other : IfErr result (λ e. (IsFault e → ⊥) → now ≡ before)
