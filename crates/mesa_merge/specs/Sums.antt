-- Sums that leave their type, and which file is told of.
use Rattle.std.specs.Prelude.{◌≡◌, ◌⊎◌, ℕ, ◌<◌, ◌≤◌, List, [], ◌∷◌, get_or}
use Rattle.mesa_scan.specs.mesa_file.declared.damage.Damage.{Damage}
use Rattle.mesa_scan.specs.mesa_file.declared.damage.Seen.TheVariants as seen
use Rattle.mesa_scan.specs.mesa_columns.declared.rows.Row.{Row}
use Rattle.mesa_scan.specs.mesa_fold.Laws.{AreUnder}

-- the first row at hand has this key
abbrev pub HasHead : List ℕ → List Row → Type 0
HasHead key [] = ⊥
HasHead key (row ∷ rows) = row.key ≡ key

-- one of the rows has this key
abbrev pub HasKey : List ℕ → List Row → Type 0
HasKey key [] = ⊥
HasKey key (row ∷ rows) = (row.key ≡ key) ⊎ HasKey key rows

-- Of the inputs this one is the newest that has given a row of a key: each newer one has given rows of lesser keys alone.
pub record IsLastOf (key : List ℕ) (at : ℕ) (givens : List (List Row)) : Type 0 where
  pub holds : HasKey key (get_or givens at [])
  pub newer : (j : ℕ) → at < j → AreUnder key (get_or givens j [])

-- Of this input and those behind it, this one is the last that holds a key, if it isn't the first of them: the first is known to hold it.
pub record IsNewest (key : List ℕ) (from i : ℕ) (hands : List (List Row)) : Type 0 where
  pub behind : from ≤ i
  pub holds : (i ≡ from) ⊎ HasHead key (get_or hands i [])
  pub last : (j : ℕ) → i < j → HasHead key (get_or hands j []) → ⊥

-- the damage of a file whose rows make a sum leave its type: the file can't be one of a sound store
abbrev pub sum_damage : ℕ → Damage
sum_damage file = record { file = file; place = 0; want = seen.Fits; found = seen.Misfit 0 }
