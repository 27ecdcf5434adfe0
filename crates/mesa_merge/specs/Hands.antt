-- The rows at hand of inputs that are merged, and which of them comes next.
use Rattle.std.specs.Prelude.{◌≡◌, ℕ, ◌<◌, ◌≤◌, ◌⊎◌, List, [], ◌∷◌, map, get_or, Option, true, false}
use Rattle.std.specs.Ordering.{is_ge}
use Rattle.std.specs.declared.cmp.Ordering.TheVariants.{Less}
use Rattle.mesa_key.specs.Order.{byte_cmp}
use Rattle.mesa_scan.specs.mesa_columns.declared.rows.Row.{Row}
use Rattle.mesa_scan.specs.declared.cursor.Cursor.{Cursor}
use Rattle.mesa_scan.specs.Cursors.{at_hand}
use Rattle.mesa_scan.specs.Cut.{is_under}

-- the rows at hand of each input
abbrev pub hands_of : List Cursor → List (List Row)
hands_of cs = map at_hand cs

-- the first row at hand, if there is one, is above a key
abbrev pub IsAhead : List ℕ → List Row → Type 0
IsAhead key [] = Unit {0}
IsAhead key (row ∷ rows) = byte_cmp key row.key ≡ Less

-- and at or above a key
abbrev pub IsFrom : List ℕ → List Row → Type 0
IsFrom key [] = Unit {0}
IsFrom key (row ∷ rows) = is_ge (byte_cmp row.key key) ≡ true

-- and not below the high end of what is merged
abbrev pub IsPast : Option (List ℕ) → List Row → Type 0
IsPast high [] = Unit {0}
IsPast high (row ∷ rows) = is_under high row.key ≡ false

-- Of the inputs this one is the first whose row at hand has the least key.
pub record IsLeastAt (i : ℕ) (hands : List (List Row)) : Type 0 where
  pub row : Row
  pub rows : List Row
  pub there : get_or hands i [] ≡ row ∷ rows
  pub before : (j : ℕ) → j < i → IsAhead row.key (get_or hands j [])
  pub each : (j : ℕ) → IsFrom row.key (get_or hands j [])

-- This one is, and that key is this one.
pub record IsLeastOf (key : List ℕ) (i : ℕ) (hands : List (List Row)) : Type 0 where
  pub least : IsLeastAt i hands
  pub is : least.row.key ≡ key

-- An input comes before another: its row at hand has the lesser key, or the same and the input is the older. One without a row at hand comes behind all.
abbrev pub ComesBefore : ℕ → List Row → ℕ → List Row → Type 0
ComesBefore a xs b [] = Unit {0}
ComesBefore a [] b (y ∷ ys) = ⊥
ComesBefore a (x ∷ xs) b (y ∷ ys) = (byte_cmp x.key y.key ≡ Less) ⊎ ((x.key ≡ y.key) × (a ≤ b))

abbrev pub IsBefore : List (List Row) → ℕ → ℕ → Type 0
IsBefore hands a b = ComesBefore a (get_or hands a []) b (get_or hands b [])
