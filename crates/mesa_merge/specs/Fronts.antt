-- Keys as numbers, by which most of them are told apart.
use Rattle.std.specs.Prelude.{◌≡◌, ℕ, ◌-◌, ◌^◌, ◌<◌, List, [], ◌∷◌, length, get_or}
use Rattle.std.specs.Int.{w128, from_be_bytes}
use Rattle.mesa_key.specs.Order.{short_key}
use Rattle.mesa_key.specs.Spelling.{AreBytes}
use Rattle.mesa_scan.specs.mesa_columns.declared.rows.Row.{Row}

-- The front of a key is its short key, 16 bytes, as one number, the first byte the highest.
pub record IsFront (front : ℕ) (key : List ℕ) : Type 0 where
  pub bytes : AreBytes (short_key key)
  pub is : front ≡ from_be_bytes w128 (short_key key)

-- an input's front is that of its row at hand, or the greatest where it has none
abbrev pub HasFront : ℕ → List Row → Type 0
HasFront front [] = front ≡ 2 ^ 128 - 1
HasFront front (row ∷ rows) = IsFront front row.key

-- These are the fronts of inputs with these rows at hand.
pub record AreFronts (hands : List (List Row)) (fronts : List ℕ) : Type 0 where
  pub count : length fronts ≡ length hands
  pub each : (j : ℕ) → j < length hands → HasFront (get_or fronts j 0) (get_or hands j [])
