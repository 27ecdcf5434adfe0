-- The cells of a column, as they are held.
use Rattle.std.specs.Prelude.{◌≡◌, ℕ, zero, suc, ◌*◌, List, [], ◌∷◌, length, take, drop}
use Rattle.mesa_columns.specs.mesa_key.declared.KeyType.{KeyType}
use Rattle.mesa_columns.specs.mesa_key.declared.KeyType.TheVariants as kind

-- the first so many pieces, each of the same size
abbrev pub pieces : ℕ → ℕ → List ℕ → List (List ℕ)
pieces size zero bytes = []
pieces size (suc n) bytes = take size bytes ∷ pieces size n (drop size bytes)

-- the cells of a key column: so many ints in its bytes, or its texts
abbrev pub cells_in : KeyType → ℕ → List ℕ → List (List ℕ) → List (List ℕ)
cells_in kind.Int count bytes texts = pieces 8 count bytes
cells_in kind.Text count bytes texts = texts

-- The bytes of ints are eight for each.
abbrev pub IsWhole : KeyType → ℕ → List ℕ → Type 0
IsWhole kind.Int count bytes = length bytes ≡ 8 * count
IsWhole kind.Text count bytes = Unit {0}
