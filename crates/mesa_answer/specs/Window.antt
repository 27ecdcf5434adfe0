-- Which part of a row is put into its group, where it stands there in one piece.
use Rattle.std.specs.Prelude.{◌≡◌, ℕ, List, take, drop}
use Rattle.std.specs.List.{AllByRecursion, concat}
use Rattle.mesa_key.specs.declared.KeyType.{KeyType}
use Rattle.mesa_key.specs.declared.KeyType.TheVariants as kind
use Rattle.mesa_key.specs.Spelling.{columns_of}
use Rattle.mesa_model.specs.mesa_columns.declared.rows.Row.{Row}
use Rattle.mesa_model.specs.mesa_columns.Columns.{chosen}
use Rattle.mesa_answer.specs.declared.window.Window.{Window}

-- each of these types is that of ints
abbrev pub AreInts : List KeyType → Type 0
AreInts kinds = AllByRecursion (λ k. k ≡ kind.Int) kinds

-- what it shows of a row: a piece of its key and one of its values
abbrev pub in_window : Window → Row → Row
in_window c row = record { key = take c.key_len (drop c.key_at row.key); values = take c.values_len (drop c.values_at row.values) }

-- THE WINDOW: in every row it shows the columns at these places.
abbrev pub IsWindow : List KeyType → List ℕ → List ℕ → Window → Type 0
IsWindow kinds columns values c = (row : Row) → in_window c row ≡ record { key = concat (chosen columns (columns_of kinds row.key)); values = chosen values row.values }
