-- The short key of an open block.
use Rattle.std.specs.Prelude.{ℕ, List, [], ◌∷◌, Option, Some, None}
use Rattle.mesa_delta_format.specs.mesa_key.Order.{short_key}
use Rattle.mesa_delta_format.specs.mesa_columns.declared.rows.Row.{Row}

-- the short key of the first of these rows, once there is one
abbrev pub begun : List Row → Option (List ℕ)
begun [] = None
begun (row ∷ rows) = Some (short_key row.key)
