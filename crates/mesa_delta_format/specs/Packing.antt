-- Blocks that are as full as they can be.
use Rattle.std.specs.Prelude.{◌≡◌, List, [], ◌∷◌, ◌++◌, take, false}
use Rattle.mesa_columns.specs.declared.rows.Row.{Row}
use Rattle.mesa_block.specs.Layout.{Layout}
use Rattle.mesa_block.specs.Fill.{fit}

-- No block but the last has room for the first row of the next.
abbrev pub Packed : Layout → List (List Row) → Type 0
Packed s [] = Unit {0}
Packed s (part ∷ []) = Unit {0}
Packed s (part ∷ next ∷ parts) = (fit s (part ++ take 1 next) ≡ false) × Packed s (next ∷ parts)

-- the last block
abbrev pub last_part : List (List Row) → List Row
last_part [] = []
last_part (part ∷ []) = part
last_part (part ∷ next ∷ parts) = last_part (next ∷ parts)
