-- How the rows of a file are spread over its blocks.
use Rattle.std.specs.Prelude.{List, [], ◌∷◌, ◌++◌, Bool, true, false}
use Rattle.mesa_columns.specs.declared.rows.Row.{Row}
use Rattle.mesa_block.specs.Layout.{Layout}
use Rattle.mesa_block.specs.Fill.{fit}

-- The rows of the blocks that are full, and those of the open block.
pub record Filling : Type 0 where
  pub done : List (List Row)
  pub last : List Row

abbrev pub nothing_filled : Filling
nothing_filled = record { done = []; last = [] }

-- a row in the open block where it fits, else in the next one
abbrev pub placed : Bool → Filling → Row → Filling
placed true b row = record b { last = b.last ++ row ∷ [] }
placed false b row = record { done = b.done ++ b.last ∷ []; last = row ∷ [] }

-- One row more: it goes into the open block where it fits there, and else it begins the next one.
abbrev pub with_more : Layout → Filling → Row → Filling
with_more s b row = placed (fit s (b.last ++ row ∷ [])) b row

abbrev pub filled : Layout → Filling → List Row → Filling
filled s b [] = b
filled s b (row ∷ rows) = filled s (with_more s b row) rows

-- Rows fill block after block.
abbrev pub spread : Layout → List Row → Filling
spread s rows = filled s nothing_filled rows

-- The rows of each block of a file of at least one row.
abbrev pub blocks_of : Layout → List Row → List (List Row)
blocks_of s rows = (spread s rows).done ++ (spread s rows).last ∷ []
