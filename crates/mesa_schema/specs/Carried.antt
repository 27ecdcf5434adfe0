-- Rows that are carried through what becomes of their table's columns.
use Rattle.std.specs.Prelude.{List, [], ◌∷◌, map, ⊤}
use Rattle.mesa_columns.specs.declared.rows.Row.{Row}
use Rattle.mesa_columns.specs.declared.changes.Change.{Change}
use Rattle.mesa_columns.specs.Columns.{Columns}
use Rattle.mesa_columns.specs.Changes.{changed, lifted_once}
use Rattle.mesa_schema.specs.Lineages.{HasDefault}
use Rattle.mesa_schema.specs.Recasts.{IsRecastOf, Recast, recast_columns, recast_rows}

-- What becomes of a table's columns: a linked change, or a recast.
pub data Turn : Type 0 where
  Changed : Change → Turn
  Recasted : Recast → Turn

-- the columns after a turn
abbrev pub columns_then : Columns → Turn → Columns
columns_then s (Changed change) = changed s change
columns_then s (Recasted r) = recast_columns s r

-- rows of these columns after a turn of them: a change lifts each, a recast groups them
abbrev pub carried_once : Columns → Turn → List Row → List Row
carried_once s (Changed change) rows = map (lifted_once s change) rows
carried_once s (Recasted r) rows = recast_rows s r rows

-- the columns after turns, in order
abbrev pub columns_through : Columns → List Turn → Columns
columns_through s [] = s
columns_through s (turn ∷ turns) = columns_through (columns_then s turn) turns

-- Rows of these columns, carried through turns, in order.
abbrev pub carried : Columns → List Turn → List Row → List Row
carried s [] rows = rows
carried s (turn ∷ turns) rows = carried (columns_then s turn) turns (carried_once s turn rows)

-- what the rules say of a turn of these columns
abbrev pub IsTurnOf : Columns → Turn → Type 0
IsTurnOf s (Changed change) = HasDefault change
IsTurnOf s (Recasted r) = IsRecastOf s r

-- what they say of turns, in order: each is one of the columns that those before it leave
abbrev pub AreTurnsOf : Columns → List Turn → Type 0
AreTurnsOf s [] = ⊤
AreTurnsOf s (turn ∷ turns) = IsTurnOf s turn × AreTurnsOf (columns_then s turn) turns
