-- What a lift makes of rows.
use Rattle.std.specs.Prelude.{ℕ, ℤ, pos, List, ◌++◌, map, slice_index_or, Option, None, Some}
use Rattle.mesa_columns.specs.declared.rows.Row.{Row}
use Rattle.mesa_columns.specs.declared.lifting.Lift.{Lift}
use Rattle.mesa_columns.specs.declared.lifting.Source.{Source}
use Rattle.mesa_columns.specs.declared.lifting.Source.TheVariants.{Default, Kept}

-- a value of a lifted row: the row's value at a place, or a default
abbrev pub value_from : List ℤ → Source → ℤ
value_from values (Kept place) = slice_index_or values place (pos 0)
value_from values (Default value) = value

-- a row with values from these sources, and these bytes behind its key
abbrev pub moved : List Source → List ℕ → Row → Row
moved sources suffix row = record { key = row.key ++ suffix; values = map (value_from row.values) sources }

-- the values of a lifted row, which stay where there are no sources
abbrev values_lifted : Option (List Source) → List ℤ → List ℤ
values_lifted None values = values
values_lifted (Some sources) values = map (value_from values) sources

-- A row as a lift makes it of another.
abbrev pub lifted_with : Lift → Row → Row
lifted_with lift row = record { key = row.key ++ lift.suffix; values = values_lifted lift.sources row.values }
