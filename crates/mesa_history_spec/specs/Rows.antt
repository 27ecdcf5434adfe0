-- The rows of the files that a store holds when a run begins.
use Rattle.std.specs.Prelude.{ℕ, List, []}
use Rattle.mesa_script.specs.mesa_columns.declared.rows.Row.{Row}

-- the rows of each file, by the file's id
abbrev pub Rows : Type 0
Rows = ℕ → List Row

-- no rows at all
abbrev pub no_rows : Rows
no_rows id = []
