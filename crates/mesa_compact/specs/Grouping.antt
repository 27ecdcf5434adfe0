-- A table's rows that are grouped for its views while they are merged.
use Rattle.std.specs.Prelude.{◌≡◌, List}
use Rattle.std.specs.List.{AllByRecursion}
use Rattle.mesa_open_files.specs.mesa_columns.declared.rows.Row.{Row}
use Rattle.mesa_open_files.specs.mesa_columns.Columns.{Columns}
use Rattle.mesa_answer.specs.Gathered.{HasPut, wanted_of}
use Rattle.mesa_answer.specs.declared.groups.Groups.{Groups}

-- just these rows were put into each gatherer
abbrev pub HavePut : List Groups → List Row → Type 0
HavePut groups rows = AllByRecursion (λ (g : Groups). HasPut g rows) groups

-- a gatherer takes rows of these columns
abbrev pub TakesRows : Columns → Groups → Type 0
TakesRows s g = (wanted_of g).schema ≡ s
