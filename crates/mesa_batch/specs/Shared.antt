-- Columns that are shared with a catalogue.
use Rattle.std.specs.Prelude.{List, map}
use Rattle.std.specs.declared.alloc.Global.{Global}
use Rattle.std.specs.declared.sync.Arc.{Arc}
use Rattle.mesa_schema.specs.mesa_columns.Columns.{Columns}
use Rattle.mesa_schema.specs.Changes.{Lineage, columns_of}

-- the present columns of tables
abbrev pub shared_columns : List (Arc Lineage Global) → List Columns
shared_columns tables = map (λ (t : Arc Lineage Global). columns_of t.value) tables
