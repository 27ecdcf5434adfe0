-- What a load sees of a catalogue.
use Rattle.std.specs.Prelude.{ℕ, List, map}
use Rattle.mesa_schema.specs.mesa_columns.Columns.{Columns}
use Rattle.mesa_schema.specs.Changes.{Lineage, columns_of}
use Rattle.mesa_batch.specs.Batch.{Named}

-- a table's name, and its columns through its life
pub record Known : Type 0 where
  pub name : List ℕ
  pub lineage : Lineage

-- the tables by their numbers, and how often the catalogue's tables, views and columns had changed by then
pub record Sight : Type 0 where
  pub generation : ℕ
  pub tables : List Known

-- the tables' names
abbrev pub names_in : Sight → List (List ℕ)
names_in sight = map (λ (t : Known). t.name) sight.tables

-- the tables' present columns
abbrev pub columns_in : Sight → List Columns
columns_in sight = map (λ (t : Known). columns_of t.lineage) sight.tables

-- The tables by which a load's rows are read: their names and their present columns.
abbrev pub tables_of : Sight → List Named
tables_of sight = map (λ (t : Known). record { name = t.name; columns = columns_of t.lineage }) sight.tables
