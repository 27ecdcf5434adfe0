use Rattle.std.proofs.Common.{◌≡◌, ℕ, List, map, drop}
use Rattle.mesa_batch.specs.Numbers.{known_of}
use Rattle.mesa_model.specs.Relations.{relation_from}
use Rattle.mesa_oracle_tables.specs.Kept.{Contents, From, tables_in}
use Rattle.mesa_oracle_tables.proofs.names.relation_place.Given as goal

-- the relation among the other tables is the relation among all
abbrev pub invariant-tables : goal.invariant-tables
invariant-tables l = (from : From) (totals : List (List ℕ)) (versions : List Contents)
    → relation_from l.number l.name (tables_in from l.number totals versions (drop l.number (map known_of l.tables))) ≡ relation_from 0 l.name (tables_in from 0 totals versions (map known_of l.tables))
