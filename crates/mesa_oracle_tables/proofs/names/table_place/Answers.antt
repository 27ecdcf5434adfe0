use Rattle.std.proofs.Common.{arith}
use Rattle.mesa_schema.proofs.mesa_columns.Maps.{position_map}
use Rattle.mesa_oracle_tables.proofs.names.table_place.Goals as goal

pub returns-clause-place : goal.returns-clause-place
returns-clause-place c = grind (arith, position_map)
