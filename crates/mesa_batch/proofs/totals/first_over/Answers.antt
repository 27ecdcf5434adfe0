use Rattle.std.proofs.Common.{arith}
use Rattle.mesa_schema.proofs.mesa_columns.Maps.{position_map}
use Rattle.mesa_batch.proofs.totals.first_over.Goals as goal

pub returns-clause-column : goal.returns-clause-column
returns-clause-column c = grind (arith, position_map)
