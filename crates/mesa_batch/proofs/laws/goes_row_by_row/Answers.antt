use Rattle.mesa_batch.proofs.RowByRow.{row_by_row}
use Rattle.mesa_batch.proofs.laws.goes_row_by_row.Goals as goal

pub returns : goal.returns
returns c = row_by_row
