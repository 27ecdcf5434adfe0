use Rattle.mesa_block.proofs.Made.{values_by_columns, values_by_widths}
use Rattle.mesa_block.proofs.flat.count_of.Goals as goal

pub returns-then-widths-columns : goal.returns-then-widths-columns
returns-then-widths-columns c = λ i. values_by_widths c.args.widths.now c.args.columns.now i c.if-widths-columns.true

pub returns-else-widths-columns : goal.returns-else-widths-columns
returns-else-widths-columns c = λ i. values_by_columns c.args.widths.now c.args.columns.now i c.if-widths-columns.false
