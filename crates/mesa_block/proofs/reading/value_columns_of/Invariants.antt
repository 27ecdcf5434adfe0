use Rattle.std.proofs.Common.{◌≡◌, drop}
use Rattle.mesa_block.specs.Reading.{with_front, value_columns_at}
use Rattle.mesa_block.proofs.reading.value_columns_of.Given as goal

abbrev pub invariant-loop-width : goal.invariant-loop-width
invariant-loop-width l = with_front l.columns.items (value_columns_at (drop l.width-index l.widths) l.r l.rest) ≡ value_columns_at l.widths l.r l.bytes
