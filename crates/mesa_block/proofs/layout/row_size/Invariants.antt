use Rattle.std.proofs.Common.{◌≡◌, take}
use Rattle.mesa_block.specs.Layout.{values_size, widths_in}
use Rattle.mesa_block.proofs.layout.row_size.Given as goal

abbrev pub invariant-loop-column : goal.invariant-loop-column
invariant-loop-column l = l.size ≡ values_size (widths_in l.format (take l.column-index l.schema.values))
