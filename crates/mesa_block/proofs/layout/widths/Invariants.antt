use Rattle.std.proofs.Common.{◌≡◌, take}
use Rattle.mesa_block.specs.Layout.{widths_in}
use Rattle.mesa_block.proofs.layout.widths.Given as goal

abbrev pub invariant-loop-column : goal.invariant-loop-column
invariant-loop-column l = l.widths.items ≡ widths_in l.format (take l.column-index l.schema.values)
