use Rattle.mesa_block.proofs.Made.{IsLaid}
use Rattle.mesa_block.proofs.flat.made_rows.Given as goal

abbrev pub invariant-loop-i : goal.invariant-loop-i
invariant-loop-i l = IsLaid l.count l.kinds l.widths l.keys l.values l.i l.bytes.items l.ends.items l.found.items
