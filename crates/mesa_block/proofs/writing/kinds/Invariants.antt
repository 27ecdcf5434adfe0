use Rattle.std.proofs.Common.{◌≡◌, map, take}
use Rattle.mesa_block.proofs.writing.kinds.Given as goal

abbrev pub invariant-loop-column : goal.invariant-loop-column
invariant-loop-column l = l.kinds.items ≡ map (λ c. c.kind) (take l.column-index l.schema.keys)
