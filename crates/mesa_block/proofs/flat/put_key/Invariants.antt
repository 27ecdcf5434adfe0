use Rattle.std.proofs.Common.{◌≡◌, ◌++◌, drop}
use Rattle.mesa_block.specs.Reading.{key_at}
use Rattle.mesa_block.proofs.flat.put_key.Given as goal

abbrev pub invariant-loop-j : goal.invariant-loop-j
invariant-loop-j l = l.bytes.items ++ key_at (drop l.j l.kinds) (drop l.j l.columns) l.i ≡ l.initial.bytes.items ++ key_at l.kinds l.columns l.i
