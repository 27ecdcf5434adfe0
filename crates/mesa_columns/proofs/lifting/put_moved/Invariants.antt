use Rattle.std.proofs.Common.{◌≡◌, map, take}
use Rattle.mesa_columns.specs.Lifting.{value_from}
use Rattle.mesa_columns.proofs.lifting.put_moved.Given as goal

-- what the sources so far give
abbrev pub invariant-loop-source : goal.invariant-loop-source
invariant-loop-source l = l.found.items ≡ map (value_from l.values) (take l.source-index l.sources)
