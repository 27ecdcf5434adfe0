use Rattle.std.proofs.Common.{◌≡◌, map, take}
use Rattle.mesa_catalog_table.specs.Copied.{value_in}
use Rattle.mesa_catalog_table.proofs.copying.share_cumulatives.Given as goal

-- the deltas so far
abbrev pub invariant-loop-delta : goal.invariant-loop-delta
invariant-loop-delta l = map value_in l.shared.items ≡ map value_in (take l.delta-index l.cumulatives)
