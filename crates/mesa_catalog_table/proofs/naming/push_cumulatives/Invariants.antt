use Rattle.std.proofs.Common.{◌≡◌, ◌++◌, take}
use Rattle.std.specs.Prelude.{flat_map}
use Rattle.mesa_catalog_table.specs.Named.{shared_ids}
use Rattle.mesa_catalog_table.proofs.naming.push_cumulatives.Given as goal

-- the ids of the deltas so far
abbrev pub invariant-loop-delta : goal.invariant-loop-delta
invariant-loop-delta l = l.ids.items ≡ l.initial.ids.items ++ flat_map shared_ids (take l.delta-index l.cumulatives)
