use Rattle.std.proofs.Common.{◌≡◌, drop}
use Rattle.mesa_catalog.specs.Restored.{ids_above, ids_rise}
use Rattle.mesa_catalog.proofs.restored_ids.rise.Given as goal

-- the ids that are left decide
abbrev pub invariant-loop-id : goal.invariant-loop-id
invariant-loop-id l = ids_above l.last (drop l.id-index l.others) ≡ ids_rise l.fn.ids
