use Rattle.std.proofs.Common.{◌≤◌, take}
use Rattle.std.specs.List.{AllByRecursion}
use Rattle.mesa_catalog.proofs.restored_ids.greatest_of.Given as goal

-- none of the ids so far is greater
abbrev pub invariant-loop-id : goal.invariant-loop-id
invariant-loop-id l = AllByRecursion (λ id. id ≤ l.greatest) (take l.id-index l.ids)
