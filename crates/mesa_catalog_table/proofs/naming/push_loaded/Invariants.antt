use Rattle.std.proofs.Common.{◌≡◌, ◌++◌, take}
use Rattle.std.specs.Prelude.{flat_map}
use Rattle.mesa_catalog_table.proofs.Pushes.{ids_to}
use Rattle.mesa_catalog_table.proofs.naming.push_loaded.Given as goal

-- the ids of the versions so far
abbrev pub invariant-loop-single : goal.invariant-loop-single
invariant-loop-single l = l.ids.items ≡ l.initial.ids.items ++ flat_map (ids_to l.to) (take l.single-index l.loaded)
