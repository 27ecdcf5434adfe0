use Rattle.std.proofs.Common.{◌≡◌, ◌++◌, take}
use Rattle.std.specs.Prelude.{flat_map}
use Rattle.mesa_catalog_table.specs.Named.{single_own}
use Rattle.mesa_catalog_table.proofs.naming.push_loaded_own.Given as goal

-- the ids of the versions so far
abbrev pub invariant-loop-single : goal.invariant-loop-single
invariant-loop-single l = l.ids.items ≡ l.initial.ids.items ++ flat_map single_own (take l.single-index l.loaded)
