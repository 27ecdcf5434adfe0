use Rattle.std.proofs.Common.{◌≡◌, ◌++◌, take}
use Rattle.std.specs.Prelude.{flat_map}
use Rattle.mesa_catalog_table.specs.Files.{recorded_single}
use Rattle.mesa_catalog_table.proofs.recording.push_loaded.Given as goal

-- the files of the versions so far
abbrev pub invariant-loop-single : goal.invariant-loop-single
invariant-loop-single l = l.files.items ≡ l.initial.files.items ++ flat_map (recorded_single l.evolving) (take l.single-index l.loaded)
