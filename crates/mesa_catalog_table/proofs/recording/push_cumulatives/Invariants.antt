use Rattle.std.proofs.Common.{◌≡◌, ◌++◌, take}
use Rattle.std.specs.Prelude.{flat_map}
use Rattle.mesa_catalog_table.specs.Files.{recorded_shared}
use Rattle.mesa_catalog_table.proofs.recording.push_cumulatives.Given as goal

-- the files of the deltas so far
abbrev pub invariant-loop-delta : goal.invariant-loop-delta
invariant-loop-delta l = l.files.items ≡ l.initial.files.items ++ flat_map (recorded_shared l.evolving) (take l.delta-index l.cumulatives)
