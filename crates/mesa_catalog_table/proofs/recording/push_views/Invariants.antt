use Rattle.std.proofs.Common.{◌≡◌, ◌++◌, map, take}
use Rattle.mesa_catalog_table.specs.Files.{recorded_view}
use Rattle.mesa_catalog_table.proofs.recording.push_views.Given as goal

-- the files so far
abbrev pub invariant-loop-view : goal.invariant-loop-view
invariant-loop-view l = l.files.items ≡ l.initial.files.items ++ map (recorded_view l.evolving) (take l.view-index l.views)
