use Rattle.std.proofs.Common.{◌≡◌, ◌++◌, map, take}
use Rattle.mesa_catalog_table.specs.Named.{view_id}
use Rattle.mesa_catalog_table.proofs.naming.push_views.Given as goal

-- the ids of the files so far
abbrev pub invariant-loop-view : goal.invariant-loop-view
invariant-loop-view l = l.ids.items ≡ l.initial.ids.items ++ map view_id (take l.view-index l.views)
