use Rattle.std.proofs.Common.{◌≡◌, take}
use Rattle.mesa_table_records.proofs.stating.state_views.Given as goal

-- the views so far
abbrev pub invariant-loop-view : goal.invariant-loop-view
invariant-loop-view l = l.views.items ≡ take l.view l.evolving.views
