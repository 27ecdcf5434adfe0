use Rattle.std.proofs.Common.{◌≡◌, ◌+◌}
use Rattle.mesa_filter.specs.Asked.{places_below}
use Rattle.mesa_model.specs.Orders.{leading}
use Rattle.mesa_order.proofs.Scores.{places_from}
use Rattle.mesa_order.proofs.scoring.table_score.Given as goal

-- the columns so far lead, and those that are left are still to be counted
abbrev pub invariant-places : goal.invariant-places
invariant-places l = l.place + leading l.terms (places_from l.place l.columns) ≡ leading l.terms (places_below l.columns)
