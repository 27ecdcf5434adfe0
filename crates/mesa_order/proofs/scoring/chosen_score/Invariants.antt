use Rattle.std.proofs.Common.{◌≡◌, ◌≤◌, ◌+◌, drop, map}
use Rattle.mesa_model.specs.mesa_columns.declared.columns.KeyColumn.{KeyColumn}
use Rattle.mesa_model.specs.mesa_columns.Columns.{places_in}
use Rattle.mesa_model.specs.Orders.{leading}
use Rattle.mesa_order.proofs.scoring.chosen_score.Given as goal

-- the columns so far lead, and those that are left are still to be counted
abbrev pub invariant-names : goal.invariant-names
invariant-names l = record {
  few : l.count ≤ l.name-index;
  leads : l.count + leading l.terms (places_in (map (λ (c : KeyColumn). c.name) l.columns) (drop l.name-index l.names)) ≡ leading l.terms (places_in (map (λ (c : KeyColumn). c.name) l.columns) l.names);
}
