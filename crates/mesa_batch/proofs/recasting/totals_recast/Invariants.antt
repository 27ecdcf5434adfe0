use Rattle.std.proofs.Common.{◌≡◌, ◌++◌, drop, map}
use Rattle.mesa_schema.specs.mesa_columns.declared.columns.ValueColumn.{ValueColumn}
use Rattle.mesa_schema.specs.mesa_columns.Columns.{places_in}
use Rattle.mesa_batch.specs.Totals.{chosen_totals}
use Rattle.mesa_batch.proofs.recasting.totals_recast.Given as goal

-- the totals of the names so far, and those of the names that are left
abbrev pub invariant-names : goal.invariant-names
invariant-names l =
    let all = map (λ (c : ValueColumn). c.name) l.columns in
    let aggs = map (λ (c : ValueColumn). c.agg) l.columns in
    l.after ++ chosen_totals aggs l.totals (places_in all (drop l.name-index l.names)) ≡ chosen_totals aggs l.totals (places_in all l.names)
