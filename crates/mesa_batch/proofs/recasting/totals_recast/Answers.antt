use Rattle.std.proofs.Common.{◌++◌, ◌∙◌, ◌∷◌, [], List, ℕ, ap, map}
use Rattle.mesa_schema.specs.mesa_columns.declared.columns.ValueColumn.{ValueColumn}
use Rattle.mesa_schema.specs.mesa_columns.Columns.{places_in}
use Rattle.mesa_batch.specs.Totals.{chosen_totals}
use Rattle.mesa_batch.proofs.KeptTotals.{kept_next}
use Rattle.mesa_batch.proofs.recasting.totals_recast.Goals as goal

pub names-preserved : goal.names-preserved
names-preserved c =
    let names = map (λ (x : ValueColumn). x.name) c.args.columns.now in
    let aggs = map (λ (x : ValueColumn). x.agg) c.args.columns.now in
    let grown = c.in_ok-push_named.ensures ∙ ap (λ (totals : List ℕ). c.names.after ++ chosen_totals aggs totals (places_in names (c.name-item.result ∷ []))) c.as_slice.ensures in
    kept_next aggs c.args.totals.now names c.args.names.now c.name-item.result c.names.name-index c.names.after c.push_named.new.after (chosen_totals aggs c.args.totals.now (places_in names c.args.names.now))
    c.names-test.true c.name-item.is grown c.names.invariant
