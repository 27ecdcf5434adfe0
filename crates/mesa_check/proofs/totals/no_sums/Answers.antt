use Rattle.std.proofs.Common.{◌∙◌, ap, map}
use Rattle.std.specs.Prelude.{replicate}
use Rattle.mesa_pick_files.specs.mesa_columns.Columns.{aggs_of}
use Rattle.mesa_pick_files.specs.mesa_columns.declared.columns.ValueColumn.{ValueColumn}
use Rattle.mesa_batch.specs.Totals.{sum_places, sums_in}
use Rattle.mesa_check.proofs.Sums.{none_counted}
use Rattle.mesa_check.proofs.totals.no_sums.Goals as goal

pub returns : goal.returns
returns c =
    c.into_vec.ensures ∙ c.in_ok-none.ensures ∙ ap (λ vs. replicate (sums_in (map (λ (x : ValueColumn). x.agg) vs)) 0) c.values.ensures.same ∙ none_counted (sum_places 0 (aggs_of c.args.schema.now))
