use Rattle.std.proofs.Common.{◌<◌, [], sym, ◌∙◌, ap, subst}
use Rattle.std.specs.List.{AllByRecursion}
use Rattle.mesa_compact.specs.mesa_columns.Columns.{Columns, aggs_of}
use Rattle.mesa_batch.specs.Totals.{abs_totals, sum_bound, sum_places}
use Rattle.mesa_copy.proofs.Counting.{none_passes, none_whole}
use Rattle.mesa_copy.proofs.range.rewrite_none.Goals as goal

pub returns-in-Ok-clause-totals : goal.returns-in-Ok-clause-totals
returns-in-Ok-clause-totals g c = λ r is.
    let places = sum_places 0 (aggs_of c.present.result.now) in
    c.in-Ok.ensures ∙ none_whole places ∙ ap (λ (t : Columns). abs_totals t []) (c.present.ensures.columns ∙ is.renewed)

pub returns-in-Ok-clause-small : goal.returns-in-Ok-clause-small
returns-in-Ok-clause-small g c =
    let places = sum_places 0 (aggs_of c.present.result.now) in
    subst (AllByRecursion (λ n. n < sum_bound)) (sym (c.in-Ok.ensures ∙ none_whole places)) (none_passes places)
