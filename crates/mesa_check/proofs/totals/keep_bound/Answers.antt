use Rattle.std.proofs.Common.{◌∙◌, ap, nat_lt}
use Rattle.std.specs.List.{list_all}
use Rattle.mesa_batch.specs.Totals.{sum_bound}
use Rattle.mesa_check.proofs.Sums.{bounded_counted}
use Rattle.mesa_check.proofs.totals.keep_bound.Goals as goal

pub returns : goal.returns
returns c = λ xs is. c.is_each_bounded.ensures ∙ ap (list_all (λ total. nat_lt total sum_bound)) is ∙ bounded_counted xs
