use Rattle.std.proofs.Common.{◌∙◌, ap}
use Rattle.std.specs.Prelude.{min}
use Rattle.mesa_filter.proofs.Pruning.{filter_keeps}
use Rattle.mesa_filter.proofs.filter.Filter.may_meet.Goals as goal

pub returns-clause-no_key_lost : goal.returns-clause-no_key_lost
returns-clause-no_key_lost c =
    filter_keeps c.args.self.now c.self.inside.kinds c.as_slice.result.now c.self.inside.terms c.as_slice-2.result.now c.args.columns c.min-count.result c.args.low.now c.args.high.now c.columns_may_meet.result c.fits-low c.fits-high c.told-low c.told-high
    c.self.view_is c.as_slice.ensures c.as_slice-2.ensures (c.min-count.ensures ∙ ap (λ n. min n c.args.columns) c.len.ensures) c.columns_may_meet.ensures
