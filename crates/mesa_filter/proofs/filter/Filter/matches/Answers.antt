use Rattle.std.proofs.Common.{sym}
use Rattle.mesa_filter.proofs.Walks.{filter_meets}
use Rattle.mesa_filter.proofs.filter.Filter.matches.Goals as goal

pub returns : goal.returns
returns c = filter_meets c.args.self.now c.self.inside.kinds c.as_slice.result.now c.self.inside.terms c.as_slice-2.result.now c.args.key.now c.columns_meet.result (sym c.self.view_is) c.self.invariant.0 c.columns_meet.ensures c.as_slice.ensures c.as_slice-2.ensures
