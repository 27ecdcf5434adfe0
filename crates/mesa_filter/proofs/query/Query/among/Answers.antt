use Rattle.std.proofs.Common.{ap, sym}
use Rattle.mesa_filter.specs.Query.{BuiltQuery}
use Rattle.mesa_filter.proofs.PlacesAmong.{groups_stay}
use Rattle.mesa_filter.proofs.query.Query.among.Goals as goal

pub invariant_of-result : goal.invariant_of-result
invariant_of-result c =
    let q = c.self.inside in
    groups_stay c.args.self.now c.args.keys.now c.columns.result.now q.asking.columns c.in_ok-places_among.field-0 q.asking.filter.kinds c.in_ok-among.field-0.kinds q.group_kinds c.in_ok-copy.field-0
    c.requires.keys c.requires.columns (ap (λ (q : BuiltQuery). q.kinds) (sym c.self.view_is)) (ap (λ (q : BuiltQuery). q.asked.columns) (sym c.self.view_is))
    c.self.invariant c.in_ok-copy.ensures c.columns.ensures c.in_ok-places_among.ensures c.in_ok-among.ensures.kinds
