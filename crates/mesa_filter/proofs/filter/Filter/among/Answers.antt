use Rattle.std.proofs.Common.{◌∙◌, ap}
use Rattle.mesa_filter.specs.Walk.{columns_named}
use Rattle.mesa_filter.proofs.PlacesAmong.{filter_moved}
use Rattle.mesa_filter.proofs.filter.Filter.among.Goals as goal

pub invariant_of-result : goal.invariant_of-result
invariant_of-result c = (
  filter_moved c.args.self.now c.args.keys.now c.self.inside.kinds c.kinds.result.now c.in_ok-kinds.kinds c.self.inside.terms c.as_slice.result.now c.in_ok-terms.terms
      c.requires.keys c.requires.terms c.self.view_is c.self.invariant.0 c.kinds.ensures c.in_ok-kinds.ensures c.as_slice.ensures c.in_ok-terms.ensures,
  c.last_named-named.ensures ∙ ap columns_named c.as_slice-2.ensures,
)
