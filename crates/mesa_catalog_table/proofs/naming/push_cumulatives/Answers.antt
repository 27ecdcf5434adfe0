use Rattle.std.proofs.Common.{◌++◌, ◌∙◌, ap}
use Rattle.mesa_catalog_table.specs.Named.{delta_ids, shared_ids}
use Rattle.mesa_catalog_table.proofs.Pushes.{pushed_all, pushed_more}
use Rattle.mesa_catalog_table.proofs.naming.push_cumulatives.Goals as goal

pub loop-delta-preserved : goal.loop-delta-preserved
loop-delta-preserved c = pushed_more shared_ids _ _ _ c.args.cumulatives.now c.loop-delta.delta-index c.delta-item.result c.loop-delta-test.true c.delta-item.is c.loop-delta.invariant (c.in_ok-push_delta.ensures ∙ ap (λ d. c.loop-delta.ids.items ++ delta_ids d) c.deref.ensures)

pub returns : goal.returns
returns c = pushed_all shared_ids _ _ c.args.cumulatives.now c.loop-delta.delta-index c.loop-delta-test.false c.loop-delta.invariant
