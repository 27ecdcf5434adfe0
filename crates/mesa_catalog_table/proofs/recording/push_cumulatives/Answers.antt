use Rattle.std.proofs.Common.{◌++◌, ◌∙◌, ap, map}
use Rattle.mesa_store_spec.specs.Catalog.{Delta}
use Rattle.mesa_store_spec.specs.Fitting.{delta_live}
use Rattle.mesa_catalog_table.specs.Files.{recorded_of, recorded_shared}
use Rattle.mesa_catalog_table.proofs.Pushes.{pushed_all, pushed_more}
use Rattle.mesa_catalog_table.proofs.recording.push_cumulatives.Goals as goal

pub loop-delta-preserved : goal.loop-delta-preserved
loop-delta-preserved c = pushed_more (recorded_shared c.args.evolving.now) _ _ _ c.args.cumulatives.now c.loop-delta.delta-index c.delta-item.result c.loop-delta-test.true c.delta-item.is c.loop-delta.invariant (c.in_ok-push_delta.ensures ∙ ap (λ (d : Delta). c.loop-delta.files.items ++ map recorded_of (delta_live c.args.evolving.now d)) c.deref.ensures)

pub returns : goal.returns
returns c = pushed_all (recorded_shared c.args.evolving.now) _ _ c.args.cumulatives.now c.loop-delta.delta-index c.loop-delta-test.false c.loop-delta.invariant
