use Rattle.std.proofs.Common.{◌++◌, ◌∙◌, ap, map}
use Rattle.mesa_store_spec.specs.Catalog.{Delta}
use Rattle.mesa_store_spec.specs.Fitting.{delta_live}
use Rattle.mesa_catalog_table.specs.Files.{recorded_of, recorded_single}
use Rattle.mesa_catalog_table.proofs.Pushes.{pushed_all, pushed_more}
use Rattle.mesa_catalog_table.proofs.recording.push_loaded.Goals as goal

pub loop-single-preserved : goal.loop-single-preserved
loop-single-preserved c = pushed_more (recorded_single c.args.evolving.now) _ _ _ c.args.loaded.now c.loop-single.single-index c.single-item.result c.loop-single-test.true c.single-item.is c.loop-single.invariant (c.in_ok-push_delta.ensures ∙ ap (λ (d : Delta). c.loop-single.files.items ++ map recorded_of (delta_live c.args.evolving.now d)) c.deref.ensures)

pub returns : goal.returns
returns c = pushed_all (recorded_single c.args.evolving.now) _ _ c.args.loaded.now c.loop-single.single-index c.loop-single-test.false c.loop-single.invariant
