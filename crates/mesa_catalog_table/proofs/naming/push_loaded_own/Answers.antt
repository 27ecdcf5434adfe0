use Rattle.std.proofs.Common.{◌++◌, ◌∙◌, ap}
use Rattle.mesa_store_spec.specs.Catalog.{Delta}
use Rattle.mesa_catalog_table.specs.Named.{own_ids, single_own}
use Rattle.mesa_catalog_table.proofs.Pushes.{pushed_all, pushed_more}
use Rattle.mesa_catalog_table.proofs.naming.push_loaded_own.Goals as goal

pub loop-single-preserved : goal.loop-single-preserved
loop-single-preserved c = pushed_more single_own _ _ _ c.args.loaded.now c.loop-single.single-index c.single-item.result c.loop-single-test.true c.single-item.is c.loop-single.invariant (c.in_ok-push_own.ensures ∙ ap (λ (d : Delta). c.loop-single.ids.items ++ own_ids d) c.deref.ensures)

pub returns : goal.returns
returns c = pushed_all single_own _ _ c.args.loaded.now c.loop-single.single-index c.loop-single-test.false c.loop-single.invariant
