use Rattle.std.proofs.Common.{◌++◌, ◌∙◌, ap}
use Rattle.mesa_catalog_table.proofs.Pushes.{ids_through_give, ids_to, pushed_all}
use Rattle.mesa_catalog_table.proofs.naming.push_loaded.Goals as goal

pub returns : goal.returns
returns c =
    pushed_all (ids_to c.args.to) _ _ c.args.loaded.now c.loop-single.single-index c.loop-single-test.false c.loop-single.invariant
    ∙ ap (λ ids. c.args.ids.now.items ++ ids) (ids_through_give c.args.to c.args.loaded.now)
