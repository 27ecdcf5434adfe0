use Rattle.std.proofs.Common.{◌++◌, ◌∷◌, [], ◌∙◌, ap, refl}
use Rattle.mesa_catalog_table.specs.Files.{recorded_view}
use Rattle.mesa_catalog_table.proofs.Pushes.{pushed_each, pushed_one}
use Rattle.mesa_catalog_table.proofs.recording.push_views.Goals as goal

pub loop-view-preserved : goal.loop-view-preserved
loop-view-preserved c =
    let one = c.recorded.ensures _ (c.count_seen-columns.ensures _ refl) in
    pushed_one (recorded_view c.args.evolving.now) _ _ _ c.args.views.now c.loop-view.view-index c.view-item.result c.loop-view-test.true c.view-item.is c.loop-view.invariant (c.in_ok-push.ensures.items ∙ ap (λ r. c.loop-view.files.items ++ r ∷ []) one)

pub returns : goal.returns
returns c = pushed_each (recorded_view c.args.evolving.now) _ _ c.args.views.now c.loop-view.view-index c.loop-view-test.false c.loop-view.invariant
