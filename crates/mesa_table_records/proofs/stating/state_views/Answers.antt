use Rattle.std.proofs.Common.{◌++◌, ◌∷◌, [], ◌∙◌, ap, sym, take}
use Rattle.std.proofs.lemmas.List.{take_more}
use Rattle.std.proofs.lemmas.Option.{get_or_from_slice_get, slice_get_within}
use Rattle.mesa_catalog_table.specs.mesa_columns.declared.views.View.{View}
use Rattle.mesa_table_records.proofs.stating.state_views.Goals as goal

pub loop-view-preserved : goal.loop-view-preserved
loop-view-preserved c =
    let views = c.args.evolving.now.views in
    let i = c.loop-view.view in
    let view = c.view.result.now in
    let here = get_or_from_slice_get views i view view c.view.ensures in
    c.in_ok-push.ensures.items ∙ (λ k. c.loop-view.invariant k ++ c.in_ok-copy.ensures k ∷ [])
    ∙ ap (λ (v : View). take i views ++ v ∷ []) (sym here) ∙ sym (take_more views i view (slice_get_within views i view c.view.ensures))
