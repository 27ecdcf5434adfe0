use Rattle.std.proofs.Common.{◌+◌, ◌∙◌, ◌∷◌, [], sym, subst, take, ◌++◌}
use Rattle.std.specs.List.{AllByRecursion}
use Rattle.mesa_schema.proofs.mesa_columns.Lists.{all_map}
use Rattle.mesa_store_spec.proofs.Lists.{all_back, all_front, all_unmap}
use Rattle.mesa_store_spec.specs.Fitting.{LiveFile, view_live}
use Rattle.mesa_record.specs.declared.record.ViewRef.{ViewRef}
use Rattle.mesa_check.specs.Found.{IsFoundAs}
use Rattle.mesa_check.specs.Faults.{is_view_found}
use Rattle.mesa_check.specs.Tested.{HasRows}
use Rattle.mesa_compare.proofs.mesa_open_files.Counts.{counted_more, unmoved_more}
use Rattle.mesa_check.proofs.Lists.{all_item, all_more, all_more_pass, one_fails, taken_more}
use Rattle.mesa_check.proofs.files.are_views_found.Goals as goal

pub returns-then-not-branch-clause-found : goal.returns-then-not-branch-clause-found
returns-then-not-branch-clause-found g c = λ i found told are.
    let l = c.args.evolving.now.value in
    let views = c.args.views.now in
    let x = c.view-item.result in
    let n = c.views.view-index in
    let here = all_item (λ (v : ViewRef). IsFoundAs i (view_live l v) (found v.file.id)) views n x c.views-test.true c.view-item.is (all_unmap (λ (y : LiveFile). IsFoundAs i y (found y.file.id)) (view_live l) views are) in
    one_fails (is_view_found found l) views n x c.views-test.true c.view-item.is (sym (c.in_ok-is_view_found.ensures.found i found (c.views.invariant.unmoved.told ∙ told) here) ∙ c.if-not-branch.true)

pub views-preserved : goal.views-preserved
views-preserved g c =
    let l = c.args.evolving.now.value in
    let views = c.args.views.now in
    let x = c.view-item.result in
    let n = c.views.view-index in
    let h = c.views-test.true in
    let is = c.view-item.is in
    let inv = c.views.invariant in
    let one = c.in_ok-is_view_found.ensures in
    record {
      unmoved = unmoved_more _ _ _ inv.unmoved one.unmoved;
      counted = counted_more _ _ _ _ inv.counted one.counted;
      found = λ i found told are.
          let P = λ (v : ViewRef). IsFoundAs i (view_live l v) (found v.file.id) in
          let all : AllByRecursion P (take n views ++ x ∷ []) = subst (AllByRecursion P) (taken_more views n x h is) (all_unmap (λ (y : LiveFile). IsFoundAs i y (found y.file.id)) (view_live l) (take (n + 1) views) are) in
          all_more_pass (is_view_found found l) views n x h is (inv.found i found told (all_map (λ (y : LiveFile). IsFoundAs i y (found y.file.id)) (view_live l) (take n views) (all_front P (take n views) (x ∷ []) all)))
          (sym c.if-not-branch.false ∙ one.found i found (inv.unmoved.told ∙ told) (all_back P (take n views) (x ∷ []) all).0);
      there = λ i told.
          all_map (HasRows i) (view_live l) (take (n + 1) views)
          (all_more (λ (v : ViewRef). HasRows i (view_live l v)) views n x h is (all_unmap (HasRows i) (view_live l) (take n views) (inv.there i told)) (one.there i (inv.unmoved.told ∙ told) c.if-not-branch.false));
    }
