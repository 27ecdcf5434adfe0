use Rattle.std.proofs.Common.{◌∙◌, ◌<◌, ap, sym, subst, refl, map, List, ℕ}
use Rattle.std.specs.Prelude.{IfSome, is_some, Option}
use Rattle.std.specs.List.{AllByRecursion, list_all}
use Rattle.mesa_batch.specs.Totals.{sum_bound}
use Rattle.mesa_store_spec.specs.Fitting.{view_live}
use Rattle.mesa_record.specs.declared.record.ViewRef.{ViewRef}
use Rattle.mesa_compare.specs.mesa_examine.declared.totals.Sums.{Sums}
use Rattle.mesa_check.specs.Found.{AreFound}
use Rattle.mesa_check.specs.Faults.{agrees_if_any, is_view_found}
use Rattle.mesa_check.specs.Held.{delta_of}
use Rattle.mesa_check.specs.Tested.{AreSumsAt, HasRows, IsTestIn}
use Rattle.mesa_check.specs.declared.range.Held.{Held}
use Rattle.mesa_check.proofs.Recorded.{files_found, of_files, own_lost, views_lost}
use Rattle.mesa_check.proofs.testing.test_files.Goals as goal

pub returns-in_default-clause-test : goal.returns-in_default-clause-test
returns-in_default-clause-test g c =
    let told = (g.D.Disk.story c.args.disk.now).told in
    let l = c.args.evolving.now.value in
    let d = delta_of c.args.range in
    let t = c.not_found.result in
    let own = c.in_ok-sums.ensures.some in
    subst (λ (r : Held). IsTestIn told l (delta_of r) t) (sym c.not_found.ensures.range)
    (of_files told l d c.args.files.now t c.requires.files (own_lost told l d.epoch c.args.files.now d.totals c.epoch.result t c.epoch.ensures (λ i rows is found. sym (ap is_some c.in_default.is) ∙ own i rows is found) c.not_found.ensures.found))

pub returns-then-not-branch-clause-test : goal.returns-then-not-branch-clause-test
returns-then-not-branch-clause-test g c =
    let told = (g.D.Disk.story c.args.disk.now).told in
    let l = c.args.evolving.now.value in
    let d = delta_of c.args.range in
    let f = c.args.files.now in
    let t = c.not_found-then-not-branch.result in
    subst (λ (r : Held). IsTestIn told l (delta_of r) t) (sym c.not_found-then-not-branch.ensures.range)
    (of_files told l d f t c.requires.files (views_lost told l d.epoch f d.totals c.epoch.result t c.epoch.ensures
    (λ i found is are. sym c.if-not-branch.true ∙ c.in_ok-are_views_found.ensures.found i found (c.in_ok-sums.ensures.unmoved.told ∙ is) (subst (λ (vs : List ViewRef). AreFound i found (map (view_live l) vs)) (sym c.as_slice.ensures) are) ∙ ap (list_all (is_view_found found l)) c.as_slice.ensures)
    c.not_found-then-not-branch.ensures.found))

pub returns-clause-test : goal.returns-clause-test
returns-clause-test g c =
    let told = (g.D.Disk.story c.args.disk.now).told in
    let l = c.args.evolving.now.value in
    let d = delta_of c.args.range in
    let f = c.args.files.now in
    let later = c.in_ok-sums.ensures.unmoved.told in
    of_files told l d f _ c.requires.files (files_found told l d.epoch f d.totals c.epoch.result _ c.epoch.ensures c.in-Some.sums
    (λ i rows is found. subst (λ (o : Option Sums). AreSumsAt l c.epoch.result rows o) c.in-Some.is (c.in_ok-sums.ensures.sums i rows is found))
    (λ i is. c.in_ok-sums.ensures.there i is (ap is_some c.in-Some.is))
    (λ i found is are. sym c.if-not-branch.false ∙ c.in_ok-are_views_found.ensures.found i found (later ∙ is) (subst (λ (vs : List ViewRef). AreFound i found (map (view_live l) vs)) (sym c.as_slice.ensures) are) ∙ ap (list_all (is_view_found found l)) c.as_slice.ensures)
    (λ i is. subst (λ (vs : List ViewRef). AllByRecursion (HasRows i) (map (view_live l) vs)) c.as_slice.ensures (c.in_ok-are_views_found.ensures.there i (later ∙ is) c.if-not-branch.false))
    refl
    (λ xs is. c.agree-totalled.ensures xs (c.as_slice-2.ensures ∙ is) ∙ ap (λ (o : Option (List ℕ)). agrees_if_any o xs) c.totals.ensures)
    refl)

pub agree-totalled-requires : goal.agree-totalled-requires
agree-totalled-requires g c = subst (λ (o : Option (List ℕ)). IfSome o (λ totals. AllByRecursion (λ total. total < sum_bound) totals)) (sym c.totals.ensures) c.requires.totals
