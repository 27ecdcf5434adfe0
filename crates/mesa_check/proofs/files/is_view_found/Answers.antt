use Rattle.std.proofs.Common.{◌≡◌, ◌<◌, ◌∙◌, ◌&&◌, ap, sym, subst, length, arith}
use Rattle.std.specs.Prelude.{IfSome, is_some, slice_get}
use Rattle.mesa_store_spec.specs.Fitting.{LiveFile}
use Rattle.mesa_pick_files.specs.Files.{own_lineage}
use Rattle.mesa_schema.specs.Changes.{Lineage}
use Rattle.mesa_pick_files.specs.mesa_columns.declared.views.View.{View}
use Rattle.mesa_check.specs.Found.{IsFoundAs}
use Rattle.mesa_check.specs.Tested.{HasRows}
use Rattle.mesa_check.proofs.Recorded.{view_live_file, view_there}
use Rattle.mesa_check.proofs.files.is_view_found.Goals as goal

pub returns-clause-found : goal.returns-clause-found
returns-clause-found g c = λ i found told is.
    let l = c.args.evolving.now.value in
    let v = c.args.view.now in
    let own = c.in_ok-own.own.value in
    let same : length c.deref.result.now.views ≡ length l.views = ap (λ (m : Lineage). length m.views) c.deref.ensures in
    let count = c.views.ensures in
    let test = c.if-view-views.false in
    let there : v.view < length l.views = omega (arith, same, count, test) in
    let its : IfSome (slice_get l.views v.view) (λ (w : View). own ≡ own_lineage l w) = subst (λ (m : Lineage). IfSome (slice_get m.views v.view) (λ (w : View). own ≡ own_lineage m w)) c.deref-2.ensures c.in_ok-own.ensures in
    let live_file = view_live_file l v own there its in
    c.is_some.ensures ∙ c.in_ok-sums.ensures.some i (found v.file.id) told (subst (λ (x : LiveFile). IsFoundAs i x (found v.file.id)) (sym live_file) is) ∙ (λ k. sym (view_there l v.view there) k && is_some (found v.file.id))

pub returns-clause-there : goal.returns-clause-there
returns-clause-there g c = λ i told so.
    let l = c.args.evolving.now.value in
    let v = c.args.view.now in
    let own = c.in_ok-own.own.value in
    let same : length c.deref.result.now.views ≡ length l.views = ap (λ (m : Lineage). length m.views) c.deref.ensures in
    let count = c.views.ensures in
    let test = c.if-view-views.false in
    let there : v.view < length l.views = omega (arith, same, count, test) in
    let its : IfSome (slice_get l.views v.view) (λ (w : View). own ≡ own_lineage l w) = subst (λ (m : Lineage). IfSome (slice_get m.views v.view) (λ (w : View). own ≡ own_lineage m w)) c.deref-2.ensures c.in_ok-own.ensures in
    subst (HasRows i) (view_live_file l v own there its) (c.in_ok-sums.ensures.there i told (sym c.is_some.ensures ∙ so))
