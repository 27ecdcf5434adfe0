use Rattle.std.proofs.Common.{◌≡◌, ◌<◌, ◌≤◌, ◌∙◌, ◌∷◌, [], ap, sym, subst, length, get_or, List}
use Rattle.std.specs.Prelude.{slice_get}
use Rattle.mesa_store_spec.specs.Fitting.{view_live}
use Rattle.mesa_record.specs.declared.record.ViewRef.{ViewRef}
use Rattle.mesa_schema.specs.Changes.{columns_at}
use Rattle.mesa_check.specs.Faults.{view_key, view_keys_in}
use Rattle.mesa_check.specs.Held.{delta_of}
use Rattle.mesa_check.specs.Shown.{key_list}
use Rattle.mesa_check.specs.Tested.{IsThere}
use Rattle.mesa_compare.proofs.mesa_open_files.Counts.{counted_more, unmoved_more}
use Rattle.mesa_check.proofs.Lists.{all_item, flat_end, flat_first, flat_none}
use Rattle.mesa_check.proofs.Rows.{present_is, there_files}
use Rattle.mesa_check.proofs.keys.first_view_key.Goals as goal

pub returns-in-Some-clause-key : goal.returns-in-Some-clause-key
returns-in-Some-clause-key g c = λ i found told there keeps.
    let l = c.args.evolving.now.value in
    let d = delta_of c.args.range.now in
    let f = c.args.files.now in
    let x = c.view-item.result in
    let n = c.views.view-index in
    let inv = c.views.invariant in
    let h : n < length f.views = subst (λ (vs : List ViewRef). n < length vs) c.as_slice-view-items.ensures c.views-test.true in
    let is : x ≡ get_or f.views n x = c.view-item.is ∙ ap (λ (vs : List ViewRef). get_or vs n x) c.as_slice-view-items.ensures in
    let parts = there_files i found l d f c.requires.files there in
    let at = c.epoch.ensures in
    let here = subst (λ e. IsThere i found (record { columns = columns_at l e; file = f.file })) (sym at) parts.0 in
    let key = c.in_ok-key.ensures.key i found d (inv.unmoved.told ∙ told) here (all_item (λ (v : ViewRef). IsThere i found (view_live l v)) f.views n x h is parts.1) (present_is found l d f c.epoch.result c.requires.files at) keeps in
    let shown : view_key found l d x (slice_get l.views x.view) ≡ c.in-Some.key ∷ [] = sym key ∙ ap key_list c.in-Some.is in
    sym (ap (λ o. slice_get (view_keys_in found l d o) 0) c.requires.files
    ∙ flat_first (λ (v : ViewRef). view_key found l d v (slice_get l.views v.view)) f.views n x c.in-Some.key h is (inv.none i found told there keeps) (ap (λ ks. slice_get ks 0) shown))

pub views-preserved : goal.views-preserved
views-preserved g c =
    let inv = c.views.invariant in
    record {
      unmoved = unmoved_more _ _ _ inv.unmoved c.in_ok-key.ensures.unmoved;
      counted = counted_more _ _ _ _ inv.counted c.in_ok-key.ensures.counted;
      none = λ i found told there keeps.
          let l = c.args.evolving.now.value in
          let d = delta_of c.args.range.now in
          let f = c.args.files.now in
          let x = c.view-item.result in
          let n = c.views.view-index in
          let h : n < length f.views = subst (λ (vs : List ViewRef). n < length vs) c.as_slice-view-items.ensures c.views-test.true in
          let is : x ≡ get_or f.views n x = c.view-item.is ∙ ap (λ (vs : List ViewRef). get_or vs n x) c.as_slice-view-items.ensures in
          let parts = there_files i found l d f c.requires.files there in
          let at = c.epoch.ensures in
          let here = subst (λ e. IsThere i found (record { columns = columns_at l e; file = f.file })) (sym at) parts.0 in
          let key = c.in_ok-key.ensures.key i found d (inv.unmoved.told ∙ told) here (all_item (λ (v : ViewRef). IsThere i found (view_live l v)) f.views n x h is parts.1) (present_is found l d f c.epoch.result c.requires.files at) keeps in
          let shown : view_key found l d x (slice_get l.views x.view) ≡ [] = sym key ∙ ap key_list c.in_default.is in
          flat_none (λ (v : ViewRef). view_key found l d v (slice_get l.views v.view)) f.views n x h is (inv.none i found told there keeps) shown;
    }

pub returns-clause-key : goal.returns-clause-key
returns-clause-key g c = λ i found told there keeps.
    let l = c.args.evolving.now.value in
    let d = delta_of c.args.range.now in
    let f = c.args.files.now in
    let n = c.views.view-index in
    let h : length f.views ≤ n = subst (λ (vs : List ViewRef). length vs ≤ n) c.as_slice-view-items.ensures c.views-test.false in
    sym (ap (λ o. slice_get (view_keys_in found l d o) 0) c.requires.files
    ∙ ap (λ ks. slice_get ks 0) (flat_end (λ (v : ViewRef). view_key found l d v (slice_get l.views v.view)) f.views n h (c.views.invariant.none i found told there keeps)))
