use Rattle.mesa_schema.specs.Changes.{columns_of}
use Rattle.mesa_answer.proofs.Results.{if_ok}
use Rattle.mesa_answer.proofs.ViewColumns.{seen_form, seen_rows, seen_sums, seen_view}
use Rattle.mesa_answer.proofs.views.view_rows.Goals as goal

pub returns-clause-content : goal.returns-clause-content
returns-clause-content c =
    let s = columns_of c.args.evolving.now in
    let v = c.view-view.result.now in
    let columns = c.deref.result.now in
    let places = c.deref-2.result.now in
    let seen = seen_view s v c.present-schema.result.now c.keys.result.now c.values.result.now c.as_slice.result.now c.as_slice-2.result.now columns places c.present-schema.ensures.columns c.keys.ensures.same c.values.ensures.same c.as_slice.ensures c.as_slice-2.ensures (record { items = c.in_ok-columns.columns.items; same = c.deref.ensures.value; found = c.in_ok-columns.ensures.places }) (record { items = c.in_ok-values.values.items; same = c.deref-2.ensures.value; found = c.in_ok-values.ensures.places }) in
    rw c.view-view.ensures (if_ok c.group.result _ _ (λ found e. seen_rows s v c.present-schema.result.now columns places seen c.args.rows.now found e) c.group.ensures.grouped)

pub returns-clause-form : goal.returns-clause-form
returns-clause-form c =
    let s = columns_of c.args.evolving.now in
    let v = c.view-view.result.now in
    let columns = c.deref.result.now in
    let places = c.deref-2.result.now in
    let seen = seen_view s v c.present-schema.result.now c.keys.result.now c.values.result.now c.as_slice.result.now c.as_slice-2.result.now columns places c.present-schema.ensures.columns c.keys.ensures.same c.values.ensures.same c.as_slice.ensures c.as_slice-2.ensures (record { items = c.in_ok-columns.columns.items; same = c.deref.ensures.value; found = c.in_ok-columns.ensures.places }) (record { items = c.in_ok-values.values.items; same = c.deref-2.ensures.value; found = c.in_ok-values.ensures.places }) in
    rw c.view-view.ensures (if_ok c.group.result _ _ (λ found e. seen_form s v c.present-schema.result.now columns places seen found e) c.group.ensures.form)

pub returns-clause-bounded : goal.returns-clause-bounded
returns-clause-bounded c =
    let s = columns_of c.args.evolving.now in
    let v = c.view-view.result.now in
    let columns = c.deref.result.now in
    let places = c.deref-2.result.now in
    let seen = seen_view s v c.present-schema.result.now c.keys.result.now c.values.result.now c.as_slice.result.now c.as_slice-2.result.now columns places c.present-schema.ensures.columns c.keys.ensures.same c.values.ensures.same c.as_slice.ensures c.as_slice-2.ensures (record { items = c.in_ok-columns.columns.items; same = c.deref.ensures.value; found = c.in_ok-columns.ensures.places }) (record { items = c.in_ok-values.values.items; same = c.deref-2.ensures.value; found = c.in_ok-values.ensures.places }) in
    rw c.view-view.ensures (if_ok c.group.result _ _ (λ found e. seen_sums s v c.present-schema.result.now columns places seen found e) c.group.ensures.bounded)
