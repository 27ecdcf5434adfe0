use Rattle.std.proofs.Common.{refl, []}
use Rattle.mesa_model.specs.mesa_columns.declared.views.View.{View}
use Rattle.mesa_answer.proofs.Results.{if_ok}
use Rattle.mesa_answer.proofs.ViewColumns.{seen_form, seen_rows, seen_sums, seen_view}
use Rattle.mesa_answer.proofs.views.recast_rows.Goals as goal

pub returns-clause-content : goal.returns-clause-content
returns-clause-content c =
    let s = c.args.schema.now in
    let v : View = record { name = []; keys = c.args.keys.now; values = c.args.values.now } in
    let columns = c.deref.result.now in
    let places = c.deref-2.result.now in
    let seen = seen_view s v s c.keys.result.now c.values.result.now v.keys v.values columns places refl c.keys.ensures.same c.values.ensures.same refl refl (record { items = c.in_ok-columns.columns.items; same = c.deref.ensures.value; found = c.in_ok-columns.ensures.places }) (record { items = c.in_ok-values.values.items; same = c.deref-2.ensures.value; found = c.in_ok-values.ensures.places }) in
    if_ok c.group.result _ _ (λ found e. seen_rows s v s columns places seen c.args.rows.now found e) c.group.ensures.grouped

pub returns-clause-form : goal.returns-clause-form
returns-clause-form c =
    let s = c.args.schema.now in
    let v : View = record { name = []; keys = c.args.keys.now; values = c.args.values.now } in
    let columns = c.deref.result.now in
    let places = c.deref-2.result.now in
    let seen = seen_view s v s c.keys.result.now c.values.result.now v.keys v.values columns places refl c.keys.ensures.same c.values.ensures.same refl refl (record { items = c.in_ok-columns.columns.items; same = c.deref.ensures.value; found = c.in_ok-columns.ensures.places }) (record { items = c.in_ok-values.values.items; same = c.deref-2.ensures.value; found = c.in_ok-values.ensures.places }) in
    if_ok c.group.result _ _ (λ found e. seen_form s v s columns places seen found e) c.group.ensures.form

pub returns-clause-bounded : goal.returns-clause-bounded
returns-clause-bounded c =
    let s = c.args.schema.now in
    let v : View = record { name = []; keys = c.args.keys.now; values = c.args.values.now } in
    let columns = c.deref.result.now in
    let places = c.deref-2.result.now in
    let seen = seen_view s v s c.keys.result.now c.values.result.now v.keys v.values columns places refl c.keys.ensures.same c.values.ensures.same refl refl (record { items = c.in_ok-columns.columns.items; same = c.deref.ensures.value; found = c.in_ok-columns.ensures.places }) (record { items = c.in_ok-values.values.items; same = c.deref-2.ensures.value; found = c.in_ok-values.ensures.places }) in
    if_ok c.group.result _ _ (λ found e. seen_sums s v s columns places seen found e) c.group.ensures.bounded
