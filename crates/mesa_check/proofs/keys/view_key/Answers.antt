use Rattle.std.proofs.Common.{◌≡◌, ◌∙◌, ap, sym, false}
use Rattle.std.specs.Prelude.{slice_get}
use Rattle.std.proofs.lemmas.Result.{IfOk-weaker}
use Rattle.mesa_batch.specs.Totals.{abs_totals}
use Rattle.mesa_store_spec.specs.Contents.{present}
use Rattle.mesa_pick_files.specs.Lent.{now_if_any}
use Rattle.mesa_schema.specs.Changes.{columns_of}
use Rattle.mesa_check.specs.Found.{rows_found}
use Rattle.mesa_check.specs.Faults.{keep_bound, view_keys_in}
use Rattle.mesa_check.specs.Held.{delta_of}
use Rattle.mesa_check.proofs.Rows.{are_there, no_keys}
use Rattle.mesa_check.proofs.keys.view_key.Goals as goal
use Rattle.mesa_check.proofs.keys.view_key.Goals.{in_default-via-in-Some+else-keep_bound, in_default-via-in_default}

pub returns-in-Some-clause-key : goal.returns-in-Some-clause-key
returns-in-Some-clause-key g c =
    let l = c.args.evolving.now.value in
    let t = c.args.one.now in
    let d = delta_of t.range in
    IfOk-weaker c.first_view_key.result _ _ (λ o key i found told read so.
    let keeps = sym (c.keep_bound.ensures (abs_totals (columns_of l) (present (rows_found found) l d)) (c.as_slice.ensures ∙ read.tested.present so)) ∙ c.if-keep_bound.true in
    key i found told (are_there i found l d (sym read.tested.found ∙ so) read.files) keeps) c.first_view_key.ensures.key

pub returns-in_default-clause-key : goal.returns-in_default-clause-key
returns-in_default-clause-key g c = λ i found told read so.
    let l = c.args.evolving.now.value in
    let t = c.args.one.now in
    let d = delta_of t.range in
    elim c.in_default.branch [
      | in_default-via-in-Some+else-keep_bound w ↦
          let out : keep_bound (columns_of l) (present (rows_found found) l d) ≡ false = sym (w.keep_bound.ensures (abs_totals (columns_of l) (present (rows_found found) l d)) (w.as_slice.ensures ∙ read.tested.present so)) ∙ w.if-keep_bound.false in
          sym (ap (λ ks. slice_get ks 0) (no_keys found l d out))
      | in_default-via-in_default w ↦ sym (ap (λ o. slice_get (view_keys_in found l d o) 0) (sym c.files.ensures ∙ ap now_if_any w.in_default.is))
    ]
