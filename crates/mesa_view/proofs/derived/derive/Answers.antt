use Rattle.std.proofs.Common.{◌≡◌, ◌∙◌, ap, inl, inr, subst}
use Rattle.std.specs.Prelude.{map, slice_get}
use Rattle.mesa_scan.specs.mesa_schema.Changes.{Lineage, columns_of}
use Rattle.mesa_columns.specs.Columns.{Columns}
use Rattle.mesa_scan.specs.mesa_fold.Folded.{grouped}
use Rattle.mesa_columns.specs.Rows.{AreRowsOf}
use Rattle.mesa_scan.specs.Cursors.{lift_by}
use Rattle.mesa_answer.specs.Answering.{grouped_columns}
use Rattle.mesa_answer.specs.Regrouping.{PlacesSeen}
use Rattle.mesa_answer.specs.Gathering.{Wanted}
use Rattle.mesa_answer.proofs.Results.{if_err, if_ok}
use Rattle.mesa_view.specs.SumDamage.{IsFileSum, every_group}
use Rattle.mesa_view.proofs.Blocks.{if_some}
use Rattle.mesa_view.proofs.derived.derive.Goals as goal

pub returns-clause-derived : goal.returns-clause-derived
returns-clause-derived g c = if_ok c.group_file.result _ _ (λ rows made b all told indexed.
    let input = c.args.input.now in
    let lifted = map (lift_by input) all in
    let table : c.in_ok-table.table ≡ columns_of input.evolving.value = c.in_ok-table.ensures ∙ c.present.ensures.columns ∙ ap (λ (l : Lineage). columns_of l) c.deref.ensures in
    let seen = rw c.deref-2.ensures at c.in_ok-seen.ensures.seen in
    if_some (slice_get input.evolving.value.views c.args.view) _ _ (λ v is.
    let keys = c.columns.ensures ∙ ap (λ (p : PlacesSeen). p.columns) is in
    let values = c.values.ensures ∙ ap (λ (p : PlacesSeen). p.values) is in
    made b all told indexed ∙ (λ k. grouped (table k) (keys k) (values k) lifted)) seen) c.group_file.ensures.rows

pub returns-clause-form : goal.returns-clause-form
returns-clause-form g c = if_ok c.group_file.result _ _ (λ rows form.
    let input = c.args.input.now in
    let table : c.in_ok-table.table ≡ columns_of input.evolving.value = c.in_ok-table.ensures ∙ c.present.ensures.columns ∙ ap (λ (l : Lineage). columns_of l) c.deref.ensures in
    let seen = rw c.deref-2.ensures at c.in_ok-seen.ensures.seen in
    if_some (slice_get input.evolving.value.views c.args.view) _ _ (λ v is.
    let keys = c.columns.ensures ∙ ap (λ (p : PlacesSeen). p.columns) is in
    let values = c.values.ensures ∙ ap (λ (p : PlacesSeen). p.values) is in
    subst (λ (s : Columns). AreRowsOf s rows) (λ k. grouped_columns (table k) (keys k) (values k)) form) seen) c.group_file.ensures.form

pub returns-clause-damaged : goal.returns-clause-damaged
returns-clause-damaged g c = if_err c.group_file.result _ _ (λ e why d is. elim (why d is) [
  | inl damaged ↦ inl damaged
  | inr sum ↦
      let input = c.args.input.now in
      let table : c.in_ok-table.table ≡ columns_of input.evolving.value = c.in_ok-table.ensures ∙ c.present.ensures.columns ∙ ap (λ (l : Lineage). columns_of l) c.deref.ensures in
      let seen = rw c.deref-2.ensures at c.in_ok-seen.ensures.seen in
      inr (if_some (slice_get input.evolving.value.views c.args.view) _ _ (λ v its.
      let keys = c.columns.ensures ∙ ap (λ (p : PlacesSeen). p.columns) its in
      let values = c.values.ensures ∙ ap (λ (p : PlacesSeen). p.values) its in
      subst (λ (w : Wanted). IsFileSum g.R.FileReader.bytes w input d) (λ k. every_group (table k) (keys k) (values k)) sum) seen)
]) c.group_file.ensures.damaged
