use Rattle.std.proofs.Common.{◌∙◌, List, ℕ, ap, map, subst, sym}
use Rattle.std.proofs.lemmas.Result.{err_from_is_err_and}
use Rattle.mesa_list.specs.Checks.{refuse_unless}
use Rattle.mesa_model.specs.mesa_columns.declared.columns.ValueColumn.{ValueColumn}
use Rattle.mesa_model.specs.mesa_columns.Columns.{Columns}
use Rattle.mesa_model.specs.mesa_columns.Names.{has_name}
use Rattle.mesa_model.specs.declared.commands.ChangeWords.{ChangeWords}
use Rattle.mesa_model.specs.declared.replies.Refusal.TheVariants as no
use Rattle.mesa_binding.specs.Asked.{change_allowed}
use Rattle.mesa_binding.specs.Told.{IsDue}
use Rattle.mesa_binding.proofs.Alterings.{drop_missing}
use Rattle.mesa_binding.proofs.altering.change_asked.Goals as goal

pub returns-in_err-name-in-DropValue-clause-refused : goal.returns-in_err-name-in-DropValue-clause-refused
returns-in_err-name-in-DropValue-clause-refused c =
    let p = err_from_is_err_and c.from_residual.result c.from_residual.ensures.1 in
    let l = c.args.evolving.now in
    let failure = c.in_err-name-in-DropValue.field-0.0 in
    let columns = c.values-in-DropValue.ensures.same ∙ ap (λ (s : Columns). s.values) c.present-present.ensures.columns in
    let named = subst (λ (n : List ℕ). IsDue (refuse_unless (has_name n (map (λ (v : ValueColumn). v.name) c.values-in-DropValue.result.now)) no.NoColumn) failure) c.as_slice.ensures c.in_err-name-in-DropValue.ensures.refused in
    let due = subst (λ (vs : List ValueColumn). IsDue (refuse_unless (has_name c.in-DropValue.name (map (λ (v : ValueColumn). v.name) vs)) no.NoColumn) failure) columns named in
    rw (p.1, p.2) (subst (λ (ws : ChangeWords). IsDue (change_allowed l ws) failure) (sym c.in-DropValue.is) (drop_missing l c.in-DropValue.name failure due))
