use Rattle.std.proofs.Common.{◌≡◌, ◌∙◌, ◌+◌, ◌++◌, ◌∷◌, [], List, suc, ap, sym, subst, drop, map, add-one}
use Rattle.std.proofs.Math.Seq.{drop-cons}
use Rattle.std.specs.List.{list_all}
use Rattle.std.proofs.lemmas.Result.{err_from_is_err_and}
use Rattle.mesa_list.specs.Checks.{refuse_unless}
use Rattle.mesa_model.specs.mesa_columns.declared.columns.ValueColumn.{ValueColumn}
use Rattle.mesa_model.specs.mesa_columns.Names.{is_name}
use Rattle.mesa_model.specs.declared.commands.ValueWords.{ValueWords}
use Rattle.mesa_model.specs.declared.replies.SchemaFault.TheVariants as fault
use Rattle.mesa_model.specs.Refusals.{bad_schema}
use Rattle.mesa_binding.specs.Asked.{values_asked}
use Rattle.mesa_binding.specs.Told.{IsDue}
use Rattle.mesa_binding.proofs.Makings.{column_more, name_bad, name_more}
use Rattle.mesa_binding.proofs.making.value_columns.Goals as goal

pub words-preserved : goal.words-preserved
words-preserved c =
    let i = c.words.column-index in
    let words = c.args.words.now in
    let w = c.column-item.result in
    let next : drop i words ≡ w ∷ drop (i + 1) words = rw add-one (drop-cons words i w c.words-test.true ∙ ap (λ (v : ValueWords). v ∷ drop (suc i) words) (sym c.column-item.is)) in
    let name = c.in_ok-name.ensures.read ∙ c.as_slice.ensures in
    let good = ap is_name (sym c.as_slice.ensures) ∙ c.in_ok-name.ensures.named in
    let make : ValueWords → ValueColumn = λ v. record { name = v.name; agg = v.agg } in (
      ap (λ (made : List ValueColumn). made ++ values_asked (drop (i + 1) words)) c.in_ok-push.ensures.ok
          ∙ (λ j. (c.words.values ++ record { name = name j; agg = w.agg } ∷ []) ++ values_asked (drop (i + 1) words))
          ∙ column_more make c.words.values (drop i words) (drop (i + 1) words) w (values_asked words) next c.words.invariant.0,
      name_more make (λ v. v.name) (drop i words) (drop (i + 1) words) w (list_all is_name (map (λ (v : ValueColumn). v.name) (values_asked words))) next good c.words.invariant.1,
    )

pub returns-in_err-name-clause-refused : goal.returns-in_err-name-clause-refused
returns-in_err-name-clause-refused c =
    let p = err_from_is_err_and c.from_residual.result c.from_residual.ensures.1 in
    let i = c.words.column-index in
    let words = c.args.words.now in
    let w = c.column-item.result in
    let failure = c.in_err-name.field-0.0 in
    let next : drop i words ≡ w ∷ drop (i + 1) words = rw add-one (drop-cons words i w c.words-test.true ∙ ap (λ (v : ValueWords). v ∷ drop (suc i) words) (sym c.column-item.is)) in
    let make : ValueWords → ValueColumn = λ v. record { name = v.name; agg = v.agg } in
    let due = subst (λ n. IsDue (refuse_unless (is_name n) (bad_schema fault.BadName)) failure) c.as_slice.ensures c.in_err-name.ensures.refused in
    rw (p.1, p.2) (name_bad make (λ v. v.name) (drop i words) (drop (i + 1) words) w (list_all is_name (map (λ (v : ValueColumn). v.name) (values_asked words))) failure next c.words.invariant.1 due)
