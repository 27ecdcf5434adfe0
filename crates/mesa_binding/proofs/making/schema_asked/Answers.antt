use Rattle.std.proofs.Common.{◌≡◌, ◌∙◌, ap, subst, map, true, Err}
use Rattle.std.specs.Prelude.{IsTrue}
use Rattle.std.specs.List.{list_all}
use Rattle.std.proofs.lemmas.Result.{err_from_is_err_and}
use Rattle.mesa_list.specs.Checks.{refuse_unless}
use Rattle.mesa_model.specs.mesa_columns.declared.columns.KeyColumn.{KeyColumn}
use Rattle.mesa_model.specs.mesa_columns.declared.columns.ValueColumn.{ValueColumn}
use Rattle.mesa_model.specs.mesa_columns.Columns.{Columns}
use Rattle.mesa_model.specs.mesa_columns.Schema.{is_schema, schema_checked}
use Rattle.mesa_model.specs.mesa_columns.Names.{is_name}
use Rattle.mesa_model.specs.declared.replies.SchemaFault.TheVariants as fault
use Rattle.mesa_model.specs.Refusals.{bad_schema}
use Rattle.mesa_model.specs.Tables.{columns_asked}
use Rattle.mesa_binding.specs.Asked.{keys_asked, values_asked}
use Rattle.mesa_binding.specs.Told.{IsDue}
use Rattle.mesa_binding.proofs.Makings.{columns_good, keys_bad, schema_bad, values_bad}
use Rattle.mesa_binding.proofs.making.schema_asked.Goals as goal

pub returns-in_err-keys-clause-refused : goal.returns-in_err-keys-clause-refused
returns-in_err-keys-clause-refused c =
    let p = err_from_is_err_and c.from_residual.result c.from_residual.ensures.1 in
    let failure = c.in_err-keys.field-0.0 in
    let due = subst (λ ws. IsDue (refuse_unless (list_all is_name (map (λ (v : KeyColumn). v.name) (keys_asked ws))) (bad_schema fault.BadName)) failure) c.as_slice.ensures c.in_err-keys.ensures.refused in
    rw (p.1, p.2) (keys_bad (columns_asked c.args.words.now) failure due)

pub returns-in_err-values-clause-refused : goal.returns-in_err-values-clause-refused
returns-in_err-values-clause-refused c =
    let p = err_from_is_err_and c.from_residual-in_err-values.result c.from_residual-in_err-values.ensures.1 in
    let failure = c.in_err-values.field-0.0 in
    let named = subst (λ ws. list_all is_name (map (λ (v : KeyColumn). v.name) (keys_asked ws)) ≡ true) c.as_slice.ensures c.in_ok-keys.ensures.named in
    let due = subst (λ ws. IsDue (refuse_unless (list_all is_name (map (λ (v : ValueColumn). v.name) (values_asked ws))) (bad_schema fault.BadName)) failure) c.as_slice-2.ensures c.in_err-values.ensures.refused in
    rw (p.1, p.2) (values_bad (columns_asked c.args.words.now) failure named due)

pub returns-in-Ok-clause-checked : goal.returns-in-Ok-clause-checked
returns-in-Ok-clause-checked c =
    let keys = c.into_vec.ensures ∙ c.in_ok-keys.ensures.asked ∙ ap keys_asked c.as_slice.ensures in
    let values = c.into_vec-2.ensures ∙ c.in_ok-values.ensures.asked ∙ ap values_asked c.as_slice-2.ensures in
    let keys_named = subst (λ ws. list_all is_name (map (λ (v : KeyColumn). v.name) (keys_asked ws)) ≡ true) c.as_slice.ensures c.in_ok-keys.ensures.named in
    let values_named = subst (λ ws. list_all is_name (map (λ (v : ValueColumn). v.name) (values_asked ws)) ≡ true) c.as_slice-2.ensures c.in_ok-values.ensures.named in
    let whole : Columns = columns_asked c.args.words.now in
    columns_good whole keys_named values_named (subst (λ (s : Columns). IsTrue (is_schema s)) (λ j. record { keys = keys j; values = values j }) c.in-Ok.ensures.allowed)

pub returns-in-Err-clause-refused : goal.returns-in-Err-clause-refused
returns-in-Err-clause-refused c =
    let keys = c.into_vec.ensures ∙ c.in_ok-keys.ensures.asked ∙ ap keys_asked c.as_slice.ensures in
    let values = c.into_vec-2.ensures ∙ c.in_ok-values.ensures.asked ∙ ap values_asked c.as_slice-2.ensures in
    let keys_named = subst (λ ws. list_all is_name (map (λ (v : KeyColumn). v.name) (keys_asked ws)) ≡ true) c.as_slice.ensures c.in_ok-keys.ensures.named in
    let values_named = subst (λ ws. list_all is_name (map (λ (v : ValueColumn). v.name) (values_asked ws)) ≡ true) c.as_slice-2.ensures c.in_ok-values.ensures.named in
    let whole : Columns = columns_asked c.args.words.now in
    rw c.refusal_of.ensures (schema_bad whole c.in-Err.error keys_named values_named (subst (λ (s : Columns). schema_checked s ≡ Err c.in-Err.error) (λ j. record { keys = keys j; values = values j }) c.in-Err.ensures.refused))
