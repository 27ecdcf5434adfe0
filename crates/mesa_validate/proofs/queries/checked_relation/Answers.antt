use Rattle.std.proofs.Common.{◌≡◌, ◌∙◌, ap, sym, subst, None, Some}
use Rattle.std.specs.Prelude.{IsOk}
use Rattle.std.proofs.lemmas.Result.{err_from_is_err_and}
use Rattle.mesa_list.specs.Checks.{refused_as}
use Rattle.mesa_catalog.specs.mesa_columns.Columns.{Columns}
use Rattle.mesa_filter.specs.Asked.{asked_of}
use Rattle.mesa_model.specs.Refusals.{query_refusal}
use Rattle.mesa_catalog.specs.mesa_catalog_records.Names.{relation_of}
use Rattle.mesa_binding.specs.Told.{IsDue}
use Rattle.mesa_validate.proofs.Answering.{nothing_found, unasked}
use Rattle.mesa_validate.proofs.queries.checked_relation.Goals as goal

pub returns-in_default-clause-refused : goal.returns-in_default-clause-refused
returns-in_default-clause-refused c =
    let words = c.args.words.now in
    let cat = c.args.catalog.now.catalogue in
    let none : relation_of cat words.relation ≡ None = ap (relation_of cat) (sym c.as_slice.ensures) ∙ sym c.relation_asked.ensures.found ∙ c.in_default.is in
    λ version w session s. nothing_found cat version words w session s none

pub returns-in_err-check_query-clause-refused : goal.returns-in_err-check_query-clause-refused
returns-in_err-check_query-clause-refused c =
    let p = err_from_is_err_and c.from_residual-in_err-check_query.result c.from_residual-in_err-check_query.ensures.1 in
    let words = c.args.words.now in
    let cat = c.args.catalog.now.catalogue in
    let failure = c.in_err-check_query.field-0.0 in
    let found : relation_of cat words.relation ≡ Some c.in-Some.relation = ap (relation_of cat) (sym c.as_slice.ensures) ∙ sym c.relation_asked.ensures.found ∙ c.in-Some.is in
    let due = subst (λ (k : Columns). IsDue (refused_as query_refusal (asked_of k words)) failure) c.in_ok-schema.ensures c.in_err-check_query.ensures.refused in
    rw (p.1, p.2) (λ version w session s. unasked cat version words w session s c.in-Some.relation found failure due)

pub returns-clause-found : goal.returns-clause-found
returns-clause-found c = ap (relation_of c.args.catalog.now.catalogue) (sym c.as_slice.ensures) ∙ sym c.relation_asked.ensures.found ∙ c.in-Some.is

pub returns-clause-asked : goal.returns-clause-asked
returns-clause-asked c = subst (λ (k : Columns). IsOk (asked_of k c.args.words.now)) c.in_ok-schema.ensures c.in_ok-check_query.ensures.passes
