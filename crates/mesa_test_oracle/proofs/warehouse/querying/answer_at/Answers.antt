use Rattle.std.proofs.Common.{◌≡◌, ◌∙◌, ap, subst}
use Rattle.std.proofs.lemmas.Result.{err_from_is_err_and}
use Rattle.mesa_list.specs.Checks.{refused_as}
use Rattle.mesa_schema.specs.Changes.{epoch_of}
use Rattle.mesa_filter.specs.Query.{query_of}
use Rattle.mesa_model.specs.Refusals.{query_refusal}
use Rattle.mesa_binding.specs.Built.{IsBuiltOf}
use Rattle.mesa_binding.specs.Told.{IsDue}
use Rattle.mesa_oracle_tables.specs.Found.{relation_seen}
use Rattle.mesa_test_oracle.proofs.warehouse.querying.answer_at.Goals as goal

pub returns-in_err-query-clause-refused : goal.returns-in_err-query-clause-refused
returns-in_err-query-clause-refused c =
    let p = err_from_is_err_and c.from_residual.result c.from_residual.ensures.1 in
    let words = c.args.words.now in
    let r = relation_seen c.args.store.now.store c.args.place in
    let epoch : c.epoch-epoch.result ≡ epoch_of r.table.lineage = c.epoch-epoch.ensures.count ∙ ap epoch_of c.evolving.ensures in
    rw (p.1, p.2) (subst (λ e. IsDue (refused_as query_refusal (query_of c.args.schema.now words.relation c.args.version e words)) c.in_err-query.field-0.0) epoch c.in_err-query.ensures.refused)

pub returns-clause-built : goal.returns-clause-built
returns-clause-built c =
    let r = relation_seen c.args.store.now.store c.args.place in
    let epoch : c.epoch-epoch.result ≡ epoch_of r.table.lineage = c.epoch-epoch.ensures.count ∙ ap epoch_of c.evolving.ensures in
    subst (λ e. IsBuiltOf c.args.schema.now c.args.version e c.args.words.now c.in_ok-query.query) epoch c.in_ok-query.ensures.built

pub returns-clause-page : goal.returns-clause-page
returns-clause-page c = c.in_ok-page.ensures.page

pub returns-clause-spelled : goal.returns-clause-spelled
returns-clause-spelled c = c.in_ok-page.ensures.spelled
