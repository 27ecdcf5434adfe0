use Rattle.std.proofs.Common.{◌∙◌, ap, sym, subst, Result, Ok}
use Rattle.std.proofs.lemmas.Result.{err_from_is_err_and}
use Rattle.mesa_list.specs.Checks.{refused_as}
use Rattle.mesa_catalog.specs.mesa_columns.Columns.{Columns}
use Rattle.mesa_schema.specs.Changes.{epoch_of}
use Rattle.mesa_filter.specs.Query.{BuiltQuery, IsQueryOf, query_of}
use Rattle.mesa_model.specs.declared.replies.Refusal.{Refusal}
use Rattle.mesa_model.specs.Refusals.{query_refusal}
use Rattle.mesa_binding.specs.Told.{IsDue}
use Rattle.mesa_validate.proofs.Answering.{built_answer, built_at, unbuilt, unversioned}
use Rattle.mesa_validate.proofs.queries.query.Goals as goal

pub returns-in_err-relation-clause-refused : goal.returns-in_err-relation-clause-refused
returns-in_err-relation-clause-refused c =
    let p = err_from_is_err_and c.from_residual.result c.from_residual.ensures.1 in
    rw (p.1, p.2) (λ w session s. c.in_err-relation.ensures.refused c.args.pinned w session s)

pub returns-in_err-version-clause-refused : goal.returns-in_err-version-clause-refused
returns-in_err-version-clause-refused c =
    let p = err_from_is_err_and c.from_residual-in_err-version.result c.from_residual-in_err-version.ensures.1 in
    let words = c.args.words.now in
    let cat = c.args.catalog.now.catalogue in
    rw (p.1, p.2) (λ w session s. unversioned cat c.args.pinned words w session s c.in_ok-relation.relation c.in_ok-relation.ensures.found c.in_err-version.field-0.0 c.in_ok-relation.ensures.asked (sym c.in_err-version.ensures))

pub returns-in_err-query-clause-refused : goal.returns-in_err-query-clause-refused
returns-in_err-query-clause-refused c =
    let p = err_from_is_err_and c.from_residual-in_err-query.result c.from_residual-in_err-query.ensures.1 in
    let words = c.args.words.now in
    let cat = c.args.catalog.now.catalogue in
    let relation = c.in_ok-relation.relation in
    let version = c.in_ok-version.version in
    let failure = c.in_err-query.field-0.0 in
    let epoch = c.epoch-epoch.ensures.count ∙ ap epoch_of (c.deref.ensures ∙ c.evolving.ensures) in
    let due = subst (λ (r : Result BuiltQuery Refusal). IsDue r failure) (λ i. refused_as query_refusal (query_of (c.in_ok-relation.ensures.columns i) words.relation version (epoch i) words)) c.in_err-query.ensures.refused in
    rw (p.1, p.2) (λ w session s. unbuilt cat c.args.pinned words w session s relation c.in_ok-relation.ensures.found version failure c.in_ok-relation.ensures.asked (sym c.in_ok-version.ensures) due)

pub returns-clause-asked : goal.returns-clause-asked
returns-clause-asked c =
    let words = c.args.words.now in
    let query = c.in_ok-query.query in
    let epoch = c.epoch-epoch.ensures.count ∙ ap epoch_of (c.deref.ensures ∙ c.evolving.ensures) in
    built_at _ _ _ _ _ words query c.in_ok-relation.ensures.columns epoch c.in_ok-query.ensures.built

pub returns-clause-sound : goal.returns-clause-sound
returns-clause-sound c = subst (λ (k : Columns). IsQueryOf k c.in_ok-query.query) c.in_ok-relation.ensures.columns c.in_ok-query.ensures.sound

pub returns-clause-answered : goal.returns-clause-answered
returns-clause-answered c =
    let words = c.args.words.now in
    let cat = c.args.catalog.now.catalogue in
    let relation = c.in_ok-relation.relation in
    let query = c.in_ok-query.query in
    let epoch = c.epoch-epoch.ensures.count ∙ ap epoch_of (c.deref.ensures ∙ c.evolving.ensures) in
    let version = ap (λ (q : BuiltQuery). q.version) c.in_ok-query.ensures.built.parts in
    let made = built_at _ _ _ _ _ words query c.in_ok-relation.ensures.columns epoch c.in_ok-query.ensures.built in
    λ w session s. built_answer cat c.args.pinned words w session s relation c.in_ok-relation.ensures.found query (sym c.in_ok-version.ensures ∙ ap (λ n. Ok n) (sym version)) made
