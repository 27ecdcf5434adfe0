use Rattle.std.proofs.Common.{◌≡◌, ◌∙◌, ap, sym, Some}
use Rattle.mesa_model.specs.Relations.{relation_of}
use Rattle.mesa_answer.proofs.Results.{if_both, if_err}
use Rattle.mesa_binding.proofs.Queries.{not_built_by}
use Rattle.mesa_oracle_tables.specs.Found.{relation_seen}
use Rattle.mesa_test_oracle.proofs.Queries.{answered_by}
use Rattle.mesa_test_oracle.proofs.warehouse.PlainWarehouse.try_query.Goals as goal

pub returns-clause-answered : goal.returns-clause-answered
returns-clause-answered c =
    let words = c.args.words.now in
    let store = c.in_ok-store.store.now.store in
    let r = relation_seen store c.in-Some.place in
    let there : relation_of store words.relation ≡ Some r = ap (relation_of store) (sym c.as_slice.ensures) ∙ c.in-Some.ensures.found in
    if_both c.answer_at.result _ _ _ (λ found built page. answered_by c.args.self.now c.args.session words store r c.in_ok-schema.schema c.in_ok-version.version found.1 found.0
    c.in_ok-store.ensures.opened c.in_ok-store.ensures.store there c.in_ok-schema.ensures (sym c.in_ok-version.ensures) built page) c.answer_at.ensures.built c.answer_at.ensures.page

pub returns-clause-refused : goal.returns-clause-refused
returns-clause-refused c =
    let words = c.args.words.now in
    let store = c.in_ok-store.store.now.store in
    let r = relation_seen store c.in-Some.place in
    let there : relation_of store words.relation ≡ Some r = ap (relation_of store) (sym c.as_slice.ensures) ∙ c.in-Some.ensures.found in
    if_err c.answer_at.result _ _ (λ failure due. not_built_by c.args.self.now c.args.session words store r c.in_ok-schema.schema c.in_ok-version.version failure
    c.in_ok-store.ensures.opened c.in_ok-store.ensures.store there c.in_ok-schema.ensures c.in_ok-check_query.ensures.passes (sym c.in_ok-version.ensures) due) c.answer_at.ensures.refused

pub returns-clause-spelled : goal.returns-clause-spelled
returns-clause-spelled c = c.answer_at.ensures.spelled
