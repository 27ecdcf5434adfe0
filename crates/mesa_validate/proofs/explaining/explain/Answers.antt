use Rattle.std.proofs.Common.{◌≡◌, ◌∙◌, ap, sym, None, Some, Ok}
use Rattle.std.proofs.lemmas.Result.{err_from_is_err_and}
use Rattle.mesa_span.specs.Plan.{plan}
use Rattle.mesa_model.specs.declared.replies.Reply.TheVariants as reply
use Rattle.mesa_catalog.specs.mesa_catalog_records.Names.{relation_of}
use Rattle.mesa_validate.proofs.Explained.{nothing_explained, plan_explained, unexplained, unordered}
use Rattle.mesa_model.specs.Versions.{version_asked}
use Rattle.mesa_validate.proofs.Seen.{oldest_there}
use Rattle.mesa_validate.proofs.explaining.explain.Goals as goal

pub returns-in_default-clause-refused : goal.returns-in_default-clause-refused
returns-in_default-clause-refused c =
    let words = c.args.words.now in
    let cat = c.args.catalog.now.catalogue in
    let none : relation_of cat words.relation ≡ None = ap (relation_of cat) (sym c.as_slice.ensures) ∙ sym c.relation_asked.ensures.found ∙ c.in_default.is in
    λ w m has. nothing_explained cat words w m has none

pub returns-in_err-by-clause-refused : goal.returns-in_err-by-clause-refused
returns-in_err-by-clause-refused c =
    let p = err_from_is_err_and c.from_residual.result c.from_residual.ensures.1 in
    let words = c.args.words.now in
    let cat = c.args.catalog.now.catalogue in
    let found : relation_of cat words.relation ≡ Some c.in-Some.relation = ap (relation_of cat) (sym c.as_slice.ensures) ∙ sym c.relation_asked.ensures.found ∙ c.in-Some.is in
    rw (p.1, p.2) (λ w m has. unordered cat words w m has c.in-Some.relation found c.in_err-by.field-0.0 c.in_err-by.ensures.refused)

pub returns-in_err-version-clause-refused : goal.returns-in_err-version-clause-refused
returns-in_err-version-clause-refused c =
    let p = err_from_is_err_and c.from_residual-in_err-version.result c.from_residual-in_err-version.ensures.1 in
    let words = c.args.words.now in
    let cat = c.args.catalog.now.catalogue in
    let found : relation_of cat words.relation ≡ Some c.in-Some.relation = ap (relation_of cat) (sym c.as_slice.ensures) ∙ sym c.relation_asked.ensures.found ∙ c.in-Some.is in
    rw (p.1, p.2) (λ w m has. unexplained cat words w m has c.in-Some.relation found c.in_ok-by.by c.in_ok-by.ensures.order c.in_err-version.field-0.0 (ap (λ o. version_asked w o words.version) (oldest_there cat w c.in-Some.relation.table has ∙ sym c.oldest.ensures) ∙ sym (c.in_err-version.ensures.asked w has)))

pub returns-clause-explained : goal.returns-clause-explained
returns-clause-explained c =
    let words = c.args.words.now in
    let cat = c.args.catalog.now.catalogue in
    let relation = c.in-Some.relation in
    let version = c.in_ok-version.version in
    let found : relation_of cat words.relation ≡ Some relation = ap (relation_of cat) (sym c.as_slice.ensures) ∙ sym c.relation_asked.ensures.found ∙ c.in-Some.is in
    let spans = c.from_vec.ensures ∙ c.in_ok-spans.ensures.plan ∙ ap (λ r. plan r version) c.in_ok-ranges.ensures.ranges in
    λ w m has ranges. plan_explained cat words w m has relation found c.in_ok-by.by c.in_ok-by.ensures.order version (ap (λ o. version_asked w o words.version) (oldest_there cat w relation.table has ∙ sym c.oldest.ensures) ∙ sym (c.in_ok-version.ensures.asked w has)) ranges ∙ ap (λ x. Ok (reply.Spans x c.in_ok-by.by)) (sym spans)
