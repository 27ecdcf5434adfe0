use Rattle.std.proofs.Common.{◌∙◌}
use Rattle.mesa_answer.specs.Gathered.{wanted_of}
use Rattle.mesa_answer.proofs.Paging.{page_form, page_found}
use Rattle.mesa_answer.proofs.Results.{if_ok}
use Rattle.mesa_answer.proofs.groups.Groups.into_page.Goals as goal

pub returns-clause-page : goal.returns-clause-page
returns-clause-page c =
    let g = c.args.self in
    if_ok c.page.result _ _ (λ page made given put. page_found (wanted_of g) g.schema.now c.args.query.now c.into_vec.result.items given page c.requires.of_query (c.into_vec.ensures ∙ c.in_ok-rows.ensures.rows given put) made) c.page.ensures

pub returns-clause-form : goal.returns-clause-form
returns-clause-form c =
    let g = c.args.self in
    let given = c.requires.gathering.0 in
    let put = c.requires.gathering.1 in
    if_ok c.page.result _ _ (λ page made. page_form g.schema.now c.args.query.now given page put.form (page_found (wanted_of g) g.schema.now c.args.query.now c.into_vec.result.items given page c.requires.of_query (c.into_vec.ensures ∙ c.in_ok-rows.ensures.rows given put) made)) c.page.ensures
