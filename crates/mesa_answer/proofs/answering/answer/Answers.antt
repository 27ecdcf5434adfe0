use Rattle.std.proofs.Common.{◌∙◌, ap}
use Rattle.mesa_model.specs.mesa_fold.Folded.{grouped}
use Rattle.mesa_filter.specs.Filter.{filtered}
use Rattle.mesa_model.specs.Page.{page_of}
use Rattle.mesa_answer.specs.Gathering.{Wanted}
use Rattle.mesa_answer.proofs.Results.{if_ok}
use Rattle.mesa_answer.proofs.answering.answer.Goals as goal

pub returns-clause-page : goal.returns-clause-page
returns-clause-page c =
    let q = c.args.query.now in
    let rows = filtered c.args.schema.now q.asked.terms c.args.rows.now in
    let schema = ap (λ (w : Wanted). w.schema) c.in_ok-gathered.ensures.wanted in
    if_ok c.into_page.result _ _ (λ page made. made rows c.in_ok-gathered.ensures.put ∙ ap (λ s. page_of q.version q.limit q.resume (grouped s q.asked.columns q.asked.values rows)) schema) c.into_page.ensures.page
