use Rattle.std.proofs.lemmas.Result.{err_from_is_err_and}
use Rattle.mesa_filter.proofs.Refusals.{other_refusal}
use Rattle.mesa_filter.proofs.query.Query.check.Goals as goal

pub returns-in_err-_asking-clause-resume_unseen : goal.returns-in_err-_asking-clause-resume_unseen
returns-in_err-_asking-clause-resume_unseen c =
    let p = err_from_is_err_and c.from_residual.result c.from_residual.ensures.1 in
    rw (p.1, p.2) (other_refusal c.args.schema.now c.args.words.now _ c.in_err-_asking.ensures.refused)
