use Rattle.std.proofs.lemmas.Result.{err_from_is_err_and}
use Rattle.mesa_filter.proofs.ResumeKeys.{own_resume, resume_refused}
use Rattle.mesa_filter.proofs.query.Query.build.Goals as goal

pub returns-in_err-resume-clause-refused : goal.returns-in_err-resume-clause-refused
returns-in_err-resume-clause-refused c =
    let p = err_from_is_err_and c.from_residual-in_err-resume.result c.from_residual-in_err-resume.ensures.1 in
    rw (p.1, p.2) (λ other.
    resume_refused c.args.schema.now c.args.relation.now c.args.version c.args.epoch c.args.words.now _ c.as_slice-3.result.now c.as_slice-4.result.now c.as_slice-5.result.now _ c.in_ok-asking.ensures.asked
    (cc (c.in_ok-group_kinds.ensures, c.in_ok-asking.ensures.kinds)) (cc c.in_ok-prefix.ensures) c.as_slice-5.ensures (c.in_err-resume.ensures.refused other))

pub returns-clause-resume : goal.returns-clause-resume
returns-clause-resume c =
    own_resume c.args.schema.now c.args.relation.now c.args.version c.args.epoch c.args.words.now c.in_ok-asking.asking.columns c.as_slice-3.result.now c.as_slice-4.result.now c.as_slice-5.result.now _
    (cc (c.in_ok-group_kinds.ensures, c.in_ok-asking.ensures.kinds)) (cc c.in_ok-prefix.ensures) c.as_slice-5.ensures c.in_ok-resume.ensures.read
