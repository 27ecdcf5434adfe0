use Rattle.std.proofs.Common.{◌∙◌, sym}
use Rattle.mesa_merge.proofs.Causing.{cause_quiet}
use Rattle.mesa_group_blocks.proofs.beside.gathered_beside.Goals as goal

pub returns-in_default-clause-cause : goal.returns-in_default-clause-cause
returns-in_default-clause-cause g c = cause_quiet _ _ _ (c.in-Err.ensures.cause.other c.in_default.not-Read)

pub returns-in-Read-clause-cause : goal.returns-in-Read-clause-cause
returns-in-Read-clause-cause g c =
    let cause = c.in-Err.ensures.cause in
    record { later = cause.later; failed = λ is. cause.failed (c.in-Read.is ∙ is); quiet = tt; other = λ not. cause.other (λ is. not (sym c.in-Read.is ∙ is)) }
