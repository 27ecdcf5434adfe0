use Rattle.std.proofs.lemmas.Result.{err_from_is_err_and}
use Rattle.mesa_write_turns.specs.mesa_history_spec.Rows.{no_rows}
use Rattle.mesa_work_turns.proofs.Renewals.{held_claim, lost_claim, shut_claim}
use Rattle.mesa_work_turns.proofs.renewing.claims.Goals as goal

pub returns-in_err-check_open-clause-refused : goal.returns-in_err-check_open-clause-refused
returns-in_err-check_open-clause-refused c =
    let p = err_from_is_err_and c.from_residual.result c.from_residual.ensures.1 in
    let why = c.in_err-check_open.ensures.closed in
    rw (p.1, p.2, why.2) (shut_claim no_rows c.args.metadata.now.state c.args.position c.args.table c.args.lease why.0 why.1)

pub returns-in-Ok-clause-held : goal.returns-in-Ok-clause-held
returns-in-Ok-clause-held c = held_claim no_rows c.args.metadata.now.state c.args.position c.args.table c.args.lease c.in_ok-check_open.ensures.opened c.in-Ok.ensures.held

pub returns-in-Err-clause-refused : goal.returns-in-Err-clause-refused
returns-in-Err-clause-refused c = lost_claim no_rows c.args.metadata.now.state c.args.position c.args.table c.args.lease c.in-Err.lost c.in_ok-check_open.ensures.opened c.in-Err.ensures.lost
