use Rattle.std.proofs.Common.{not, sym, ◌∙◌, ap}
use Rattle.std.proofs.lemmas.Result.{err_from_is_err_and}
use Rattle.mesa_engine.specs.mesa_history_spec.Rows.{no_rows}
use Rattle.mesa_read_turns.proofs.Releases.{none_as, refuses_absent, refuses_closed, releases}
use Rattle.mesa_read_turns.proofs.releasing.check_release.Goals as goal

pub returns-in_err-check_open-clause-refused : goal.returns-in_err-check_open-clause-refused
returns-in_err-check_open-clause-refused c =
    let p = err_from_is_err_and c.from_residual.result c.from_residual.ensures.1 in
    let why = c.in_err-check_open.ensures.closed in
    rw (p.1, p.2, why.2) (refuses_closed no_rows c.args.metadata.now.state c.args.session c.args.token why.0 why.1)

pub returns-then-is_none-clause-refused : goal.returns-then-is_none-clause-refused
returns-then-is_none-clause-refused c =
    refuses_absent no_rows c.args.metadata.now.state c.args.session c.args.token c.in_ok-check_open.ensures.opened
    (sym (none_as _ c.pin_of.result _ c.pin_of.ensures) ∙ ap not (c.is_none.ensures ∙ ap not c.if-is_none.true))

pub returns-clause-released : goal.returns-clause-released
returns-clause-released c =
    releases no_rows c.args.metadata.now.state c.args.session c.args.token c.in_ok-check_open.ensures.opened
    (sym (none_as _ c.pin_of.result _ c.pin_of.ensures) ∙ ap not (c.is_none.ensures ∙ ap not c.if-is_none.false))
