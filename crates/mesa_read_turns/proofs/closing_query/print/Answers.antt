use Rattle.std.proofs.Common.{◌≡◌, [], sym, subst}
use Rattle.mesa_engine.specs.mesa_history_spec.Replay.{no_rows as no_lines}
use Rattle.mesa_engine.proofs.Printing.{no_body}
use Rattle.mesa_script.specs.Rows.{body_of}
use Rattle.mesa_read_turns.proofs.closing_query.print.Goals as goal

pub returns-in-Err-clause-goes : goal.returns-in-Err-clause-goes
returns-in-Err-clause-goes g c = (c.tell.ensures.told no_lines (subst (λ r. [] ≡ body_of no_lines r) (sym c.into_reply-reply.ensures) (no_body c.failed-failure.result))).goes
