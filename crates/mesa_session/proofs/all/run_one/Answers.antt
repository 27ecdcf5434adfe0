use Rattle.mesa_session_turns.specs.mesa_history_spec.Rows.{no_rows}
use Rattle.mesa_session_turns.proofs.mesa_core.Counting.{counted_whole}
use Rattle.mesa_session.proofs.all.run_one.Goals as goal

pub returns-clause-counted : goal.returns-clause-counted
returns-clause-counted g c = counted_whole g.N.Naming.script (g.N.Naming.start no_rows) c.args.session c.args.pass c.run_session.result _ _ c.requires.fresh c.run_session.ensures.answers
