use Rattle.mesa_session_turns.specs.mesa_history_spec.Rows.{no_rows}
use Rattle.mesa_session_turns.proofs.mesa_core.Dividing.{have_ended}
use Rattle.mesa_session.proofs.all.join_next.Goals as goal

pub returns-clause-ended : goal.returns-clause-ended
returns-clause-ended g c = have_ended g.N.Naming.script (g.N.Naming.start no_rows) c.args.rest c.args.mine c.join.result c.join.ensures.joins c.args.next c.requires.name c.requires.few c.requires.rest c.requires.mine
