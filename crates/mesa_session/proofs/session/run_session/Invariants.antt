use Rattle.std.proofs.Common.{◌+◌, ◌*◌}
use Rattle.mesa_session_turns.specs.mesa_history_spec.Run.{First}
use Rattle.mesa_session_turns.specs.mesa_history_spec.Rows.{no_rows}
use Rattle.mesa_session_turns.specs.mesa_core.Answers.{Answers}
use Rattle.mesa_session_turns.specs.mesa_core.Passes.{Mine, Took, at_stage}
use Rattle.mesa_session.specs.Drafts.{AreOf}
use Rattle.mesa_session.proofs.session.run_session.Given as goal

-- the session has taken at most three turns for each command before the one at hand, and answered no more faults of its bench than this counted
abbrev pub invariant-commands : goal.invariant-commands
invariant-commands g l = record {
  took : Took l.session l.fn.pass l.pass (3 * l.i);
  answers : Answers g.N.Naming.script (g.N.Naming.start no_rows) l.session l.fn.pass l.pass (g.B.Bench.faults l.fn.bench) (g.B.Bench.faults l.bench) 0;
  ids : AreOf (g.N.Naming.origin no_rows).run l.session l.ids;
  mine : Mine g.N.Naming.script (g.N.Naming.start no_rows) l.pass l.session (at_stage (l.i + 1) First);
}
