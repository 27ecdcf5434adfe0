use Rattle.std.proofs.Common.{arith}
use Rattle.mesa_session_turns.specs.mesa_history_spec.Rows.{no_rows}
use Rattle.mesa_session_turns.proofs.mesa_core.Answering.{answers_at, answers_owed}
use Rattle.mesa_session_turns.proofs.mesa_core.Turning.{took_both, took_fewer}
use Rattle.mesa_session_turns.specs.mesa_core.Drafts.{owed_by_load}
use Rattle.mesa_session.proofs.Drawing.{drawn_both, go_on, undrawn}
use Rattle.mesa_session.proofs.session.Sessions.load.Goals as goal

pub returns-clause-took : goal.returns-clause-took
returns-clause-took g c = took_fewer _ _ _ 2 3 (omega arith) (took_both _ _ _ _ 1 1 c.look_turn-pass.ensures.took c.publish_turn.ensures.took)

pub returns-clause-answers : goal.returns-clause-answers
returns-clause-answers g c =
    answers_owed g.N.Naming.script (g.N.Naming.start no_rows) c.args.who.session _ _ _ _ _ _ (owed_by_load c.prepared_first-generation.result.1) c.publish_turn.ensures.took.seen c.look_turn-pass.ensures.answers c.prepared_first-generation.ensures.owes c.publish_turn.ensures.answers

pub returns-then-not-ran-clause-answers : goal.returns-then-not-ran-clause-answers
returns-then-not-ran-clause-answers g c = answers_at g.N.Naming.script (g.N.Naming.start no_rows) c.args.who.session _ _ _ 0 c.look_turn-pass.ensures.answers

pub returns-then-not-ran-clause-ids : goal.returns-then-not-ran-clause-ids
returns-then-not-ran-clause-ids g c = undrawn (g.N.Naming.origin no_rows).run c.args.who.session _ c.requires.own

pub returns-clause-ids : goal.returns-clause-ids
returns-clause-ids g c = go_on (g.N.Naming.origin no_rows).run c.args.who.session _ _ c.requires.own (drawn_both _ _ _ c.prepared_first-generation.ensures.ids c.publish_turn.ensures.ids)
