use Rattle.std.proofs.Common.{rules, ◌≡◌, ◌<◌, ◌+◌, ◌*◌, true, false, not, List, length, get_or, arith, subst}
use Rattle.mesa_session_turns.specs.mesa_history_spec.Run.{Finished, commands_of}
use Rattle.mesa_session_turns.specs.mesa_history_spec.Turns.{place_then}
use Rattle.mesa_session_turns.proofs.mesa_history_spec.Due.{command_there}
use Rattle.mesa_model.specs.declared.commands.Command.{Command}
use Rattle.mesa_session_turns.specs.mesa_history_spec.Rows.{no_rows}
use Rattle.mesa_session_turns.specs.mesa_core.Passes.{Mine}
use Rattle.mesa_session_turns.proofs.mesa_core.Answering.{answers_both}
use Rattle.mesa_session_turns.proofs.mesa_core.Dividing.{gains}
use Rattle.mesa_session_turns.proofs.mesa_core.SessionEnds.{ended_cut, ended_whole}
use Rattle.mesa_session_turns.proofs.mesa_core.Turning.{took_both, took_fewer}
use Rattle.mesa_session.proofs.session.run_session.Goals as goal

pub run_command-next-requires-clause-known : goal.run_command-next-requires-clause-known
run_command-next-requires-clause-known g c κs within =
    let same : c.commands_of-commands.result.now ≡ commands_of g.N.Naming.script c.args.session = search rules in
    command_there g.N.Naming.script c.args.session c.commands.i c.index-commands-i.result c.index-commands-i.result (subst (λ (l : List Command). c.commands.i < length l) same c.commands-test.true)
    (subst (λ (l : List Command). c.index-commands-i.result ≡ get_or l c.commands.i c.index-commands-i.result) same c.index-commands-i.is)

pub returns-then-not-ran-clause-took : goal.returns-then-not-ran-clause-took
returns-then-not-ran-clause-took g c =
    let i = c.commands.i in
    let lt : i < length c.commands_of-commands.result.now = c.commands-test.true in
    let all : length c.commands_of-commands.result.now ≡ length (commands_of g.N.Naming.script c.args.session) = search rules in
    took_fewer _ _ _ (3 * i + 3) (3 * length (commands_of g.N.Naming.script c.args.session)) (omega (arith, lt, all)) (took_both _ _ _ _ (3 * i) 3 c.commands.invariant.took c.run_command-next.ensures.took)

pub returns-then-not-ran-clause-gains : goal.returns-then-not-ran-clause-gains
returns-then-not-ran-clause-gains g c =
    gains _ _ _ _ (took_both _ _ _ _ (3 * c.commands.i) 3 c.commands.invariant.took c.run_command-next.ensures.took) c.requires.mine.holds.exact c.run_command-next.ensures.mine.holds.exact

pub returns-then-not-ran-clause-ended : goal.returns-then-not-ran-clause-ended
returns-then-not-ran-clause-ended g c =
    let ran : c.run_command-next.result.1 ≡ false = search rules in
    ended_cut g.N.Naming.script (g.N.Naming.start no_rows) c.run_command-next.result.0 c.args.session (c.commands.i + 1)
    (subst (λ b. Mine g.N.Naming.script (g.N.Naming.start no_rows) c.run_command-next.result.0 c.args.session (place_then (not b) (c.commands.i + 1) Finished)) ran c.run_command-next.ensures.mine)

pub returns-then-not-ran-clause-answers : goal.returns-then-not-ran-clause-answers
returns-then-not-ran-clause-answers g c = answers_both g.N.Naming.script (g.N.Naming.start no_rows) c.args.session _ _ _ _ _ _ c.run_command-next.ensures.took.seen c.commands.invariant.answers c.run_command-next.ensures.answers

pub commands-preserved : goal.commands-preserved
commands-preserved g c =
    let i = c.commands.i in
    let ran : c.run_command-next.result.1 ≡ true = search rules in
    record {
      took = took_fewer _ _ _ (3 * i + 3) (3 * (i + 1)) (omega arith) (took_both _ _ _ _ (3 * i) 3 c.commands.invariant.took c.run_command-next.ensures.took);
      answers = answers_both g.N.Naming.script (g.N.Naming.start no_rows) c.args.session _ _ _ _ _ _ c.run_command-next.ensures.took.seen c.commands.invariant.answers c.run_command-next.ensures.answers;
      ids = c.run_command-next.ensures.ids.own;
      mine = subst (λ b. Mine g.N.Naming.script (g.N.Naming.start no_rows) c.run_command-next.result.0 c.args.session (place_then (not b) (i + 1) Finished)) ran c.run_command-next.ensures.mine;
    }

pub returns-clause-gains : goal.returns-clause-gains
returns-clause-gains g c = gains _ _ _ _ c.commands.invariant.took c.requires.mine.holds.exact c.commands.invariant.mine.holds.exact

pub returns-clause-ended : goal.returns-clause-ended
returns-clause-ended g c =
    let i = c.commands.i in
    let all : length c.commands_of-commands.result.now ≡ length (commands_of g.N.Naming.script c.args.session) = search rules in
    let past = c.commands-test.false in
    ended_whole g.N.Naming.script (g.N.Naming.start no_rows) c.commands.pass c.args.session i (omega (arith, past, all)) c.commands.invariant.mine
