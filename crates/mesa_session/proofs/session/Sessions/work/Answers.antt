use Rattle.std.proofs.Common.{arith}
use Rattle.mesa_session_turns.specs.mesa_history_spec.Rows.{no_rows}
use Rattle.mesa_session_turns.proofs.mesa_core.Answering.{answers_at, answers_both, answers_owed, answers_within}
use Rattle.mesa_session_turns.proofs.mesa_core.Turning.{took_both, took_fewer}
use Rattle.mesa_session.proofs.Drawing.{go_on, undrawn}
use Rattle.mesa_session.proofs.session.Sessions.work.Goals as goal

pub returns-then-is_err-clause-took : goal.returns-then-is_err-clause-took
returns-then-is_err-clause-took g c = took_fewer _ _ _ 2 3 (omega arith) (took_both _ _ _ _ 1 1 c.grant_turn-pass.ensures.took c.complete_turn.ensures.took)

pub returns-in-None-clause-took : goal.returns-in-None-clause-took
returns-in-None-clause-took g c = took_fewer _ _ _ 2 3 (omega arith) (took_both _ _ _ _ 1 1 c.grant_turn-pass.ensures.took c.renew_turn-pass.ensures.took)

pub returns-in-Some-renewed-clause-took : goal.returns-in-Some-renewed-clause-took
returns-in-Some-renewed-clause-took g c = took_both _ _ _ _ 2 1 (took_both _ _ _ _ 1 1 c.grant_turn-pass.ensures.took c.renew_turn-pass.ensures.took) c.complete_turn-in-Some-renewed.ensures.took

pub returns-then-is_err-clause-answers : goal.returns-then-is_err-clause-answers
returns-then-is_err-clause-answers g c =
    answers_owed g.N.Naming.script (g.N.Naming.start no_rows) c.args.who.session _ _ _ _ _ _ _ c.complete_turn.ensures.took.seen c.grant_turn-pass.ensures.answers c.merged-delta.ensures.owes
    (answers_at g.N.Naming.script (g.N.Naming.start no_rows) c.args.who.session _ _ _ _ c.complete_turn.ensures.answers)

pub returns-in_default-clause-answers : goal.returns-in_default-clause-answers
returns-in_default-clause-answers g c = answers_at g.N.Naming.script (g.N.Naming.start no_rows) c.args.who.session _ _ _ 0 c.grant_turn-pass.ensures.answers

pub returns-in-None-clause-answers : goal.returns-in-None-clause-answers
returns-in-None-clause-answers g c =
    let granted = answers_both g.N.Naming.script (g.N.Naming.start no_rows) c.args.who.session _ _ _ 0 0 0 c.renew_turn-pass.ensures.took.seen c.grant_turn-pass.ensures.answers c.renew_turn-pass.ensures.answers in
    answers_within g.N.Naming.script (g.N.Naming.start no_rows) c.args.who.session _ _ _ _ 0 0 (λ low. let owes = c.merged-delta.ensures.owes low in omega (arith, owes)) (λ low. let owes = c.merged-delta.ensures.owes low in omega (arith, owes)) granted

pub returns-in-Some-renewed-clause-answers : goal.returns-in-Some-renewed-clause-answers
returns-in-Some-renewed-clause-answers g c =
    let granted = answers_both g.N.Naming.script (g.N.Naming.start no_rows) c.args.who.session _ _ _ 0 0 0 c.renew_turn-pass.ensures.took.seen c.grant_turn-pass.ensures.answers c.renew_turn-pass.ensures.answers in
    answers_owed g.N.Naming.script (g.N.Naming.start no_rows) c.args.who.session _ _ _ _ _ _ _ c.complete_turn-in-Some-renewed.ensures.took.seen granted c.merged-delta.ensures.owes
    (answers_at g.N.Naming.script (g.N.Naming.start no_rows) c.args.who.session _ _ _ _ c.complete_turn-in-Some-renewed.ensures.answers)

pub returns-in_default-clause-ids : goal.returns-in_default-clause-ids
returns-in_default-clause-ids g c = undrawn (g.N.Naming.origin no_rows).run c.args.who.session _ c.requires.own

pub returns-then-is_err-clause-ids : goal.returns-then-is_err-clause-ids
returns-then-is_err-clause-ids g c = go_on (g.N.Naming.origin no_rows).run c.args.who.session _ _ c.requires.own c.merged-delta.ensures.ids

pub returns-in-None-clause-ids : goal.returns-in-None-clause-ids
returns-in-None-clause-ids g c = go_on (g.N.Naming.origin no_rows).run c.args.who.session _ _ c.requires.own c.merged-delta.ensures.ids

pub returns-in-Some-renewed-clause-ids : goal.returns-in-Some-renewed-clause-ids
returns-in-Some-renewed-clause-ids g c = go_on (g.N.Naming.origin no_rows).run c.args.who.session _ _ c.requires.own c.merged-delta.ensures.ids
