use Rattle.std.proofs.Common.{arith}
use Rattle.mesa_session_turns.specs.mesa_history_spec.Rows.{no_rows}
use Rattle.mesa_session_turns.proofs.mesa_core.Answering.{answers_at, answers_both, answers_owed, answers_within}
use Rattle.mesa_session_turns.proofs.mesa_core.Turning.{took_both, took_fewer}
use Rattle.mesa_session.proofs.Drawing.{drawn_both, go_on, undrawn}
use Rattle.mesa_session.proofs.session.Sessions.recast.Goals as goal

pub returns-in-Err-clause-took : goal.returns-in-Err-clause-took
returns-in-Err-clause-took g c = took_fewer _ _ _ 2 3 (omega arith) (took_both _ _ _ _ 1 1 c.grant_recast_turn-pass.ensures.took c.abandon_turn.ensures.took)

pub returns-in-None-clause-took : goal.returns-in-None-clause-took
returns-in-None-clause-took g c = took_fewer _ _ _ 2 3 (omega arith) (took_both _ _ _ _ 1 1 c.grant_recast_turn-pass.ensures.took c.renew_recast_turn-pass.ensures.took)

pub returns-in-Some-renewed-clause-took : goal.returns-in-Some-renewed-clause-took
returns-in-Some-renewed-clause-took g c = took_both _ _ _ _ 2 1 (took_both _ _ _ _ 1 1 c.grant_recast_turn-pass.ensures.took c.renew_recast_turn-pass.ensures.took) c.recast_turn.ensures.took

pub returns-in-Err-clause-answers : goal.returns-in-Err-clause-answers
returns-in-Err-clause-answers g c =
    answers_owed g.N.Naming.script (g.N.Naming.start no_rows) c.args.who.session _ _ _ _ _ _ _ c.abandon_turn.ensures.took.seen c.grant_recast_turn-pass.ensures.answers c.in-Err.ensures.owes
    (answers_at g.N.Naming.script (g.N.Naming.start no_rows) c.args.who.session _ _ _ _ c.abandon_turn.ensures.answers)

pub returns-in_default-clause-answers : goal.returns-in_default-clause-answers
returns-in_default-clause-answers g c = answers_at g.N.Naming.script (g.N.Naming.start no_rows) c.args.who.session _ _ _ 0 c.grant_recast_turn-pass.ensures.answers

pub returns-in-None-clause-answers : goal.returns-in-None-clause-answers
returns-in-None-clause-answers g c =
    let granted = answers_both g.N.Naming.script (g.N.Naming.start no_rows) c.args.who.session _ _ _ 0 0 0 c.renew_recast_turn-pass.ensures.took.seen c.grant_recast_turn-pass.ensures.answers c.renew_recast_turn-pass.ensures.answers in
    answers_within g.N.Naming.script (g.N.Naming.start no_rows) c.args.who.session _ _ _ _ 0 0 (λ low. let owes = c.regrouped-made.ensures.owes low in omega (arith, owes)) (λ low. let owes = c.regrouped-made.ensures.owes low in omega (arith, owes)) granted

pub returns-in-Some-renewed-clause-answers : goal.returns-in-Some-renewed-clause-answers
returns-in-Some-renewed-clause-answers g c =
    let granted = answers_both g.N.Naming.script (g.N.Naming.start no_rows) c.args.who.session _ _ _ 0 0 0 c.renew_recast_turn-pass.ensures.took.seen c.grant_recast_turn-pass.ensures.answers c.renew_recast_turn-pass.ensures.answers in
    let made =
    answers_within g.N.Naming.script (g.N.Naming.start no_rows) c.args.who.session _ _ (g.B.Bench.faults c.args.bench.now) (g.B.Bench.faults c.regrouped-made.new.bench) 0 0 (λ low. let owes = c.regrouped-made.ensures.owes low in omega (arith, owes)) (λ low. let owes = c.regrouped-made.ensures.owes low in omega (arith, owes)) granted in
    answers_both g.N.Naming.script (g.N.Naming.start no_rows) c.args.who.session _ _ _ _ _ _ c.recast_turn.ensures.took.seen made c.recast_turn.ensures.answers

pub returns-in_default-clause-ids : goal.returns-in_default-clause-ids
returns-in_default-clause-ids g c = undrawn (g.N.Naming.origin no_rows).run c.args.who.session _ c.requires.own

pub returns-in-Err-clause-ids : goal.returns-in-Err-clause-ids
returns-in-Err-clause-ids g c = go_on (g.N.Naming.origin no_rows).run c.args.who.session _ _ c.requires.own c.regrouped-made.ensures.ids

pub returns-in-None-clause-ids : goal.returns-in-None-clause-ids
returns-in-None-clause-ids g c = go_on (g.N.Naming.origin no_rows).run c.args.who.session _ _ c.requires.own c.regrouped-made.ensures.ids

pub returns-in-Some-renewed-clause-ids : goal.returns-in-Some-renewed-clause-ids
returns-in-Some-renewed-clause-ids g c = go_on (g.N.Naming.origin no_rows).run c.args.who.session _ _ c.requires.own (drawn_both _ _ _ c.regrouped-made.ensures.ids c.recast_turn.ensures.ids)
