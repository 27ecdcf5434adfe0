use Rattle.std.proofs.Common.{arith, sym, subst}
use Rattle.std.specs.Prelude.{IfSome}
use Rattle.mesa_session_turns.specs.mesa_core.Handing.{Tells}
use Rattle.mesa_model.specs.Entry.{history_of}
use Rattle.mesa_session_turns.specs.mesa_history_spec.Rows.{no_rows}
use Rattle.mesa_session_turns.proofs.mesa_core.Answering.{answers_both}
use Rattle.mesa_session_turns.proofs.mesa_core.Turning.{took_both, took_fewer}
use Rattle.mesa_session_turns.specs.mesa_core.Pins.{CanBeAnswered, IsOpenQuery, KnownPin, known_pin}
use Rattle.mesa_session.proofs.session.Sessions.query.Goals as goal

pub close_turn-requires-clause-open : goal.close_turn-requires-clause-open
close_turn-requires-clause-open g c κs within =
    let was = subst (λ o. IfSome o (λ p. IsOpenQuery g.N.Naming.script g.N.Naming.start (history_of c.pin_turn-pass.result.0.seen) c.args.who.session c.args.who.command p.at (λ past. Tells g.N.Naming.sound (known_pin g.D.Reader.FileReader.bytes p)) × CanBeAnswered g.D.Reader.FileReader.bytes p)) c.in-Some.is c.pin_turn-pass.ensures.open in
    subst (λ (k : KnownPin). IsOpenQuery g.N.Naming.script g.N.Naming.start (history_of c.pin_turn-pass.result.0.seen) c.args.who.session c.args.who.command k.at (λ past. Tells g.N.Naming.sound k)) (sym c.answered-pinned.ensures.known) was.0

pub returns-in-Some-clause-took : goal.returns-in-Some-clause-took
returns-in-Some-clause-took g c = took_fewer _ _ _ 2 3 (omega arith) (took_both _ _ _ _ 1 1 c.pin_turn-pass.ensures.took c.close_turn.ensures.took)

pub returns-in-Some-clause-answers : goal.returns-in-Some-clause-answers
returns-in-Some-clause-answers g c = answers_both g.N.Naming.script (g.N.Naming.start no_rows) c.args.who.session _ _ _ 0 0 0 c.close_turn.ensures.took.seen c.pin_turn-pass.ensures.answers c.close_turn.ensures.answers
