use Rattle.std.proofs.Common.{refl}
use Rattle.mesa_core.specs.mesa_history_spec.Run.{Finished}
use Rattle.mesa_model.specs.declared.commands.Command.TheVariants as command
use Rattle.mesa_model.specs.declared.entries.Kind.TheVariants as kind
use Rattle.mesa_core.specs.mesa_history_spec.Rows.{no_rows}
use Rattle.mesa_core.proofs.Answering.{step_none}
use Rattle.mesa_core.proofs.Turning.{Step, step_took}
use Rattle.mesa_session_turns.proofs.Found.{open_found}
use Rattle.mesa_session_turns.proofs.Stepping.{entered, finds_numbers, goes_on, one, room_for, step}
use Rattle.mesa_session_turns.proofs.turns.close_turn.Goals as goal
use Rattle.mesa_session_turns.proofs.turns.close_turn.Goals.{After-leave}

pub close_query-requires-clause-room : goal.close_query-requires-clause-room
close_query-requires-clause-room g c κs within =
    let e = entered c.requires.few c.requires.holds c.requires.room.0 c.enter-held.ensures.finds c.enter-held.ensures.exact c.enter-held.ensures.pass c.value-vault.ensures.value c.running-ran.ensures.seen in
    room_for e g.N.Naming.room c.requires.room.1

pub leave-requires-clause-one : goal.leave-requires-clause-one
leave-requires-clause-one g c κs within =
    let e = entered c.requires.few c.requires.holds c.requires.room.0 c.enter-held.ensures.finds c.enter-held.ensures.exact c.enter-held.ensures.pass c.value-vault.ensures.value c.running-ran.ensures.seen in
    one e c.args.who.command kind.Close c.close_query.new.self.shown _ refl c.close_query.ensures.turn.turn c.close_query.ensures.turn.seen

whole : (g : _) (c : After-leave g) → Step g.N.Naming.script (g.N.Naming.start no_rows) c.args.pass c.leave.result c.value-vault.result.now.shown c.close_query.new.self.shown c.args.who.session c.args.who.command kind.Close
whole g c =
    let e = entered c.requires.few c.requires.holds c.requires.room.0 c.enter-held.ensures.finds c.enter-held.ensures.exact c.enter-held.ensures.pass c.value-vault.ensures.value c.running-ran.ensures.seen in
    step e c.args.who.command kind.Close c.close_query.new.self.shown _ refl c.close_query.ensures.turn.turn c.close_query.ensures.turn.seen c.leave.result c.leave.ensures.pass c.leave.ensures.exact

pub returns-clause-took : goal.returns-clause-took
returns-clause-took g c = step_took (whole g c)

pub returns-clause-mine : goal.returns-clause-mine
returns-clause-mine g c = goes_on (whole g c) Finished c.running-ran.result c.close_query.ensures.turn c.running-ran.ensures.running

pub close_query-requires-clause-open : goal.close_query-requires-clause-open
close_query-requires-clause-open g c κs within =
    let e = entered c.requires.few c.requires.holds c.requires.room.0 c.enter-held.ensures.finds c.enter-held.ensures.exact c.enter-held.ensures.pass c.value-vault.ensures.value c.running-ran.ensures.seen in
    open_found c.args.pass _ c.value-vault.result.now.shown.history (finds_numbers e) e.seen.short e.exact g.N.Naming.script e.few g.N.Naming.start e.seen.fits c.args.who.session c.requires.holds.held c.requires.holds.whole _ _ _ c.requires.open

pub returns-clause-answers : goal.returns-clause-answers
returns-clause-answers g c = step_none (whole g c) (command.Query c.requires.open.words) (c.requires.open.opened no_rows).due.known refl
