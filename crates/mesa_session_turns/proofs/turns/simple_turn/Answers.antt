use Rattle.std.proofs.Common.{refl}
use Rattle.mesa_core.specs.mesa_history_spec.Run.{First, Finished}
use Rattle.mesa_model.specs.declared.entries.Kind.TheVariants as kind
use Rattle.mesa_core.specs.mesa_history_spec.Rows.{no_rows}
use Rattle.mesa_core.specs.mesa_invariant_spec.Turns.{is_simple}
use Rattle.mesa_core.proofs.Answering.{none_simple, step_none}
use Rattle.mesa_core.proofs.Turning.{Step, step_took}
use Rattle.mesa_session_turns.proofs.Stepping.{asks, entered, goes_on, one, room_for, step}
use Rattle.mesa_session_turns.proofs.turns.simple_turn.Goals as goal

pub simple-requires-clause-due : goal.simple-requires-clause-due
simple-requires-clause-due g c κs within =
    let e = entered c.requires.few c.requires.mine.holds c.requires.room.0 c.enter-held.ensures.finds c.enter-held.ensures.exact c.enter-held.ensures.pass c.value-vault.ensures.value c.running-ran.ensures.seen in
    asks e c.args.who.command First is_simple c.requires.mine c.requires.sort

pub simple-requires-clause-room : goal.simple-requires-clause-room
simple-requires-clause-room g c κs within =
    let e = entered c.requires.few c.requires.mine.holds c.requires.room.0 c.enter-held.ensures.finds c.enter-held.ensures.exact c.enter-held.ensures.pass c.value-vault.ensures.value c.running-ran.ensures.seen in
    room_for e g.N.Naming.room c.requires.room.1

pub leave-requires-clause-one : goal.leave-requires-clause-one
leave-requires-clause-one g c κs within =
    let e = entered c.requires.few c.requires.mine.holds c.requires.room.0 c.enter-held.ensures.finds c.enter-held.ensures.exact c.enter-held.ensures.pass c.value-vault.ensures.value c.running-ran.ensures.seen in
    one e c.args.who.command kind.Decide c.simple.new.self.shown _ refl c.simple.ensures.turn.turn c.simple.ensures.turn.seen

whole : (g : _) (c : goal.After-leave g) → Step g.N.Naming.script (g.N.Naming.start no_rows) c.args.pass c.leave.result c.value-vault.result.now.shown c.simple.new.self.shown c.args.who.session c.args.who.command kind.Decide
whole g c =
    let e = entered c.requires.few c.requires.mine.holds c.requires.room.0 c.enter-held.ensures.finds c.enter-held.ensures.exact c.enter-held.ensures.pass c.value-vault.ensures.value c.running-ran.ensures.seen in
    step e c.args.who.command kind.Decide c.simple.new.self.shown _ refl c.simple.ensures.turn.turn c.simple.ensures.turn.seen c.leave.result c.leave.ensures.pass c.leave.ensures.exact

pub returns-clause-took : goal.returns-clause-took
returns-clause-took g c = step_took (whole g c)

pub returns-clause-mine : goal.returns-clause-mine
returns-clause-mine g c = goes_on (whole g c) Finished c.running-ran.result c.simple.ensures.turn c.running-ran.ensures.running

pub returns-clause-answers : goal.returns-clause-answers
returns-clause-answers g c = step_none (whole g c) c.requires.sort.asked c.requires.sort.known (none_simple c.requires.sort.asked kind.Decide c.requires.sort.is)
