use Rattle.std.proofs.Common.{refl, ◌≡◌, sym, subst, List}
use Rattle.std.specs.Prelude.{IfOk}
use Rattle.mesa_core.specs.mesa_history_spec.Run.{First, Looked}
use Rattle.mesa_model.specs.declared.entries.Entry.{Entry}
use Rattle.mesa_model.specs.declared.entries.Kind.TheVariants as kind
use Rattle.mesa_core.specs.mesa_history_spec.Rows.{no_rows}
use Rattle.mesa_core.specs.mesa_invariant_spec.Turns.{is_load}
use Rattle.mesa_core.proofs.Answering.{none_looking, step_none}
use Rattle.mesa_core.proofs.Turning.{Step, step_took, step_seen}
use Rattle.mesa_core.specs.Sight.{sight_after}
use Rattle.mesa_session_turns.proofs.Stepping.{asks, entered, goes_on, one, room_for, step}
use Rattle.mesa_session_turns.proofs.turns.look_turn.Goals as goal
use Rattle.mesa_session_turns.proofs.turns.look_turn.Goals.{After-leave}

pub look-glance-requires-clause-due : goal.look-glance-requires-clause-due
look-glance-requires-clause-due g c κs within =
    let e = entered c.requires.few c.requires.mine.holds c.requires.room.0 c.enter-held.ensures.finds c.enter-held.ensures.exact c.enter-held.ensures.pass c.value-vault.ensures.value c.running-ran.ensures.seen in
    asks e c.args.who.command First is_load c.requires.mine c.requires.sort

pub look-glance-requires-clause-room : goal.look-glance-requires-clause-room
look-glance-requires-clause-room g c κs within =
    let e = entered c.requires.few c.requires.mine.holds c.requires.room.0 c.enter-held.ensures.finds c.enter-held.ensures.exact c.enter-held.ensures.pass c.value-vault.ensures.value c.running-ran.ensures.seen in
    room_for e g.N.Naming.room c.requires.room.1

pub leave-requires-clause-one : goal.leave-requires-clause-one
leave-requires-clause-one g c κs within =
    let e = entered c.requires.few c.requires.mine.holds c.requires.room.0 c.enter-held.ensures.finds c.enter-held.ensures.exact c.enter-held.ensures.pass c.value-vault.ensures.value c.running-ran.ensures.seen in
    one e c.args.who.command kind.Look c.look-glance.new.self.shown _ refl c.look-glance.ensures.turn.turn c.look-glance.ensures.turn.seen

whole : (g : _) (c : After-leave g) → Step g.N.Naming.script (g.N.Naming.start no_rows) c.args.pass c.leave.result c.value-vault.result.now.shown c.look-glance.new.self.shown c.args.who.session c.args.who.command kind.Look
whole g c =
    let e = entered c.requires.few c.requires.mine.holds c.requires.room.0 c.enter-held.ensures.finds c.enter-held.ensures.exact c.enter-held.ensures.pass c.value-vault.ensures.value c.running-ran.ensures.seen in
    step e c.args.who.command kind.Look c.look-glance.new.self.shown _ refl c.look-glance.ensures.turn.turn c.look-glance.ensures.turn.seen c.leave.result c.leave.ensures.pass c.leave.ensures.exact

pub returns-clause-took : goal.returns-clause-took
returns-clause-took g c = step_took (whole g c)

pub returns-clause-mine : goal.returns-clause-mine
returns-clause-mine g c = goes_on (whole g c) Looked c.running-ran.result c.look-glance.ensures.turn c.running-ran.ensures.running

pub returns-clause-glance : goal.returns-clause-glance
returns-clause-glance g c =
    subst (λ (h : List Entry). IfOk c.look-glance.result (λ glance. glance ≡ sight_after g.N.Naming.script (g.N.Naming.start no_rows) (g.N.Naming.origin no_rows).generation h)) (sym (step_seen (whole g c))) c.look-glance.ensures.glance

pub returns-clause-answers : goal.returns-clause-answers
returns-clause-answers g c = step_none (whole g c) c.requires.sort.asked c.requires.sort.known (none_looking c.requires.sort.asked)
