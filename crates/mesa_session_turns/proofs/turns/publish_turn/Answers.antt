use Rattle.std.proofs.Common.{◌≡◌, refl}
use Rattle.std.specs.Prelude.{Err}
use Rattle.mesa_core.specs.mesa_history_spec.Run.{Looked, Finished}
use Rattle.mesa_model.specs.declared.commands.Command.TheVariants as command
use Rattle.mesa_model.specs.declared.entries.Kind.TheVariants as kind
use Rattle.mesa_core.specs.mesa_history_spec.Rows.{no_rows}
use Rattle.mesa_core.specs.mesa_invariant_spec.Turns.{is_load}
use Rattle.mesa_core.proofs.Answering.{answers_within, step_drafts}
use Rattle.mesa_core.proofs.Turning.{Step, step_took}
use Rattle.mesa_open_files.specs.declared.prepared.LoadError.TheVariants as load
use Rattle.mesa_core.specs.Drafts.{owed_by_load}
use Rattle.mesa_core.specs.Sight.{sight_after}
use Rattle.mesa_session_turns.proofs.Prepared.{owed_made}
use Rattle.mesa_session_turns.proofs.Found.{prepared_found}
use Rattle.mesa_session_turns.proofs.Stepping.{asks, entered, finds_numbers, goes_on, one, room_for, step}
use Rattle.mesa_session_turns.proofs.turns.publish_turn.Goals as goal

pub publish-requires-clause-due : goal.publish-requires-clause-due
publish-requires-clause-due g c κs within =
    let e = entered c.requires.few c.requires.mine.holds c.requires.room.0 c.enter-held.ensures.finds c.enter-held.ensures.exact c.enter-held.ensures.pass c.value-vault.ensures.value c.running-ran.ensures.seen in
    asks e c.args.who.command Looked is_load c.requires.mine (record { asked = command.Load c.args.rows.now; known = c.requires.known; is = refl })

pub publish-requires-clause-room : goal.publish-requires-clause-room
publish-requires-clause-room g c κs within =
    let e = entered c.requires.few c.requires.mine.holds c.requires.room.0 c.enter-held.ensures.finds c.enter-held.ensures.exact c.enter-held.ensures.pass c.value-vault.ensures.value c.running-ran.ensures.seen in
    room_for e g.N.Naming.room c.requires.room.1

pub leave-requires-clause-one : goal.leave-requires-clause-one
leave-requires-clause-one g c κs within =
    let e = entered c.requires.few c.requires.mine.holds c.requires.room.0 c.enter-held.ensures.finds c.enter-held.ensures.exact c.enter-held.ensures.pass c.value-vault.ensures.value c.running-ran.ensures.seen in
    one e c.args.who.command kind.Decide c.publish.new.self.shown _ refl c.publish.ensures.turn.turn c.publish.ensures.turn.seen

whole : (g : _) (c : goal.After-leave g) → Step g.N.Naming.script (g.N.Naming.start no_rows) c.args.pass c.leave.result c.value-vault.result.now.shown c.publish.new.self.shown c.args.who.session c.args.who.command kind.Decide
whole g c =
    let e = entered c.requires.few c.requires.mine.holds c.requires.room.0 c.enter-held.ensures.finds c.enter-held.ensures.exact c.enter-held.ensures.pass c.value-vault.ensures.value c.running-ran.ensures.seen in
    step e c.args.who.command kind.Decide c.publish.new.self.shown _ refl c.publish.ensures.turn.turn c.publish.ensures.turn.seen c.leave.result c.leave.ensures.pass c.leave.ensures.exact

pub returns-clause-took : goal.returns-clause-took
returns-clause-took g c = step_took (whole g c)

pub returns-clause-mine : goal.returns-clause-mine
returns-clause-mine g c = goes_on (whole g c) Finished c.running-ran.result c.publish.ensures.turn c.running-ran.ensures.running

pub prepared_now-made-requires-after_bounds : goal.prepared_now-made-requires-after_bounds
prepared_now-made-requires-after_bounds g c κs within same =
    let e = entered c.requires.few c.requires.mine.holds c.requires.room.0 c.enter-held.ensures.finds c.enter-held.ensures.exact c.enter-held.ensures.pass c.value-vault.ensures.value c.running-ran.ensures.seen in
    prepared_found c.args.pass _ c.value-vault.result.now.shown.history (finds_numbers e) e.seen.short g.M.Made.bytes g.M.Made.id_of (sight_after g.N.Naming.script (g.N.Naming.start no_rows) (g.N.Naming.origin no_rows).generation) c.args.generation c.args.rows.now c.args.made c.requires.made same

pub returns-clause-answers : goal.returns-clause-answers
returns-clause-answers g c =
    answers_within g.N.Naming.script (g.N.Naming.start no_rows) c.args.who.session c.args.pass c.leave.result _ _ _ (owed_by_load c.prepared_now-made.result) c.prepared_now-made.ensures.later c.prepared_now-made.ensures.owes
    (step_drafts (whole g c) (c.prepared_now-made.result ≡ Err load.Draft) (owed_by_load c.prepared_now-made.result) c.publish.ensures.draft (owed_made c.prepared_now-made.result))
