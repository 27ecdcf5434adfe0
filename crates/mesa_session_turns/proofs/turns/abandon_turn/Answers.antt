use Rattle.std.proofs.Common.{refl, ◌≡◌, true, inl}
use Rattle.std.specs.Prelude.{Err, Result}
use Rattle.mesa_core.specs.Handing.{IsRecastGranted}
use Rattle.mesa_core.specs.mesa_invariant_spec.Turns.{is_recast}
use Rattle.mesa_core.specs.mesa_history_spec.Run.{Finished, Granted}
use Rattle.mesa_model.specs.declared.entries.Kind.TheVariants as kind
use Rattle.mesa_core.specs.mesa_history_spec.Rows.{no_rows}
use Rattle.mesa_core.proofs.Answering.{step_drafts}
use Rattle.mesa_core.proofs.Turning.{Step, step_took}
use Rattle.mesa_open_files.specs.declared.merging.CompactError.{CompactError}
use Rattle.mesa_open_files.specs.declared.merging.CompactError.TheVariants as compact
use Rattle.mesa_core.specs.Drafts.{owed_by_error}
use Rattle.mesa_open_files.specs.Recasts.{claim_of_recast}
use Rattle.mesa_session_turns.proofs.Prepared.{owed_error}
use Rattle.mesa_session_turns.proofs.Found.{granted_found}
use Rattle.mesa_session_turns.proofs.Stepping.{asks, entered, finds_numbers, goes_on, one, room_for, step}
use Rattle.mesa_session_turns.proofs.turns.abandon_turn.Goals as goal

pub recast-requires-clause-due : goal.recast-requires-clause-due
recast-requires-clause-due g c κs within =
    let e = entered c.requires.few c.requires.mine.holds c.requires.room.0 c.enter-held.ensures.finds c.enter-held.ensures.exact c.enter-held.ensures.pass c.value-vault.ensures.value c.running-ran.ensures.seen in
    (true, asks e c.args.who.command (Granted (claim_of_recast c.args.task)) is_recast c.requires.mine c.requires.sort)

pub recast-requires-clause-room : goal.recast-requires-clause-room
recast-requires-clause-room g c κs within =
    let e = entered c.requires.few c.requires.mine.holds c.requires.room.0 c.enter-held.ensures.finds c.enter-held.ensures.exact c.enter-held.ensures.pass c.value-vault.ensures.value c.running-ran.ensures.seen in
    room_for e g.N.Naming.room c.requires.room.1

pub leave-requires-clause-one : goal.leave-requires-clause-one
leave-requires-clause-one g c κs within =
    let e = entered c.requires.few c.requires.mine.holds c.requires.room.0 c.enter-held.ensures.finds c.enter-held.ensures.exact c.enter-held.ensures.pass c.value-vault.ensures.value c.running-ran.ensures.seen in
    one e c.args.who.command kind.Close c.recast.new.self.shown _ refl c.recast.ensures.turn.turn c.recast.ensures.turn.seen

whole : (g : _) (c : goal.After-leave g) → Step g.N.Naming.script (g.N.Naming.start no_rows) c.args.pass c.leave.result c.value-vault.result.now.shown c.recast.new.self.shown c.args.who.session c.args.who.command kind.Close
whole g c =
    let e = entered c.requires.few c.requires.mine.holds c.requires.room.0 c.enter-held.ensures.finds c.enter-held.ensures.exact c.enter-held.ensures.pass c.value-vault.ensures.value c.running-ran.ensures.seen in
    step e c.args.who.command kind.Close c.recast.new.self.shown _ refl c.recast.ensures.turn.turn c.recast.ensures.turn.seen c.leave.result c.leave.ensures.pass c.leave.ensures.exact

pub returns-clause-took : goal.returns-clause-took
returns-clause-took g c = step_took (whole g c)

pub returns-clause-mine : goal.returns-clause-mine
returns-clause-mine g c = goes_on (whole g c) Finished c.running-ran.result c.recast.ensures.turn c.running-ran.ensures.running

pub recast-requires-clause-granted : goal.recast-requires-clause-granted
recast-requires-clause-granted g c κs within =
    let e = entered c.requires.few c.requires.mine.holds c.requires.room.0 c.enter-held.ensures.finds c.enter-held.ensures.exact c.enter-held.ensures.pass c.value-vault.ensures.value c.running-ran.ensures.seen in
    inl (granted_found c.args.pass _ c.value-vault.result.now.shown.history (finds_numbers e) e.seen.short (IsRecastGranted g.D.Reader.FileReader.bytes g.N.Naming.script g.N.Naming.start g.N.Naming.origin g.N.Naming.sound) _ c.requires.granted)

pub returns-clause-answers : goal.returns-clause-answers
returns-clause-answers g c =
    step_drafts (whole g c) (◌≡◌ {A = Result _ CompactError} (Err c.args.error) (Err compact.Draft)) (owed_by_error c.args.error) c.recast.ensures.draft (owed_error c.args.error)

pub recast-requires-clause-made : goal.recast-requires-clause-made
recast-requires-clause-made g c κs within = inl c.requires.unmade
