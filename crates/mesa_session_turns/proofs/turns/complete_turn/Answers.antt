use Rattle.std.proofs.Common.{refl, ◌≡◌, not}
use Rattle.std.specs.Prelude.{Err, is_ok}
use Rattle.mesa_core.specs.Handing.{IsGranted}
use Rattle.mesa_core.specs.mesa_invariant_spec.Turns.{is_merge}
use Rattle.mesa_core.specs.mesa_history_spec.Run.{Finished}
use Rattle.mesa_model.specs.declared.entries.Kind.TheVariants as kind
use Rattle.mesa_core.specs.mesa_history_spec.Rows.{no_rows}
use Rattle.mesa_core.specs.mesa_invariant_spec.Works.{closing_stage}
use Rattle.mesa_core.proofs.Answering.{step_drafts}
use Rattle.mesa_core.proofs.Turning.{Step, step_took}
use Rattle.mesa_open_files.specs.declared.merging.CompactError.TheVariants as compact
use Rattle.mesa_core.specs.Drafts.{owed_by_work}
use Rattle.mesa_open_files.specs.Tasks.{claim_in}
use Rattle.mesa_session_turns.proofs.Prepared.{owed_merged}
use Rattle.mesa_session_turns.proofs.Found.{granted_found}
use Rattle.mesa_session_turns.proofs.Stepping.{asks, entered, finds_numbers, goes_on, one, room_for, step}
use Rattle.mesa_session_turns.proofs.turns.complete_turn.Goals as goal

pub complete-requires-clause-due : goal.complete-requires-clause-due
complete-requires-clause-due g c κs within =
    let e = entered c.requires.few c.requires.mine.holds c.requires.room.0 c.enter-held.ensures.finds c.enter-held.ensures.exact c.enter-held.ensures.pass c.value-vault.ensures.value c.running-ran.ensures.seen in
    asks e c.args.who.command (closing_stage (not (is_ok c.args.merged)) (claim_in c.args.task)) is_merge c.requires.mine c.requires.sort

pub complete-requires-clause-room : goal.complete-requires-clause-room
complete-requires-clause-room g c κs within =
    let e = entered c.requires.few c.requires.mine.holds c.requires.room.0 c.enter-held.ensures.finds c.enter-held.ensures.exact c.enter-held.ensures.pass c.value-vault.ensures.value c.running-ran.ensures.seen in
    room_for e g.N.Naming.room c.requires.room.1

pub leave-requires-clause-one : goal.leave-requires-clause-one
leave-requires-clause-one g c κs within =
    let e = entered c.requires.few c.requires.mine.holds c.requires.room.0 c.enter-held.ensures.finds c.enter-held.ensures.exact c.enter-held.ensures.pass c.value-vault.ensures.value c.running-ran.ensures.seen in
    one e c.args.who.command kind.Close c.complete.new.self.shown _ refl c.complete.ensures.turn.turn c.complete.ensures.turn.seen

whole : (g : _) (c : goal.After-leave g) → Step g.N.Naming.script (g.N.Naming.start no_rows) c.args.pass c.leave.result c.value-vault.result.now.shown c.complete.new.self.shown c.args.who.session c.args.who.command kind.Close
whole g c =
    let e = entered c.requires.few c.requires.mine.holds c.requires.room.0 c.enter-held.ensures.finds c.enter-held.ensures.exact c.enter-held.ensures.pass c.value-vault.ensures.value c.running-ran.ensures.seen in
    step e c.args.who.command kind.Close c.complete.new.self.shown _ refl c.complete.ensures.turn.turn c.complete.ensures.turn.seen c.leave.result c.leave.ensures.pass c.leave.ensures.exact

pub returns-clause-took : goal.returns-clause-took
returns-clause-took g c = step_took (whole g c)

pub returns-clause-mine : goal.returns-clause-mine
returns-clause-mine g c = goes_on (whole g c) Finished c.running-ran.result c.complete.ensures.turn c.running-ran.ensures.running

pub complete-requires-clause-granted : goal.complete-requires-clause-granted
complete-requires-clause-granted g c κs within =
    let e = entered c.requires.few c.requires.mine.holds c.requires.room.0 c.enter-held.ensures.finds c.enter-held.ensures.exact c.enter-held.ensures.pass c.value-vault.ensures.value c.running-ran.ensures.seen in
    granted_found c.args.pass _ c.value-vault.result.now.shown.history (finds_numbers e) e.seen.short (IsGranted g.D.Reader.FileReader.bytes g.N.Naming.script g.N.Naming.start g.N.Naming.origin g.N.Naming.sound) _ c.requires.granted

pub returns-clause-answers : goal.returns-clause-answers
returns-clause-answers g c = step_drafts (whole g c) (c.args.merged ≡ Err compact.Draft) (owed_by_work c.args.merged) c.complete.ensures.draft (owed_merged c.args.merged)
