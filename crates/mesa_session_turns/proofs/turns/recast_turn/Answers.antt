use Rattle.std.proofs.Common.{refl, ◌≡◌, ◌<◌, sym, subst, inr, length, false, arith}
use Rattle.std.specs.Prelude.{Err}
use Rattle.mesa_core.specs.Handing.{IsRecastGranted}
use Rattle.mesa_core.specs.mesa_invariant_spec.Turns.{AnswersDraft, Shown, is_recast}
use Rattle.mesa_core.specs.mesa_history_spec.Run.{Finished, Renewed}
use Rattle.mesa_model.specs.declared.entries.Kind.TheVariants as kind
use Rattle.mesa_core.specs.mesa_history_spec.Rows.{no_rows}
use Rattle.mesa_core.proofs.Answering.{answers_within, step_drafts}
use Rattle.mesa_core.proofs.Turning.{Step, step_took}
use Rattle.mesa_open_files.specs.declared.merging.CompactError.TheVariants as compact
use Rattle.mesa_core.specs.Drafts.{owed_by_work}
use Rattle.mesa_open_files.specs.Recasts.{claim_of_recast}
use Rattle.mesa_session_turns.proofs.Prepared.{owed_merged}
use Rattle.mesa_session_turns.proofs.Found.{granted_found}
use Rattle.mesa_core.proofs.Unmade.{on_ok}
use Rattle.mesa_session_turns.proofs.Closing.{asked_now, took_now}
use Rattle.mesa_session_turns.proofs.Stepping.{asks, entered, finds_numbers, goes_on, one, room_for, step}
use Rattle.mesa_session_turns.proofs.turns.recast_turn.Goals as goal

pub recast-requires-clause-due : goal.recast-requires-clause-due
recast-requires-clause-due g c κs within =
    let e = entered c.requires.few c.requires.mine.holds c.requires.room.0 c.enter-held.ensures.finds c.enter-held.ensures.exact c.enter-held.ensures.pass c.value-vault.ensures.value c.running-ran.ensures.seen in
    let N = g.N.Naming in
    let who = c.args.who in
    let now = c.regrouped_now-task in (
      false,
      asked_now N.script (N.start no_rows) c.value-vault.result.now.shown now.new.vault.shown who.session who.command (claim_of_recast c.args.task) (claim_of_recast now.result.0) now.ensures.shown now.ensures.claim
          (asks e who.command (Renewed (claim_of_recast c.args.task)) is_recast c.requires.mine c.requires.sort),
    )

pub recast-requires-clause-renewed : goal.recast-requires-clause-renewed
recast-requires-clause-renewed g c κs within =
    let e = entered c.requires.few c.requires.mine.holds c.requires.room.0 c.enter-held.ensures.finds c.enter-held.ensures.exact c.enter-held.ensures.pass c.value-vault.ensures.value c.running-ran.ensures.seen in
    let N = g.N.Naming in
    let who = c.args.who in
    let now = c.regrouped_now-task in
    on_ok now.result.1
    (asked_now N.script (N.start no_rows) c.value-vault.result.now.shown now.new.vault.shown who.session who.command (claim_of_recast c.args.task) (claim_of_recast now.result.0) now.ensures.shown now.ensures.claim
    (asks e who.command (Renewed (claim_of_recast c.args.task)) is_recast c.requires.mine c.requires.sort))

pub recast-requires-clause-room : goal.recast-requires-clause-room
recast-requires-clause-room g c κs within =
    let e = entered c.requires.few c.requires.mine.holds c.requires.room.0 c.enter-held.ensures.finds c.enter-held.ensures.exact c.enter-held.ensures.pass c.value-vault.ensures.value c.running-ran.ensures.seen in
    subst (λ (s : Shown). length s.history < g.N.Naming.room) (sym c.regrouped_now-task.ensures.shown) (room_for e g.N.Naming.room c.requires.room.1)

pub leave-requires-clause-one : goal.leave-requires-clause-one
leave-requires-clause-one g c κs within =
    let e = entered c.requires.few c.requires.mine.holds c.requires.room.0 c.enter-held.ensures.finds c.enter-held.ensures.exact c.enter-held.ensures.pass c.value-vault.ensures.value c.running-ran.ensures.seen in
    let turn = took_now g.N.Naming.script (g.N.Naming.start no_rows) c.value-vault.result.now.shown c.regrouped_now-task.new.vault.shown c.recast.new.self.shown c.args.who.session c.args.who.command c.regrouped_now-task.ensures.shown c.recast.ensures.turn in
    one e c.args.who.command kind.Close c.recast.new.self.shown _ refl turn.turn turn.seen

whole : (g : _) (c : goal.After-leave g) → Step g.N.Naming.script (g.N.Naming.start no_rows) c.args.pass c.leave.result c.value-vault.result.now.shown c.recast.new.self.shown c.args.who.session c.args.who.command kind.Close
whole g c =
    let e = entered c.requires.few c.requires.mine.holds c.requires.room.0 c.enter-held.ensures.finds c.enter-held.ensures.exact c.enter-held.ensures.pass c.value-vault.ensures.value c.running-ran.ensures.seen in
    let turn = took_now g.N.Naming.script (g.N.Naming.start no_rows) c.value-vault.result.now.shown c.regrouped_now-task.new.vault.shown c.recast.new.self.shown c.args.who.session c.args.who.command c.regrouped_now-task.ensures.shown c.recast.ensures.turn in
    step e c.args.who.command kind.Close c.recast.new.self.shown _ refl turn.turn turn.seen c.leave.result c.leave.ensures.pass c.leave.ensures.exact

pub returns-clause-took : goal.returns-clause-took
returns-clause-took g c = step_took (whole g c)

pub returns-clause-mine : goal.returns-clause-mine
returns-clause-mine g c =
    let turn = took_now g.N.Naming.script (g.N.Naming.start no_rows) c.value-vault.result.now.shown c.regrouped_now-task.new.vault.shown c.recast.new.self.shown c.args.who.session c.args.who.command c.regrouped_now-task.ensures.shown c.recast.ensures.turn in
    goes_on (whole g c) Finished c.running-ran.result turn c.running-ran.ensures.running

pub regrouped_now-task-requires-clause-granted : goal.regrouped_now-task-requires-clause-granted
regrouped_now-task-requires-clause-granted g c κs within =
    let e = entered c.requires.few c.requires.mine.holds c.requires.room.0 c.enter-held.ensures.finds c.enter-held.ensures.exact c.enter-held.ensures.pass c.value-vault.ensures.value c.running-ran.ensures.seen in
    granted_found c.args.pass _ c.value-vault.result.now.shown.history (finds_numbers e) e.seen.short (IsRecastGranted g.D.Reader.FileReader.bytes g.N.Naming.script g.N.Naming.start g.N.Naming.origin g.N.Naming.sound) _ c.requires.granted

pub recast-requires-clause-granted : goal.recast-requires-clause-granted
recast-requires-clause-granted g c κs within = inr c.regrouped_now-task.ensures.held

pub returns-clause-answers : goal.returns-clause-answers
returns-clause-answers g c =
    let made = c.regrouped_now-task.result.1 in
    let draft =
    subst (λ (s : Shown). AnswersDraft g.N.Naming.script (g.N.Naming.start no_rows) s c.recast.new.self.shown c.args.who.session (made ≡ Err compact.Draft)) c.regrouped_now-task.ensures.shown c.recast.ensures.draft in
    answers_within g.N.Naming.script (g.N.Naming.start no_rows) c.args.who.session c.args.pass c.leave.result _ _ 0 (owed_by_work made)
    (λ low. let owes = c.regrouped_now-task.ensures.owes low in omega (arith, owes)) (λ low. let owes = c.regrouped_now-task.ensures.owes low in omega (arith, owes))
    (step_drafts (whole g c) (made ≡ Err compact.Draft) (owed_by_work made) draft (owed_merged made))
