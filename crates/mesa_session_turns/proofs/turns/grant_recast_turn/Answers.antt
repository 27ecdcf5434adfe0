use Rattle.std.proofs.Common.{refl, sym}
use Rattle.mesa_core.specs.Handing.{IsRecastGranted}
use Rattle.mesa_core.specs.mesa_invariant_spec.Turns.{is_recast}
use Rattle.mesa_core.specs.mesa_history_spec.Run.{First, Granted}
use Rattle.mesa_model.specs.declared.entries.Kind.TheVariants as kind
use Rattle.mesa_core.specs.mesa_history_spec.Rows.{no_rows}
use Rattle.mesa_core.proofs.Answering.{none_granting, step_none}
use Rattle.mesa_core.proofs.Turning.{Step, step_took, step_seen}
use Rattle.mesa_core.specs.mesa_invariant_spec.Works.{stage_if}
use Rattle.mesa_open_files.specs.Recasts.{claim_of_recast}
use Rattle.mesa_core.specs.Recasts.{known_recast}
use Rattle.mesa_session_turns.proofs.Found.{granted_then}
use Rattle.mesa_session_turns.proofs.Stepping.{asks, entered, goes_on, one, room_for, step}
use Rattle.mesa_session_turns.proofs.turns.grant_recast_turn.Goals as goal
use Rattle.mesa_session_turns.proofs.turns.grant_recast_turn.Goals.{After-leave}

pub grant_recast-task-requires-clause-due : goal.grant_recast-task-requires-clause-due
grant_recast-task-requires-clause-due g c κs within =
    let e = entered c.requires.few c.requires.mine.holds c.requires.room.0 c.enter-held.ensures.finds c.enter-held.ensures.exact c.enter-held.ensures.pass c.value-vault.ensures.value c.running-ran.ensures.seen in
    asks e c.args.who.command First is_recast c.requires.mine c.requires.sort

pub grant_recast-task-requires-clause-room : goal.grant_recast-task-requires-clause-room
grant_recast-task-requires-clause-room g c κs within =
    let e = entered c.requires.few c.requires.mine.holds c.requires.room.0 c.enter-held.ensures.finds c.enter-held.ensures.exact c.enter-held.ensures.pass c.value-vault.ensures.value c.running-ran.ensures.seen in
    room_for e g.N.Naming.room c.requires.room.1

pub leave-requires-clause-one : goal.leave-requires-clause-one
leave-requires-clause-one g c κs within =
    let e = entered c.requires.few c.requires.mine.holds c.requires.room.0 c.enter-held.ensures.finds c.enter-held.ensures.exact c.enter-held.ensures.pass c.value-vault.ensures.value c.running-ran.ensures.seen in
    one e c.args.who.command kind.Grant c.grant_recast-task.new.self.shown _ refl c.grant_recast-task.ensures.turn.turn c.grant_recast-task.ensures.turn.seen

whole : (g : _) (c : After-leave g) → Step g.N.Naming.script (g.N.Naming.start no_rows) c.args.pass c.leave.result c.value-vault.result.now.shown c.grant_recast-task.new.self.shown c.args.who.session c.args.who.command kind.Grant
whole g c =
    let e = entered c.requires.few c.requires.mine.holds c.requires.room.0 c.enter-held.ensures.finds c.enter-held.ensures.exact c.enter-held.ensures.pass c.value-vault.ensures.value c.running-ran.ensures.seen in
    step e c.args.who.command kind.Grant c.grant_recast-task.new.self.shown _ refl c.grant_recast-task.ensures.turn.turn c.grant_recast-task.ensures.turn.seen c.leave.result c.leave.ensures.pass c.leave.ensures.exact

pub returns-clause-took : goal.returns-clause-took
returns-clause-took g c = step_took (whole g c)

pub returns-clause-mine : goal.returns-clause-mine
returns-clause-mine g c = goes_on (whole g c) (stage_if claim_of_recast Granted c.grant_recast-task.result) c.running-ran.result c.grant_recast-task.ensures.turn c.running-ran.ensures.running

pub returns-clause-granted : goal.returns-clause-granted
returns-clause-granted g c = granted_then (known_recast g.D.Reader.FileReader.bytes) (IsRecastGranted g.D.Reader.FileReader.bytes g.N.Naming.script g.N.Naming.start g.N.Naming.origin g.N.Naming.sound) c.grant_recast-task.result _ _ (sym (step_seen (whole g c))) c.grant_recast-task.ensures.granted

pub returns-clause-answers : goal.returns-clause-answers
returns-clause-answers g c = step_none (whole g c) c.requires.sort.asked c.requires.sort.known (none_granting c.requires.sort.asked)
