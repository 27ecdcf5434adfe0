use Rattle.std.proofs.Common.{refl}
use Rattle.mesa_core.specs.Handing.{IsRecastGranted}
use Rattle.mesa_core.specs.mesa_invariant_spec.Turns.{is_recast}
use Rattle.mesa_core.specs.mesa_history_spec.Run.{Granted, Renewed}
use Rattle.mesa_model.specs.declared.entries.Kind.TheVariants as kind
use Rattle.mesa_core.specs.mesa_history_spec.Rows.{no_rows}
use Rattle.mesa_core.proofs.Answering.{none_renewing, step_none}
use Rattle.mesa_core.proofs.Turning.{Step, step_took}
use Rattle.mesa_core.specs.mesa_invariant_spec.Works.{stage_if}
use Rattle.mesa_core.specs.Recasts.{known_recast}
use Rattle.mesa_open_files.specs.Recasts.{claim_of_recast}
use Rattle.mesa_session_turns.proofs.Found.{granted_found, granted_later}
use Rattle.mesa_session_turns.proofs.Stepping.{asks, entered, finds_numbers, goes_on, one, room_for, step}
use Rattle.mesa_session_turns.proofs.turns.renew_recast_turn.Goals as goal
use Rattle.mesa_session_turns.proofs.turns.renew_recast_turn.Goals.{After-leave}

pub renew_recast-renewed-requires-clause-due : goal.renew_recast-renewed-requires-clause-due
renew_recast-renewed-requires-clause-due g c κs within =
    let e = entered c.requires.few c.requires.mine.holds c.requires.room.0 c.enter-held.ensures.finds c.enter-held.ensures.exact c.enter-held.ensures.pass c.value-vault.ensures.value c.running-ran.ensures.seen in
    asks e c.args.who.command (Granted (claim_of_recast c.args.task)) is_recast c.requires.mine c.requires.sort

pub renew_recast-renewed-requires-clause-room : goal.renew_recast-renewed-requires-clause-room
renew_recast-renewed-requires-clause-room g c κs within =
    let e = entered c.requires.few c.requires.mine.holds c.requires.room.0 c.enter-held.ensures.finds c.enter-held.ensures.exact c.enter-held.ensures.pass c.value-vault.ensures.value c.running-ran.ensures.seen in
    room_for e g.N.Naming.room c.requires.room.1

pub leave-requires-clause-one : goal.leave-requires-clause-one
leave-requires-clause-one g c κs within =
    let e = entered c.requires.few c.requires.mine.holds c.requires.room.0 c.enter-held.ensures.finds c.enter-held.ensures.exact c.enter-held.ensures.pass c.value-vault.ensures.value c.running-ran.ensures.seen in
    one e c.args.who.command kind.Renew c.renew_recast-renewed.new.self.shown _ refl c.renew_recast-renewed.ensures.turn.turn c.renew_recast-renewed.ensures.turn.seen

whole : (g : _) (c : After-leave g) → Step g.N.Naming.script (g.N.Naming.start no_rows) c.args.pass c.leave.result c.value-vault.result.now.shown c.renew_recast-renewed.new.self.shown c.args.who.session c.args.who.command kind.Renew
whole g c =
    let e = entered c.requires.few c.requires.mine.holds c.requires.room.0 c.enter-held.ensures.finds c.enter-held.ensures.exact c.enter-held.ensures.pass c.value-vault.ensures.value c.running-ran.ensures.seen in
    step e c.args.who.command kind.Renew c.renew_recast-renewed.new.self.shown _ refl c.renew_recast-renewed.ensures.turn.turn c.renew_recast-renewed.ensures.turn.seen c.leave.result c.leave.ensures.pass c.leave.ensures.exact

pub returns-clause-took : goal.returns-clause-took
returns-clause-took g c = step_took (whole g c)

pub returns-clause-mine : goal.returns-clause-mine
returns-clause-mine g c = goes_on (whole g c) (stage_if claim_of_recast Renewed c.renew_recast-renewed.result) c.running-ran.result c.renew_recast-renewed.ensures.turn c.running-ran.ensures.running

pub renew_recast-renewed-requires-clause-granted : goal.renew_recast-renewed-requires-clause-granted
renew_recast-renewed-requires-clause-granted g c κs within =
    let e = entered c.requires.few c.requires.mine.holds c.requires.room.0 c.enter-held.ensures.finds c.enter-held.ensures.exact c.enter-held.ensures.pass c.value-vault.ensures.value c.running-ran.ensures.seen in
    granted_found c.args.pass _ c.value-vault.result.now.shown.history (finds_numbers e) e.seen.short (IsRecastGranted g.D.Reader.FileReader.bytes g.N.Naming.script g.N.Naming.start g.N.Naming.origin g.N.Naming.sound) _ c.requires.granted

pub returns-clause-granted : goal.returns-clause-granted
returns-clause-granted g c = granted_later (IsRecastGranted g.D.Reader.FileReader.bytes g.N.Naming.script g.N.Naming.start g.N.Naming.origin g.N.Naming.sound) (known_recast g.D.Reader.FileReader.bytes c.args.task) c.args.pass.seen c.leave.result.seen (step_took (whole g c)).seen c.requires.granted

pub returns-clause-answers : goal.returns-clause-answers
returns-clause-answers g c = step_none (whole g c) c.requires.sort.asked c.requires.sort.known (none_renewing c.requires.sort.asked)
