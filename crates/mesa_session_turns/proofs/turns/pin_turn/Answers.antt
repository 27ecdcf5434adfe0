use Rattle.std.proofs.Common.{refl, sym}
use Rattle.mesa_core.specs.Handing.{Tells}
use Rattle.mesa_core.specs.mesa_history_spec.Legal.{is_query}
use Rattle.mesa_core.specs.mesa_history_spec.Run.{First, Finished}
use Rattle.mesa_model.specs.declared.entries.Kind.TheVariants as kind
use Rattle.mesa_core.specs.mesa_history_spec.Rows.{no_rows}
use Rattle.mesa_core.proofs.Answering.{none_asking, step_none}
use Rattle.mesa_core.proofs.Turning.{Step, step_took, step_holds, step_seen}
use Rattle.mesa_session_turns.proofs.Found.{query_opened, query_over, query_seen, query_turn}
use Rattle.mesa_session_turns.proofs.Stepping.{asks, ends_unless, entered, one, room_for, step}
use Rattle.mesa_session_turns.proofs.turns.pin_turn.Goals as goal
use Rattle.mesa_session_turns.proofs.turns.pin_turn.Goals.{After-leave}

pub pin_query-pinned-requires-clause-due : goal.pin_query-pinned-requires-clause-due
pin_query-pinned-requires-clause-due g c κs within =
    let e = entered c.requires.few c.requires.mine.holds c.requires.room.0 c.enter-held.ensures.finds c.enter-held.ensures.exact c.enter-held.ensures.pass c.value-vault.ensures.value c.running-ran.ensures.seen in
    asks e c.args.who.command First is_query c.requires.mine c.requires.sort

pub pin_query-pinned-requires-clause-room : goal.pin_query-pinned-requires-clause-room
pin_query-pinned-requires-clause-room g c κs within =
    let e = entered c.requires.few c.requires.mine.holds c.requires.room.0 c.enter-held.ensures.finds c.enter-held.ensures.exact c.enter-held.ensures.pass c.value-vault.ensures.value c.running-ran.ensures.seen in
    room_for e g.N.Naming.room c.requires.room.1

pub leave-requires-clause-one : goal.leave-requires-clause-one
leave-requires-clause-one g c κs within =
    let e = entered c.requires.few c.requires.mine.holds c.requires.room.0 c.enter-held.ensures.finds c.enter-held.ensures.exact c.enter-held.ensures.pass c.value-vault.ensures.value c.running-ran.ensures.seen in
    one e c.args.who.command kind.Decide c.pin_query-pinned.new.self.shown _ refl (query_turn g.D.Reader.FileReader.bytes g.N.Naming.script g.N.Naming.start (λ past. Tells g.N.Naming.sound) c.value-vault.result.now.shown c.pin_query-pinned.new.self.shown c.args.who.session c.args.who.command c.pin_query-pinned.result c.pin_query-pinned.ensures.turn) (query_seen g.D.Reader.FileReader.bytes g.N.Naming.script g.N.Naming.start (λ past. Tells g.N.Naming.sound) c.value-vault.result.now.shown c.pin_query-pinned.new.self.shown c.args.who.session c.args.who.command c.pin_query-pinned.result c.pin_query-pinned.ensures.turn)

whole : (g : _) (c : After-leave g) → Step g.N.Naming.script (g.N.Naming.start no_rows) c.args.pass c.leave.result c.value-vault.result.now.shown c.pin_query-pinned.new.self.shown c.args.who.session c.args.who.command kind.Decide
whole g c =
    let e = entered c.requires.few c.requires.mine.holds c.requires.room.0 c.enter-held.ensures.finds c.enter-held.ensures.exact c.enter-held.ensures.pass c.value-vault.ensures.value c.running-ran.ensures.seen in
    step e c.args.who.command kind.Decide c.pin_query-pinned.new.self.shown _ refl (query_turn g.D.Reader.FileReader.bytes g.N.Naming.script g.N.Naming.start (λ past. Tells g.N.Naming.sound) c.value-vault.result.now.shown c.pin_query-pinned.new.self.shown c.args.who.session c.args.who.command c.pin_query-pinned.result c.pin_query-pinned.ensures.turn) (query_seen g.D.Reader.FileReader.bytes g.N.Naming.script g.N.Naming.start (λ past. Tells g.N.Naming.sound) c.value-vault.result.now.shown c.pin_query-pinned.new.self.shown c.args.who.session c.args.who.command c.pin_query-pinned.result c.pin_query-pinned.ensures.turn) c.leave.result c.leave.ensures.pass c.leave.ensures.exact

pub returns-clause-took : goal.returns-clause-took
returns-clause-took g c = step_took (whole g c)

pub returns-clause-holds : goal.returns-clause-holds
returns-clause-holds g c = step_holds (whole g c)

pub returns-clause-open : goal.returns-clause-open
returns-clause-open g c = query_opened g.D.Reader.FileReader.bytes g.N.Naming.script g.N.Naming.start (λ past. Tells g.N.Naming.sound) c.value-vault.result.now.shown c.pin_query-pinned.new.self.shown c.args.who.session c.args.who.command c.pin_query-pinned.result _ (sym (step_seen (whole g c))) c.pin_query-pinned.ensures.turn

pub returns-clause-refused : goal.returns-clause-refused
returns-clause-refused g c = ends_unless (whole g c) Finished c.running-ran.result c.pin_query-pinned.result (query_over g.D.Reader.FileReader.bytes g.N.Naming.script g.N.Naming.start (λ past. Tells g.N.Naming.sound) c.value-vault.result.now.shown c.pin_query-pinned.new.self.shown c.args.who.session c.args.who.command c.pin_query-pinned.result c.pin_query-pinned.ensures.turn) c.running-ran.ensures.running

pub returns-clause-answers : goal.returns-clause-answers
returns-clause-answers g c = step_none (whole g c) c.requires.sort.asked c.requires.sort.known (none_asking c.requires.sort.asked kind.Decide c.requires.sort.is)
