use Rattle.std.proofs.Common.{◌≡◌, inl, inr, ◌<◌, [], ◌∷◌, ◌++◌, true, false, not, refl, sym, ◌∙◌, ap, subst, arith}
use Rattle.mesa_io.specs.Causes.{last}
use Rattle.mesa_disk.specs.Story.{Steps}
use Rattle.mesa_file_records.specs.mesa_history_spec.Run.{Finished, Looked}
use Rattle.mesa_file_records.specs.mesa_history_spec.Turns.{IsDue}
use Rattle.mesa_model.specs.declared.commands.Command.TheVariants as command
use Rattle.mesa_model.specs.declared.entries.Kind.TheVariants as kind
use Rattle.mesa_model.specs.declared.entries.Outcome.TheVariants as outcome
use Rattle.mesa_model.specs.Load.{load_batch}
use Rattle.mesa_file_records.specs.mesa_history_spec.Rows.{no_rows}
use Rattle.mesa_engine.specs.mesa_invariant_spec.Causes.{Unwritten, reply_of, told_at}
use Rattle.mesa_engine.specs.mesa_invariant_spec.Changes.{HasFailed}
use Rattle.mesa_engine.specs.mesa_invariant_spec.Turns.{AnswersDisk, Shown, SomeRose, Takes, entry, faults_of}
use Rattle.mesa_engine.specs.mesa_invariant_spec.Invariant.{run_at}
use Rattle.mesa_engine.proofs.mesa_invariant_spec.Clock.{begun_moment, not_closing}
use Rattle.mesa_engine.proofs.mesa_invariant_spec.Faulting.{disk_caused}
use Rattle.mesa_engine.proofs.mesa_invariant_spec.Going.{publish_takes}
use Rattle.mesa_engine.proofs.mesa_invariant_spec.Turning.{counts_same}
use Rattle.mesa_engine.specs.EngineState.{books_of}
use Rattle.mesa_engine.specs.Turned.{shut_state}
use Rattle.mesa_engine.specs.Vault.{Starts}
use Rattle.mesa_engine.proofs.BeforeTurns.{vault_at_seen}
use Rattle.mesa_engine.specs.Printing.{PrintsBlock}
use Rattle.mesa_engine.specs.Memory.{Memory}
use Rattle.mesa_engine.specs.Engine.{Standing, starts_of}
use Rattle.mesa_write_turns.specs.Writing.{KeepsFiles}
use Rattle.mesa_write_turns.proofs.Keeping.{same_keep}
use Rattle.mesa_write_turns.proofs.Loads.{undrafted_engine}
use Rattle.mesa_write_turns.proofs.publishing.undrafted.Goals as goal

pub invariant_of-engine : goal.invariant_of-engine
invariant_of-engine g c =
    let N = g.N.Naming in
    let n : Starts = starts_of N.script N.start N.sound N.origin N.since N.counted N.at_start in
    let i = c.engine.inside in
    let s = c.args.who.session in
    let number = c.args.who.command in
    let rows = c.args.rows.now in
    let h = i.log.history.items in
    let story = g.D.Disk.story i.disk in
    let at = c.position-at.result in
    let m = c.clock-moment.result in
    let moment = c.clock-moment.ensures in
    let due : IsDue N.script (run_at N.script (N.start no_rows) h) s number (command.Load rows) Looked = subst (λ (st : Standing). IsDue N.script (run_at N.script (N.start no_rows) st.shown.history) s number (command.Load rows) Looked) (sym c.engine.view_is) c.requires.due in
    let failed = subst (λ (st : Standing). HasFailed (books_of no_rows st.state) (command.Load rows) (λ w. load_batch w rows) Unwritten) (sym c.engine.view_is) c.requires.failed in
    let ran : not i.log.printer.broken ≡ true = ap (λ (st : Standing). st.shown.running) c.engine.view_is ∙ c.requires.runs in
    let later = c.fail.new.self in
    let told = c.fail.ensures in
    let prints = subst (λ p. PrintsBlock g.K.Sink.held g.K.Sink.faults i.log.printer later.printer (entry s number kind.Decide outcome.WriteFault m) (told_at p (reply_of Unwritten))) (sym c.position-at.ensures) told.told in
    let low : m < last = (let is = c.if-moment-lt18446744073709551615.true in omega (arith, is)) in
    let kept = undrafted_engine g.K.Sink.held g.K.Sink.faults n N.room N.sink_faults i.metadata story i.log c.engine.invariant N.alike s number told.short.session told.short.command ran rows due failed m moment at c.position-at.ensures i.metadata later
    (inl (low, refl)) refl told.items told.room prints told.refused in
    kept

pub returns-then-moment-lt18446744073709551615 : goal.returns-then-moment-lt18446744073709551615
returns-then-moment-lt18446744073709551615 g c =
    let N = g.N.Naming in
    let n : Starts = starts_of N.script N.start N.sound N.origin N.since N.counted N.at_start in
    let i = c.engine.inside in
    let s = c.args.who.session in
    let number = c.args.who.command in
    let rows = c.args.rows.now in
    let h = i.log.history.items in
    let story = g.D.Disk.story i.disk in
    let at = c.position-at.result in
    let m = c.clock-moment.result in
    let moment = c.clock-moment.ensures in
    let due : IsDue N.script (run_at N.script (N.start no_rows) h) s number (command.Load rows) Looked = subst (λ (st : Standing). IsDue N.script (run_at N.script (N.start no_rows) st.shown.history) s number (command.Load rows) Looked) (sym c.engine.view_is) c.requires.due in
    let failed = subst (λ (st : Standing). HasFailed (books_of no_rows st.state) (command.Load rows) (λ w. load_batch w rows) Unwritten) (sym c.engine.view_is) c.requires.failed in
    let ran : not i.log.printer.broken ≡ true = ap (λ (st : Standing). st.shown.running) c.engine.view_is ∙ c.requires.runs in
    let later = c.fail.new.self in
    let told = c.fail.ensures in
    let prints = subst (λ p. PrintsBlock g.K.Sink.held g.K.Sink.faults i.log.printer later.printer (entry s number kind.Decide outcome.WriteFault m) (told_at p (reply_of Unwritten))) (sym c.position-at.ensures) told.told in
    let low : m < last = (let is = c.if-moment-lt18446744073709551615.true in omega (arith, is)) in
    let kept = undrafted_engine g.K.Sink.held g.K.Sink.faults n N.room N.sink_faults i.metadata story i.log c.engine.invariant N.alike s number told.short.session told.short.command ran rows due failed m moment at c.position-at.ensures i.metadata later
    (inl (low, refl)) refl told.items told.room prints told.refused in
    let new : Shown = record { history = later.history.items; running = not later.printer.broken; clock = story.moment } in
    record {
      turn = subst (λ (x : Standing). Takes N.script (N.start no_rows) x.shown new s number kind.Decide Finished) c.engine.view_is
          (publish_takes N.script (N.start no_rows) (record { history = h; running = not i.log.printer.broken; clock = story.moment }) new s number (record { asked = command.Load rows; is = refl; due = due })
          (record { outcome = outcome.WriteFault; grew = told.items ∙ ap (λ x. h ++ entry s number kind.Decide outcome.WriteFault x ∷ []) moment; skipped = ap not (sym ran); still = λ on. ran })
          (vault_at_seen n i.metadata.state story (g.K.Sink.held later.printer.sink) later.history.items (not later.printer.broken) later.refused story.moment kept.vault));
      disk =
          let e = entry s number kind.Decide outcome.WriteFault m in
          let there = begun_moment N.script (N.start no_rows) h s number (command.Load rows) Looked due (λ first. absurd cc) in
          subst (λ (x : Standing). AnswersDisk N.script (N.start no_rows) x.shown new (SomeRose x.faults (faults_of story))) c.engine.view_is
          (disk_caused N.script (N.start no_rows) (record { history = h; running = not i.log.printer.broken; clock = story.moment }) new e told.items story story refl Unwritten refl (counts_same story)
          (λ below is. not_closing (run_at N.script (N.start no_rows) h).moment story.moment e (c.engine.invariant.vault no_rows false (λ z. absurd cc)).invariant.at there moment below));
      keeps = subst (λ (x : Standing). Steps KeepsFiles x.told story.told) c.engine.view_is (same_keep story.told story.told refl);
    }

pub invariant_of-engine-2 : goal.invariant_of-engine-2
invariant_of-engine-2 g c =
    let N = g.N.Naming in
    let n : Starts = starts_of N.script N.start N.sound N.origin N.since N.counted N.at_start in
    let i = c.engine.inside in
    let s = c.args.who.session in
    let number = c.args.who.command in
    let rows = c.args.rows.now in
    let h = i.log.history.items in
    let story = g.D.Disk.story i.disk in
    let at = c.position-at.result in
    let m = c.clock-moment.result in
    let moment = c.clock-moment.ensures in
    let due : IsDue N.script (run_at N.script (N.start no_rows) h) s number (command.Load rows) Looked = subst (λ (st : Standing). IsDue N.script (run_at N.script (N.start no_rows) st.shown.history) s number (command.Load rows) Looked) (sym c.engine.view_is) c.requires.due in
    let failed = subst (λ (st : Standing). HasFailed (books_of no_rows st.state) (command.Load rows) (λ w. load_batch w rows) Unwritten) (sym c.engine.view_is) c.requires.failed in
    let ran : not i.log.printer.broken ≡ true = ap (λ (st : Standing). st.shown.running) c.engine.view_is ∙ c.requires.runs in
    let later = c.fail-2.new.self in
    let told = c.fail-2.ensures in
    let prints = subst (λ p. PrintsBlock g.K.Sink.held g.K.Sink.faults i.log.printer later.printer (entry s number kind.Decide outcome.WriteFault m) (told_at p (reply_of Unwritten))) (sym c.position-at.ensures) told.told in
    let laws = g.met.D.Disk g.world.𝓛 g.world.𝓜 g.world.𝓡 ((λ s x. x), (λ x. x), (λ x. x), λ x. x) in
    let bound = laws.clock_bounded i.disk in
    let top : m ≡ last = (let is = c.if-moment-lt18446744073709551615.false in omega (arith, is, bound, moment)) in
    let state_is : c.close.new.self.state ≡ shut_state i.metadata.state at = ap (λ (k : Memory). k.state) c.close.ensures in
    let leased : c.close.new.self.leased ≡ i.metadata.leased = ap (λ (k : Memory). k.leased) c.close.ensures in
    let kept = undrafted_engine g.K.Sink.held g.K.Sink.faults n N.room N.sink_faults i.metadata story i.log c.engine.invariant N.alike s number told.short.session told.short.command ran rows due failed m moment at c.position-at.ensures c.close.new.self later
    (inr (top, state_is)) leased told.items told.room prints told.refused in
    kept

pub returns : goal.returns
returns g c =
    let N = g.N.Naming in
    let n : Starts = starts_of N.script N.start N.sound N.origin N.since N.counted N.at_start in
    let i = c.engine.inside in
    let s = c.args.who.session in
    let number = c.args.who.command in
    let rows = c.args.rows.now in
    let h = i.log.history.items in
    let story = g.D.Disk.story i.disk in
    let at = c.position-at.result in
    let m = c.clock-moment.result in
    let moment = c.clock-moment.ensures in
    let due : IsDue N.script (run_at N.script (N.start no_rows) h) s number (command.Load rows) Looked = subst (λ (st : Standing). IsDue N.script (run_at N.script (N.start no_rows) st.shown.history) s number (command.Load rows) Looked) (sym c.engine.view_is) c.requires.due in
    let failed = subst (λ (st : Standing). HasFailed (books_of no_rows st.state) (command.Load rows) (λ w. load_batch w rows) Unwritten) (sym c.engine.view_is) c.requires.failed in
    let ran : not i.log.printer.broken ≡ true = ap (λ (st : Standing). st.shown.running) c.engine.view_is ∙ c.requires.runs in
    let later = c.fail-2.new.self in
    let told = c.fail-2.ensures in
    let prints = subst (λ p. PrintsBlock g.K.Sink.held g.K.Sink.faults i.log.printer later.printer (entry s number kind.Decide outcome.WriteFault m) (told_at p (reply_of Unwritten))) (sym c.position-at.ensures) told.told in
    let laws = g.met.D.Disk g.world.𝓛 g.world.𝓜 g.world.𝓡 ((λ s x. x), (λ x. x), (λ x. x), λ x. x) in
    let bound = laws.clock_bounded i.disk in
    let top : m ≡ last = (let is = c.if-moment-lt18446744073709551615.false in omega (arith, is, bound, moment)) in
    let state_is : c.close.new.self.state ≡ shut_state i.metadata.state at = ap (λ (k : Memory). k.state) c.close.ensures in
    let leased : c.close.new.self.leased ≡ i.metadata.leased = ap (λ (k : Memory). k.leased) c.close.ensures in
    let kept = undrafted_engine g.K.Sink.held g.K.Sink.faults n N.room N.sink_faults i.metadata story i.log c.engine.invariant N.alike s number told.short.session told.short.command ran rows due failed m moment at c.position-at.ensures c.close.new.self later
    (inr (top, state_is)) leased told.items told.room prints told.refused in
    let new : Shown = record { history = later.history.items; running = not later.printer.broken; clock = story.moment } in
    record {
      turn = subst (λ (x : Standing). Takes N.script (N.start no_rows) x.shown new s number kind.Decide Finished) c.engine.view_is
          (publish_takes N.script (N.start no_rows) (record { history = h; running = not i.log.printer.broken; clock = story.moment }) new s number (record { asked = command.Load rows; is = refl; due = due })
          (record { outcome = outcome.WriteFault; grew = told.items ∙ ap (λ x. h ++ entry s number kind.Decide outcome.WriteFault x ∷ []) moment; skipped = ap not (sym ran); still = λ on. ran })
          (vault_at_seen n c.close.new.self.state story (g.K.Sink.held later.printer.sink) later.history.items (not later.printer.broken) later.refused story.moment kept.vault));
      disk =
          let e = entry s number kind.Decide outcome.WriteFault m in
          let there = begun_moment N.script (N.start no_rows) h s number (command.Load rows) Looked due (λ first. absurd cc) in
          subst (λ (x : Standing). AnswersDisk N.script (N.start no_rows) x.shown new (SomeRose x.faults (faults_of story))) c.engine.view_is
          (disk_caused N.script (N.start no_rows) (record { history = h; running = not i.log.printer.broken; clock = story.moment }) new e told.items story story refl Unwritten refl (counts_same story)
          (λ below is. not_closing (run_at N.script (N.start no_rows) h).moment story.moment e (c.engine.invariant.vault no_rows false (λ z. absurd cc)).invariant.at there moment below));
      keeps = subst (λ (x : Standing). Steps KeepsFiles x.told story.told) c.engine.view_is (same_keep story.told story.told refl);
    }
