use Rattle.std.proofs.Common.{◌≡◌, ◌+◌, ◌<◌, [], ◌∷◌, ◌++◌, true, false, not, refl, sym, ◌∙◌, ap, subst, arith, None}
use Rattle.mesa_io.specs.Causes.{Rose}
use Rattle.mesa_disk.specs.Files.{files_of}
use Rattle.mesa_disk.specs.Story.{Steps}
use Rattle.mesa_file_records.specs.mesa_history_spec.Replay.{no_rows as no_lines}
use Rattle.mesa_file_records.specs.mesa_history_spec.Run.{Finished}
use Rattle.mesa_engine.specs.mesa_store_spec.Catalog.{applied}
use Rattle.mesa_engine.specs.mesa_catalog.Lookups.{generation_of, turns_generation}
use Rattle.mesa_model.specs.Entry.{IsShort}
use Rattle.mesa_model.specs.declared.entries.Kind.TheVariants as kind
use Rattle.mesa_model.specs.declared.entries.Outcome.TheVariants as outcome
use Rattle.mesa_record.proofs.RecordsBoth.{record_found}
use Rattle.mesa_file_records.specs.mesa_history_spec.Rows.{no_rows}
use Rattle.mesa_engine.specs.mesa_invariant_spec.Causes.{Unwritten, reply_of, told_at}
use Rattle.mesa_engine.specs.mesa_invariant_spec.Turns.{AnswersDisk, AnswersDraft, Shown, SomeRose, Takes, entry, faults_of}
use Rattle.mesa_engine.specs.mesa_invariant_spec.Invariant.{run_at}
use Rattle.mesa_engine.proofs.mesa_invariant_spec.Clock.{closing}
use Rattle.mesa_engine.proofs.mesa_invariant_spec.Faulting.{disk_counted, disk_where}
use Rattle.mesa_engine.specs.EngineState.{EngineState}
use Rattle.mesa_engine.specs.Recorded.{failed_state, recorded_state}
use Rattle.mesa_engine.specs.Vault.{Starts}
use Rattle.mesa_engine.proofs.BeforeTurns.{vault_at_seen}
use Rattle.mesa_engine.specs.Printing.{PrintsBlock}
use Rattle.mesa_engine.specs.Memory.{HasRoomFor, Memory}
use Rattle.mesa_engine.specs.Engine.{Standing, starts_of}
use Rattle.mesa_engine.proofs.Drafting.{answers_none}
use Rattle.mesa_write_turns.specs.Committing.{IsWhole, IsWorked, committed_state}
use Rattle.mesa_write_turns.specs.Writing.{IsToWrite, KeepsFiles}
use Rattle.mesa_write_turns.proofs.Engines.{absent_now, ready_now, unwritten_engine, written_engine}
use Rattle.mesa_write_turns.proofs.Keeping.{moves_keep, same_keep}
use Rattle.mesa_write_turns.proofs.Rulings.{writes_print, writes_take}
use Rattle.mesa_write_turns.proofs.writing.write.Goals as goal

-- ---- what is asked of the commit

pub commit-requires-clause-reserved : goal.commit-requires-clause-reserved
commit-requires-clause-reserved g c κs within = subst (λ (m : Memory). HasRoomFor c.args.change.writes 0 m.reserved) (sym c.in-Ok.ensures.reserved) (refl, omega arith)

pub commit-requires-clause-few : goal.commit-requires-clause-few
commit-requires-clause-few g c κs within = c.requires.change.can.brings.few

pub commit-requires-clause-distinct : goal.commit-requires-clause-distinct
commit-requires-clause-distinct g c κs within = c.requires.change.can.brings.distinct

pub commit-requires-clause-new : goal.commit-requires-clause-new
commit-requires-clause-new g c κs within =
    let N = g.N.Naming in
    let n : Starts = starts_of N.script N.start N.sound N.origin N.since N.counted N.at_start in
    let i = c.engine.inside in
    let s = c.args.who.session in
    let number = c.args.who.command in
    let l = i.metadata.state in
    let h = i.log.history.items in
    let story = g.D.Disk.story i.disk in
    let bytes = g.M.Made.bytes in
    let change = c.args.change in
    let to : IsToWrite bytes N.script (run_at N.script (N.start no_rows) h) l s number change = subst (λ (st : Standing). IsToWrite bytes N.script (run_at N.script (N.start no_rows) st.shown.history) st.state s number change) (sym c.engine.view_is) c.requires.change in
    λ image told. absent_now g.K.Sink.held g.K.Sink.faults n N.room N.sink_faults i.metadata story i.log c.engine.invariant bytes change N.script (run_at N.script (N.start no_rows) h) s number to image told

pub commit-requires-clause-room : goal.commit-requires-clause-room
commit-requires-clause-room g c κs within =
    let N = g.N.Naming in
    let n : Starts = starts_of N.script N.start N.sound N.origin N.since N.counted N.at_start in
    let i = c.engine.inside in
    let s = c.args.who.session in
    let number = c.args.who.command in
    let l = i.metadata.state in
    let h = i.log.history.items in
    let story = g.D.Disk.story i.disk in
    let bytes = g.M.Made.bytes in
    let change = c.args.change in
    let to : IsToWrite bytes N.script (run_at N.script (N.start no_rows) h) l s number change = subst (λ (st : Standing). IsToWrite bytes N.script (run_at N.script (N.start no_rows) st.shown.history) st.state s number change) (sym c.engine.view_is) c.requires.change in
    let ready = ready_now g.K.Sink.held g.K.Sink.faults n N.room N.sink_faults i.metadata story i.log c.engine.invariant to.can.opened in
    subst (λ (m : Memory). m.state.end < story.len m.state.area) (sym c.in-Ok.ensures.reserved) ready.long

-- ---- it is written

pub invariant_of-engine-in-Ok-commit : goal.invariant_of-engine-in-Ok-commit
invariant_of-engine-in-Ok-commit g c =
    let N = g.N.Naming in
    let n : Starts = starts_of N.script N.start N.sound N.origin N.since N.counted N.at_start in
    let i = c.engine.inside in
    let s = c.args.who.session in
    let number = c.args.who.command in
    let l = i.metadata.state in
    let h = i.log.history.items in
    let story = g.D.Disk.story i.disk in
    let bytes = g.M.Made.bytes in
    let change = c.args.change in
    let to : IsToWrite bytes N.script (run_at N.script (N.start no_rows) h) l s number change = subst (λ (st : Standing). IsToWrite bytes N.script (run_at N.script (N.start no_rows) st.shown.history) st.state s number change) (sym c.engine.view_is) c.requires.change in
    let new = g.D.Disk.story c.commit.new.disk in
    let body = c.in-Ok.framed in
    let at = c.position-at.result in
    let place = c.position-at.ensures in
    let reserved = c.in-Ok.ensures.reserved in
    let made = files_of bytes change.made.items in
    let after = c.commit.new.metadata in
    let ran : not i.log.printer.broken ≡ true = ap (λ (st : Standing). st.shown.running) c.engine.view_is ∙ c.requires.runs in
    let worked : IsWorked story new l.area l.end body made [] = subst (λ (m : Memory). IsWorked story new m.state.area m.state.end body made []) reserved c.commit.ensures.worked in
    let typed = (record_found body change.writes c.in-Ok.ensures.bytes c.in-Ok.ensures.reads).0.typed in
    let done = c.in-Ok-commit.ensures in
    let end = after.state.end in
    let later = c.tell.new.self in
    let short : IsShort (entry s number kind.Decide outcome.Stands c.clock.result) = subst IsShort c.turn-turn.ensures.same c.turn-turn.ensures.short in
    let whole : IsWhole story new l.area l.end body made [] end = subst (λ (m : Memory). IsWhole story new m.state.area m.state.end body made [] end) reserved done.whole in
    let state_is : after.state ≡ recorded_state l (applied l.catalogue change.writes) (generation_of (applied l.catalogue change.writes)) l.trash l.leases change.adopted end =
    ap (λ (m : Memory). m.state) done.applied ∙ (λ j. committed_state (reserved j).state at change.writes None change.adopted end) in
    let rises : generation_of (applied l.catalogue change.writes) ≡ l.generation + turns_generation change.writes =
    sym (ap (λ (k : EngineState). k.generation) state_is) ∙ done.generation ∙ ap (λ (m : Memory). m.state.generation + turns_generation change.writes) reserved in
    let leased : after.leased ≡ i.metadata.leased = ap (λ (m : Memory). m.leased) done.applied ∙ ap (λ (m : Memory). m.leased) reserved in
    let grew = c.tell.ensures.items ∙ ap (λ x. h ++ x ∷ []) c.turn-turn.ensures.same in
    let prints = subst (λ x. PrintsBlock g.K.Sink.held g.K.Sink.faults i.log.printer later.printer x (told_at at change.tells)) c.turn-turn.ensures.same (c.tell.ensures.told no_lines (writes_print l to.can.later to.asked change.writes change.tells to.can.does)) in
    let kept = written_engine g.K.Sink.held g.K.Sink.faults n N.room N.sink_faults i.metadata story i.log c.engine.invariant N.alike s number short.session short.command ran bytes change to typed c.requires.told body c.in-Ok.ensures.bytes c.in-Ok.ensures.reads new worked
    c.clock.result c.clock.ensures at place after later end whole done.quiet state_is rises leased grew c.tell.ensures.room prints c.tell.ensures.refused in
    kept

pub returns-in-Ok-commit : goal.returns-in-Ok-commit
returns-in-Ok-commit g c =
    let N = g.N.Naming in
    let n : Starts = starts_of N.script N.start N.sound N.origin N.since N.counted N.at_start in
    let i = c.engine.inside in
    let s = c.args.who.session in
    let number = c.args.who.command in
    let l = i.metadata.state in
    let h = i.log.history.items in
    let story = g.D.Disk.story i.disk in
    let bytes = g.M.Made.bytes in
    let change = c.args.change in
    let to : IsToWrite bytes N.script (run_at N.script (N.start no_rows) h) l s number change = subst (λ (st : Standing). IsToWrite bytes N.script (run_at N.script (N.start no_rows) st.shown.history) st.state s number change) (sym c.engine.view_is) c.requires.change in
    let new = g.D.Disk.story c.commit.new.disk in
    let body = c.in-Ok.framed in
    let at = c.position-at.result in
    let place = c.position-at.ensures in
    let reserved = c.in-Ok.ensures.reserved in
    let made = files_of bytes change.made.items in
    let after = c.commit.new.metadata in
    let ran : not i.log.printer.broken ≡ true = ap (λ (st : Standing). st.shown.running) c.engine.view_is ∙ c.requires.runs in
    let worked : IsWorked story new l.area l.end body made [] = subst (λ (m : Memory). IsWorked story new m.state.area m.state.end body made []) reserved c.commit.ensures.worked in
    let typed = (record_found body change.writes c.in-Ok.ensures.bytes c.in-Ok.ensures.reads).0.typed in
    let done = c.in-Ok-commit.ensures in
    let end = after.state.end in
    let later = c.tell.new.self in
    let short : IsShort (entry s number kind.Decide outcome.Stands c.clock.result) = subst IsShort c.turn-turn.ensures.same c.turn-turn.ensures.short in
    let whole : IsWhole story new l.area l.end body made [] end = subst (λ (m : Memory). IsWhole story new m.state.area m.state.end body made [] end) reserved done.whole in
    let state_is : after.state ≡ recorded_state l (applied l.catalogue change.writes) (generation_of (applied l.catalogue change.writes)) l.trash l.leases change.adopted end =
    ap (λ (m : Memory). m.state) done.applied ∙ (λ j. committed_state (reserved j).state at change.writes None change.adopted end) in
    let rises : generation_of (applied l.catalogue change.writes) ≡ l.generation + turns_generation change.writes =
    sym (ap (λ (k : EngineState). k.generation) state_is) ∙ done.generation ∙ ap (λ (m : Memory). m.state.generation + turns_generation change.writes) reserved in
    let leased : after.leased ≡ i.metadata.leased = ap (λ (m : Memory). m.leased) done.applied ∙ ap (λ (m : Memory). m.leased) reserved in
    let grew = c.tell.ensures.items ∙ ap (λ x. h ++ x ∷ []) c.turn-turn.ensures.same in
    let prints = subst (λ x. PrintsBlock g.K.Sink.held g.K.Sink.faults i.log.printer later.printer x (told_at at change.tells)) c.turn-turn.ensures.same (c.tell.ensures.told no_lines (writes_print l to.can.later to.asked change.writes change.tells to.can.does)) in
    let kept = written_engine g.K.Sink.held g.K.Sink.faults n N.room N.sink_faults i.metadata story i.log c.engine.invariant N.alike s number short.session short.command ran bytes change to typed c.requires.told body c.in-Ok.ensures.bytes c.in-Ok.ensures.reads new worked
    c.clock.result c.clock.ensures at place after later end whole done.quiet state_is rises leased grew c.tell.ensures.room prints c.tell.ensures.refused in
    let seen : Shown = record { history = later.history.items; running = not later.printer.broken; clock = new.moment } in
    record {
      turn = subst (λ (x : Standing). Takes N.script (N.start no_rows) x.shown seen s number kind.Decide Finished) c.engine.view_is
          (writes_take N.script (N.start no_rows) (record { history = h; running = not i.log.printer.broken; clock = story.moment }) seen s number ran l to.can.later change.writes change.tells outcome.Stands refl
          (grew ∙ ap (λ x. h ++ entry s number kind.Decide outcome.Stands x ∷ []) c.clock.ensures)
          (vault_at_seen n after.state new (g.K.Sink.held later.printer.sink) later.history.items (not later.printer.broken) later.refused new.moment kept.vault) to.asked to.can.does to.due);
      draft = subst (λ (x : Standing). AnswersDraft N.script (N.start no_rows) x.shown seen s ⊥) c.engine.view_is
          (answers_none N.script (N.start no_rows) (record { history = h; running = not i.log.printer.broken; clock = story.moment }) seen s (entry s number kind.Decide outcome.Stands c.clock.result) grew refl);
      disk = subst (λ (x : Standing). AnswersDisk N.script (N.start no_rows) x.shown seen (SomeRose x.faults (faults_of new))) c.engine.view_is
          (disk_counted N.script (N.start no_rows) (record { history = h; running = not i.log.printer.broken; clock = story.moment }) seen (entry s number kind.Decide outcome.Stands c.clock.result) grew story new refl done.quiet);
      keeps = subst (λ (x : Standing). Steps KeepsFiles x.told new.told) c.engine.view_is
          (moves_keep made story.told new.told worked.only (λ image told. absent_now g.K.Sink.held g.K.Sink.faults n N.room N.sink_faults i.metadata story i.log c.engine.invariant bytes change N.script (run_at N.script (N.start no_rows) h) s number to image told));
    }

-- ---- it has failed

pub invariant_of-engine-in-Err-commit : goal.invariant_of-engine-in-Err-commit
invariant_of-engine-in-Err-commit g c =
    let N = g.N.Naming in
    let n : Starts = starts_of N.script N.start N.sound N.origin N.since N.counted N.at_start in
    let i = c.engine.inside in
    let s = c.args.who.session in
    let number = c.args.who.command in
    let l = i.metadata.state in
    let h = i.log.history.items in
    let story = g.D.Disk.story i.disk in
    let bytes = g.M.Made.bytes in
    let change = c.args.change in
    let to : IsToWrite bytes N.script (run_at N.script (N.start no_rows) h) l s number change = subst (λ (st : Standing). IsToWrite bytes N.script (run_at N.script (N.start no_rows) st.shown.history) st.state s number change) (sym c.engine.view_is) c.requires.change in
    let new = g.D.Disk.story c.commit.new.disk in
    let body = c.in-Ok.framed in
    let at = c.position-at.result in
    let place = c.position-at.ensures in
    let reserved = c.in-Ok.ensures.reserved in
    let made = files_of bytes change.made.items in
    let after = c.commit.new.metadata in
    let ran : not i.log.printer.broken ≡ true = ap (λ (st : Standing). st.shown.running) c.engine.view_is ∙ c.requires.runs in
    let worked : IsWorked story new l.area l.end body made [] = subst (λ (m : Memory). IsWorked story new m.state.area m.state.end body made []) reserved c.commit.ensures.worked in
    let typed = (record_found body change.writes c.in-Ok.ensures.bytes c.in-Ok.ensures.reads).0.typed in
    let failed = c.in-Err-commit.ensures in
    let later = c.fail-in-Err-commit.new.self in
    let told = c.fail-in-Err-commit.ensures in
    let state_is : after.state ≡ failed_state l at l.leases change.adopted = ap (λ (m : Memory). m.state) failed.closed ∙ (λ j. failed_state (reserved j).state at (reserved j).state.leases change.adopted) in
    let leased : after.leased ≡ i.metadata.leased = ap (λ (m : Memory). m.leased) failed.closed ∙ ap (λ (m : Memory). m.leased) reserved in
    let prints = subst (λ p. PrintsBlock g.K.Sink.held g.K.Sink.faults i.log.printer later.printer (entry s number kind.Decide outcome.WriteFault c.clock-moment.result) (told_at p (reply_of Unwritten))) (sym place) told.told in
    let kept = unwritten_engine g.K.Sink.held g.K.Sink.faults n N.room N.sink_faults i.metadata story i.log c.engine.invariant N.alike s number told.short.session told.short.command ran bytes change to typed c.requires.told body c.in-Ok.ensures.bytes c.in-Ok.ensures.reads new worked
    c.clock-moment.result c.clock-moment.ensures at place after later failed.counted state_is leased told.items told.room prints told.refused in
    kept

pub returns : goal.returns
returns g c =
    let N = g.N.Naming in
    let n : Starts = starts_of N.script N.start N.sound N.origin N.since N.counted N.at_start in
    let i = c.engine.inside in
    let s = c.args.who.session in
    let number = c.args.who.command in
    let l = i.metadata.state in
    let h = i.log.history.items in
    let story = g.D.Disk.story i.disk in
    let bytes = g.M.Made.bytes in
    let change = c.args.change in
    let to : IsToWrite bytes N.script (run_at N.script (N.start no_rows) h) l s number change = subst (λ (st : Standing). IsToWrite bytes N.script (run_at N.script (N.start no_rows) st.shown.history) st.state s number change) (sym c.engine.view_is) c.requires.change in
    let new = g.D.Disk.story c.commit.new.disk in
    let body = c.in-Ok.framed in
    let at = c.position-at.result in
    let place = c.position-at.ensures in
    let reserved = c.in-Ok.ensures.reserved in
    let made = files_of bytes change.made.items in
    let after = c.commit.new.metadata in
    let ran : not i.log.printer.broken ≡ true = ap (λ (st : Standing). st.shown.running) c.engine.view_is ∙ c.requires.runs in
    let worked : IsWorked story new l.area l.end body made [] = subst (λ (m : Memory). IsWorked story new m.state.area m.state.end body made []) reserved c.commit.ensures.worked in
    let typed = (record_found body change.writes c.in-Ok.ensures.bytes c.in-Ok.ensures.reads).0.typed in
    let failed = c.in-Err-commit.ensures in
    let later = c.fail-in-Err-commit.new.self in
    let told = c.fail-in-Err-commit.ensures in
    let state_is : after.state ≡ failed_state l at l.leases change.adopted = ap (λ (m : Memory). m.state) failed.closed ∙ (λ j. failed_state (reserved j).state at (reserved j).state.leases change.adopted) in
    let leased : after.leased ≡ i.metadata.leased = ap (λ (m : Memory). m.leased) failed.closed ∙ ap (λ (m : Memory). m.leased) reserved in
    let prints = subst (λ p. PrintsBlock g.K.Sink.held g.K.Sink.faults i.log.printer later.printer (entry s number kind.Decide outcome.WriteFault c.clock-moment.result) (told_at p (reply_of Unwritten))) (sym place) told.told in
    let kept = unwritten_engine g.K.Sink.held g.K.Sink.faults n N.room N.sink_faults i.metadata story i.log c.engine.invariant N.alike s number told.short.session told.short.command ran bytes change to typed c.requires.told body c.in-Ok.ensures.bytes c.in-Ok.ensures.reads new worked
    c.clock-moment.result c.clock-moment.ensures at place after later failed.counted state_is leased told.items told.room prints told.refused in
    let seen : Shown = record { history = later.history.items; running = not later.printer.broken; clock = new.moment } in
    record {
      turn = subst (λ (x : Standing). Takes N.script (N.start no_rows) x.shown seen s number kind.Decide Finished) c.engine.view_is
          (writes_take N.script (N.start no_rows) (record { history = h; running = not i.log.printer.broken; clock = story.moment }) seen s number ran l to.can.later change.writes change.tells outcome.WriteFault refl
          (told.items ∙ ap (λ x. h ++ entry s number kind.Decide outcome.WriteFault x ∷ []) c.clock-moment.ensures)
          (vault_at_seen n after.state new (g.K.Sink.held later.printer.sink) later.history.items (not later.printer.broken) later.refused new.moment kept.vault) to.asked to.can.does to.due);
      draft =
          let e = entry s number kind.Decide outcome.WriteFault c.clock-moment.result in
          let rose : Rose story.moment c.clock-moment.result = subst (λ x. Rose story.moment x) (sym c.clock-moment.ensures) worked.passes.rose in
          subst (λ (x : Standing). AnswersDraft N.script (N.start no_rows) x.shown seen s ⊥) c.engine.view_is
          (answers_none N.script (N.start no_rows) (record { history = h; running = not i.log.printer.broken; clock = story.moment }) seen s e told.items
          (ap not (closing (run_at N.script (N.start no_rows) h).moment story.moment e (c.engine.invariant.vault no_rows false (λ z. absurd cc)).invariant.at rose refl)));
      disk = subst (λ (x : Standing). AnswersDisk N.script (N.start no_rows) x.shown seen (SomeRose x.faults (faults_of new))) c.engine.view_is
          (disk_where N.script (N.start no_rows) (record { history = h; running = not i.log.printer.broken; clock = story.moment }) seen (entry s number kind.Decide outcome.WriteFault c.clock-moment.result) told.items
          (SomeRose (faults_of story) (faults_of new)) (λ below is. failed.counted.rose below refl));
      keeps = subst (λ (x : Standing). Steps KeepsFiles x.told new.told) c.engine.view_is
          (moves_keep made story.told new.told worked.only (λ image is. absent_now g.K.Sink.held g.K.Sink.faults n N.room N.sink_faults i.metadata story i.log c.engine.invariant bytes change N.script (run_at N.script (N.start no_rows) h) s number to image is));
    }

pub returns-in-Err-clause-keeps : goal.returns-in-Err-clause-keeps
returns-in-Err-clause-keeps g c =
    let now = c.fail.new.self.told in
    subst (λ (x : Standing). Steps KeepsFiles x.told now) c.engine.view_is (same_keep (g.D.Disk.story c.engine.inside.disk).told now c.fail.ensures.told)

pub returns-in-Err-clause-disk : goal.returns-in-Err-clause-disk
returns-in-Err-clause-disk g c =
    let N = g.N.Naming in
    let now = c.fail.new.self.shown in
    let never : AnswersDisk N.script (N.start no_rows) c.args.engine.now.shown now ⊥ = subst (λ (x : Standing). AnswersDisk N.script (N.start no_rows) x.shown now ⊥) c.engine.view_is c.fail.ensures.disk in
    λ low e grew is. absurd (never low e grew is)
