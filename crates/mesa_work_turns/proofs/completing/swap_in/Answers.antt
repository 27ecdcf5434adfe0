use Rattle.std.proofs.Common.{◌≡◌, ◌+◌, ◌<◌, [], ◌∷◌, ◌++◌, length, true, false, ◌||◌, ◌^◌, not, refl, sym, ◌∙◌, ap, subst, arith, Ok}
use Rattle.mesa_io.specs.Causes.{Rose}
use Rattle.mesa_disk.specs.Files.{files_of}
use Rattle.mesa_write_turns.specs.mesa_history_spec.Machine.{claim_checked, swapped_reply}
use Rattle.mesa_write_turns.specs.mesa_history_spec.Refused.{is_refusal}
use Rattle.mesa_write_turns.specs.mesa_history_spec.Run.{Finished, Renewed}
use Rattle.mesa_write_turns.specs.mesa_history_spec.Turns.{IsDue}
use Rattle.mesa_engine.specs.mesa_store_spec.Catalog.{applied, meta_at}
use Rattle.mesa_engine.specs.mesa_store_spec.Ids.{dropped_ids}
use Rattle.mesa_engine.specs.mesa_catalog.Lookups.{generation_of, turns_generation}
use Rattle.mesa_lease.specs.Book.{ended}
use Rattle.mesa_model.specs.Entry.{IsShort}
use Rattle.mesa_model.specs.declared.commands.Command.TheVariants as command
use Rattle.mesa_model.specs.declared.entries.Kind.TheVariants as kind
use Rattle.mesa_model.specs.declared.entries.Outcome.TheVariants as outcome
use Rattle.mesa_write_turns.specs.mesa_history_spec.Replay.{no_rows as no_lines}
use Rattle.mesa_record.proofs.RecordsBoth.{record_found}
use Rattle.mesa_write_turns.specs.mesa_script.Rows.{body_of}
use Rattle.mesa_write_turns.specs.mesa_history_spec.Rows.{Rows, no_rows}
use Rattle.mesa_write_turns.specs.mesa_file_records.Finished.{HasRange, IsFinished}
use Rattle.mesa_write_turns.specs.mesa_file_records.Swapped.{IsSwapped}
use Rattle.mesa_write_turns.specs.mesa_invariant_spec.Causes.{Replies, Unwritten, told_at}
use Rattle.mesa_write_turns.specs.mesa_invariant_spec.Turns.{AnswersDisk, AnswersDraft, Shown, SomeRose, Takes, entry, faults_of}
use Rattle.mesa_write_turns.specs.mesa_invariant_spec.Invariant.{run_at}
use Rattle.mesa_write_turns.proofs.mesa_invariant_spec.Alike.{due_alike}
use Rattle.mesa_write_turns.proofs.mesa_invariant_spec.Clock.{closing}
use Rattle.mesa_write_turns.proofs.mesa_invariant_spec.Faulting.{disk_counted, disk_where}
use Rattle.mesa_write_turns.proofs.mesa_invariant_spec.Working.{checked_open}
use Rattle.mesa_engine.specs.EngineState.{EngineState, books_of}
use Rattle.mesa_engine.specs.Recorded.{failed_state, holds_in, left_by, recorded_state, removed_by, waiting}
use Rattle.mesa_engine.specs.Turned.{leased_state}
use Rattle.mesa_engine.specs.Vault.{Starts, outset_of, written_by}
use Rattle.mesa_engine.proofs.BeforeTurns.{vault_at_seen}
use Rattle.mesa_engine.specs.Printing.{PrintsBlock}
use Rattle.mesa_engine.specs.Memory.{HasRoomFor, Memory}
use Rattle.mesa_engine.specs.Engine.{IsEngine, Standing, starts_of}
use Rattle.mesa_engine.proofs.Drafting.{answers_none}
use Rattle.mesa_open_files.specs.Tasks.{claim_in}
use Rattle.mesa_engine.specs.mesa_commit.Holding.{kept}
use Rattle.mesa_write_turns.proofs.Loads.{all_tell}
use Rattle.mesa_write_turns.specs.Committing.{IsWhole, IsWorked}
use Rattle.mesa_engine.specs.Written.{written_at}
use Rattle.mesa_work_turns.proofs.ClosingClaims.{due_still}
use Rattle.mesa_work_turns.proofs.Refusing.{closed_takes}
use Rattle.mesa_work_turns.proofs.SwapEngines.{absent_still, ready_still, swap_prints, swapped_engine, unswapped_engine}
use Rattle.mesa_work_turns.specs.Swept.{HasStood, IsSwept}
use Rattle.mesa_work_turns.proofs.Sweeping.{stood_as, swept}
use Rattle.mesa_work_turns.proofs.completing.swap_in.Goals as goal

-- ---- before memory is taken

pub prepare-requires-clause-shaped : goal.prepare-requires-clause-shaped
prepare-requires-clause-shaped g c κs within = (c.engine.invariant.vault no_rows false (λ is. absurd cc)).shaped

pub prepare-requires-clause-given : goal.prepare-requires-clause-given
prepare-requires-clause-given g c κs within = (c.engine.invariant.vault no_rows false (λ is. absurd cc)).filed.named_given

pub prepare-requires-clause-room : goal.prepare-requires-clause-room
prepare-requires-clause-room g c κs within =
    let v = c.engine.invariant.vault no_rows false (λ is. absurd cc) in
    let most = v.counts.adopted in
    let room = c.requires.room in
    let same : length c.engine.inside.log.history.items ≡ length c.args.engine.now.shown.history = ap (λ (s : Standing). length s.shown.history) c.engine.view_is in
    let few = c.engine.invariant.few in
    omega (arith, most, room, same, few)

pub prepare-requires-clause-there : goal.prepare-requires-clause-there
prepare-requires-clause-there g c κs within =
    let N = g.N.Naming in
    let n : Starts = starts_of N.script N.start N.sound N.origin N.since N.counted N.at_start in
    let i = c.engine.inside in
    let h = i.log.history.items in
    let claim = claim_in c.args.task.now in
    let due = subst (λ (x : Standing). IsDue N.script (run_at N.script (N.start no_rows) x.shown.history) c.args.who.session c.args.who.command (command.Work c.requires.due.0) (Renewed claim)) (sym c.engine.view_is) c.requires.due.1 in
    let holds = subst (λ (x : Standing). claim_checked (books_of no_rows x.state).bare (books_of no_rows x.state).machine (length x.shown.history) claim ≡ Ok tt) (sym c.engine.view_is) c.requires.holds in
    (due_still (outset_of n no_rows) (n.origin no_rows) i.metadata.state (g.D.Disk.story i.disk) (g.K.Sink.held i.log.printer.sink) h (not i.log.printer.broken) i.log.refused (c.engine.invariant.vault no_rows false (λ is. absurd cc))
    c.args.who.session c.args.who.command c.requires.due.0 (length h) claim c.args.task.now.work refl due holds).there

pub prepare-requires-clause-due : goal.prepare-requires-clause-due
prepare-requires-clause-due g c κs within =
    let N = g.N.Naming in
    let n : Starts = starts_of N.script N.start N.sound N.origin N.since N.counted N.at_start in
    let i = c.engine.inside in
    let h = i.log.history.items in
    let claim = claim_in c.args.task.now in
    let due = subst (λ (x : Standing). IsDue N.script (run_at N.script (N.start no_rows) x.shown.history) c.args.who.session c.args.who.command (command.Work c.requires.due.0) (Renewed claim)) (sym c.engine.view_is) c.requires.due.1 in
    let holds = subst (λ (x : Standing). claim_checked (books_of no_rows x.state).bare (books_of no_rows x.state).machine (length x.shown.history) claim ≡ Ok tt) (sym c.engine.view_is) c.requires.holds in
    let still = due_still (outset_of n no_rows) (n.origin no_rows) i.metadata.state (g.D.Disk.story i.disk) (g.K.Sink.held i.log.printer.sink) h (not i.log.printer.broken) i.log.refused (c.engine.invariant.vault no_rows false (λ is. absurd cc))
    c.args.who.session c.args.who.command c.requires.due.0 (length h) claim c.args.task.now.work refl due holds in
    (still.oldest, still.next, still.due, still.later_oldest, still.later_next)

-- ---- there is no memory

pub returns-in-Err-clause-swept : goal.returns-in-Err-clause-swept
returns-in-Err-clause-swept g c = λ stood.
    let who = c.args.who in
    let later = c.refuse.new.engine.shown in
    let grew = subst (λ (x : Standing). later.history ≡ x.shown.history ++ entry who.session who.command kind.Close outcome.Memory later.clock ∷ []) c.engine.view_is c.refuse.ensures.outcome in
    let never : outcome.Memory ≡ outcome.Stands = stood_as c.args.engine.now.shown later who.session who.command outcome.Memory later.clock grew stood in
    absurd cc

-- ---- what is asked of the commit

pub commit-committed-requires-clause-reserved : goal.commit-committed-requires-clause-reserved
commit-committed-requires-clause-reserved g c κs within = subst (λ (m : Memory). HasRoomFor c.in-Ok.ready.swapped.entry (length c.in-Ok.ready.gone.items) m.reserved) (sym c.in-Ok.ensures.reserved) (refl, omega arith)

pub commit-committed-requires-clause-few : goal.commit-committed-requires-clause-few
commit-committed-requires-clause-few g c κs within =
    let N = g.N.Naming in
    let n : Starts = starts_of N.script N.start N.sound N.origin N.since N.counted N.at_start in
    let i = c.engine.inside in
    let t = c.args.task.now in
    let l = i.metadata.state in
    let h = i.log.history.items in
    let story = g.D.Disk.story i.disk in
    let bytes = g.M.Made.bytes in
    let read = g.D.Reader.FileReader.bytes in
    let was = c.requires.finished.0 in
    let s = c.in-Ok.ready.swapped in
    let holds : claim_checked (books_of no_rows l).bare (books_of no_rows l).machine (length h) (claim_in t) ≡ Ok tt =
    subst (λ (x : Standing). claim_checked (books_of no_rows x.state).bare (books_of no_rows x.state).machine (length x.shown.history) (claim_in t) ≡ Ok tt) (sym c.engine.view_is) c.requires.holds in
    let finished : IsFinished bytes g.M.Made.id_of read was (meta_at l.catalogue t.table).lineage t c.args.delta =
    subst (λ (x : Standing). IsFinished bytes g.M.Made.id_of read was (meta_at x.state.catalogue t.table).lineage t c.args.delta) (sym c.engine.view_is) c.requires.finished.1 in
    let is : IsSwapped bytes read l was t s = c.in-Ok.ensures.swapped was finished in
    let v = c.engine.invariant.vault no_rows false (λ is. absurd cc) in
    let most = v.counts.adopted in
    let room = c.requires.room in
    let same : length h ≡ length c.args.engine.now.shown.history = ap (λ (x : Standing). length x.shown.history) c.engine.view_is in
    let turns = c.engine.invariant.few in
    let more = is.adopts.few in
    let few : s.adopted < 2 ^ 40 = omega (arith, most, room, same, turns, more) in
    few

pub commit-committed-requires-clause-distinct : goal.commit-committed-requires-clause-distinct
commit-committed-requires-clause-distinct g c κs within =
    let N = g.N.Naming in
    let n : Starts = starts_of N.script N.start N.sound N.origin N.since N.counted N.at_start in
    let i = c.engine.inside in
    let t = c.args.task.now in
    let l = i.metadata.state in
    let h = i.log.history.items in
    let story = g.D.Disk.story i.disk in
    let bytes = g.M.Made.bytes in
    let read = g.D.Reader.FileReader.bytes in
    let was = c.requires.finished.0 in
    let s = c.in-Ok.ready.swapped in
    let holds : claim_checked (books_of no_rows l).bare (books_of no_rows l).machine (length h) (claim_in t) ≡ Ok tt =
    subst (λ (x : Standing). claim_checked (books_of no_rows x.state).bare (books_of no_rows x.state).machine (length x.shown.history) (claim_in t) ≡ Ok tt) (sym c.engine.view_is) c.requires.holds in
    let finished : IsFinished bytes g.M.Made.id_of read was (meta_at l.catalogue t.table).lineage t c.args.delta =
    subst (λ (x : Standing). IsFinished bytes g.M.Made.id_of read was (meta_at x.state.catalogue t.table).lineage t c.args.delta) (sym c.engine.view_is) c.requires.finished.1 in
    let is : IsSwapped bytes read l was t s = c.in-Ok.ensures.swapped was finished in
    is.distinct

pub commit-committed-requires-clause-new : goal.commit-committed-requires-clause-new
commit-committed-requires-clause-new g c κs within =
    let N = g.N.Naming in
    let n : Starts = starts_of N.script N.start N.sound N.origin N.since N.counted N.at_start in
    let i = c.engine.inside in
    let t = c.args.task.now in
    let l = i.metadata.state in
    let h = i.log.history.items in
    let story = g.D.Disk.story i.disk in
    let bytes = g.M.Made.bytes in
    let read = g.D.Reader.FileReader.bytes in
    let was = c.requires.finished.0 in
    let s = c.in-Ok.ready.swapped in
    let holds : claim_checked (books_of no_rows l).bare (books_of no_rows l).machine (length h) (claim_in t) ≡ Ok tt =
    subst (λ (x : Standing). claim_checked (books_of no_rows x.state).bare (books_of no_rows x.state).machine (length x.shown.history) (claim_in t) ≡ Ok tt) (sym c.engine.view_is) c.requires.holds in
    let finished : IsFinished bytes g.M.Made.id_of read was (meta_at l.catalogue t.table).lineage t c.args.delta =
    subst (λ (x : Standing). IsFinished bytes g.M.Made.id_of read was (meta_at x.state.catalogue t.table).lineage t c.args.delta) (sym c.engine.view_is) c.requires.finished.1 in
    let is : IsSwapped bytes read l was t s = c.in-Ok.ensures.swapped was finished in
    let v = c.engine.invariant.vault no_rows false (λ is. absurd cc) in
    let most = v.counts.adopted in
    let room = c.requires.room in
    let same : length h ≡ length c.args.engine.now.shown.history = ap (λ (x : Standing). length x.shown.history) c.engine.view_is in
    let turns = c.engine.invariant.few in
    let more = is.adopts.few in
    let few : s.adopted < 2 ^ 40 = omega (arith, most, room, same, turns, more) in
    λ image told. absent_still g.K.Sink.held g.K.Sink.faults n N.room N.sink_faults i.metadata story i.log c.engine.invariant bytes read was t s is holds few image told

pub commit-committed-requires-clause-room : goal.commit-committed-requires-clause-room
commit-committed-requires-clause-room g c κs within =
    let N = g.N.Naming in
    let n : Starts = starts_of N.script N.start N.sound N.origin N.since N.counted N.at_start in
    let i = c.engine.inside in
    let t = c.args.task.now in
    let l = i.metadata.state in
    let h = i.log.history.items in
    let story = g.D.Disk.story i.disk in
    let bytes = g.M.Made.bytes in
    let read = g.D.Reader.FileReader.bytes in
    let was = c.requires.finished.0 in
    let s = c.in-Ok.ready.swapped in
    let holds : claim_checked (books_of no_rows l).bare (books_of no_rows l).machine (length h) (claim_in t) ≡ Ok tt =
    subst (λ (x : Standing). claim_checked (books_of no_rows x.state).bare (books_of no_rows x.state).machine (length x.shown.history) (claim_in t) ≡ Ok tt) (sym c.engine.view_is) c.requires.holds in
    let finished : IsFinished bytes g.M.Made.id_of read was (meta_at l.catalogue t.table).lineage t c.args.delta =
    subst (λ (x : Standing). IsFinished bytes g.M.Made.id_of read was (meta_at x.state.catalogue t.table).lineage t c.args.delta) (sym c.engine.view_is) c.requires.finished.1 in
    let is : IsSwapped bytes read l was t s = c.in-Ok.ensures.swapped was finished in
    let ready = ready_still g.K.Sink.held g.K.Sink.faults n N.room N.sink_faults i.metadata story i.log c.engine.invariant bytes read was t s is holds in
    subst (λ (m : Memory). m.state.end < story.len m.state.area) (sym c.in-Ok.ensures.reserved) ready.long

-- ---- it is written

-- the state behind it, its lease not ended yet
applied_done : (g : _) (c : goal.After-drop-reply g)
    → c.commit-committed.new.metadata.state ≡ recorded_state c.engine.inside.metadata.state (applied c.engine.inside.metadata.state.catalogue c.in-Ok.ready.swapped.entry) (generation_of (applied c.engine.inside.metadata.state.catalogue c.in-Ok.ready.swapped.entry))
    (left_by c.engine.inside.metadata.state (length c.engine.inside.log.history.items) (dropped_ids c.engine.inside.metadata.state.catalogue c.in-Ok.ready.swapped.entry)) c.engine.inside.metadata.state.leases c.in-Ok.ready.swapped.adopted c.commit-committed.new.metadata.state.end
applied_done g c =
    let s = c.in-Ok.ready.swapped in
    let place = c.position-at.ensures in
    let reserved = c.in-Ok.ensures.reserved in
    ap (λ (m : Memory). m.state) c.in-Ok-committed.ensures.applied
    ∙ (λ j. recorded_state (reserved j).state (applied (reserved j).state.catalogue s.entry) (generation_of (applied (reserved j).state.catalogue s.entry)) (left_by (reserved j).state (place j) (c.in-Ok.ensures.gone j)) (reserved j).state.leases s.adopted c.commit-committed.new.metadata.state.end)

-- the state behind it
state_done : (g : _) (c : goal.After-drop-reply g)
    → c.end_lease.new.self.state ≡ recorded_state c.engine.inside.metadata.state (applied c.engine.inside.metadata.state.catalogue c.in-Ok.ready.swapped.entry) (generation_of (applied c.engine.inside.metadata.state.catalogue c.in-Ok.ready.swapped.entry))
    (left_by c.engine.inside.metadata.state (length c.engine.inside.log.history.items) (dropped_ids c.engine.inside.metadata.state.catalogue c.in-Ok.ready.swapped.entry)) (ended c.args.task.now.table c.args.task.now.lease c.engine.inside.metadata.state.leases) c.in-Ok.ready.swapped.adopted c.commit-committed.new.metadata.state.end
state_done g c =
    let t = c.args.task.now in
    ap (λ (m : Memory). m.state) c.end_lease.ensures ∙ ap (λ (k : EngineState). leased_state k (ended t.table t.lease k.leases)) (applied_done g c)

kept_done : (g : _) (c : goal.After-drop-reply g)
    → IsEngine g.K.Sink.held g.K.Sink.faults (starts_of g.N.Naming.script g.N.Naming.start g.N.Naming.sound g.N.Naming.origin g.N.Naming.since g.N.Naming.counted g.N.Naming.at_start) g.N.Naming.room g.N.Naming.sink_faults c.end_lease.new.self (g.D.Disk.story c.commit-committed.new.disk) c.tell.new.self
kept_done g c =
    let N = g.N.Naming in
    let n : Starts = starts_of N.script N.start N.sound N.origin N.since N.counted N.at_start in
    let i = c.engine.inside in
    let t = c.args.task.now in
    let l = i.metadata.state in
    let h = i.log.history.items in
    let story = g.D.Disk.story i.disk in
    let bytes = g.M.Made.bytes in
    let read = g.D.Reader.FileReader.bytes in
    let was = c.requires.finished.0 in
    let s = c.in-Ok.ready.swapped in
    let holds : claim_checked (books_of no_rows l).bare (books_of no_rows l).machine (length h) (claim_in t) ≡ Ok tt =
    subst (λ (x : Standing). claim_checked (books_of no_rows x.state).bare (books_of no_rows x.state).machine (length x.shown.history) (claim_in t) ≡ Ok tt) (sym c.engine.view_is) c.requires.holds in
    let finished : IsFinished bytes g.M.Made.id_of read was (meta_at l.catalogue t.table).lineage t c.args.delta =
    subst (λ (x : Standing). IsFinished bytes g.M.Made.id_of read was (meta_at x.state.catalogue t.table).lineage t c.args.delta) (sym c.engine.view_is) c.requires.finished.1 in
    let is : IsSwapped bytes read l was t s = c.in-Ok.ensures.swapped was finished in
    let words = c.requires.due.0 in
    let session = c.args.who.session in
    let number = c.args.who.command in
    let due : IsDue N.script (run_at N.script (N.start no_rows) h) session number (command.Work words) (Renewed (claim_in t)) =
    subst (λ (x : Standing). IsDue N.script (run_at N.script (N.start no_rows) x.shown.history) session number (command.Work words) (Renewed (claim_in t))) (sym c.engine.view_is) c.requires.due.1 in
    let has : (w : Rows) → n.sound w → HasRange read was t (written_by (outset_of n w) (n.origin w).found h t.table) =
    λ w sound. subst (λ (x : Standing). HasRange read was t (written_at N.script (N.start w) (N.origin w) x.shown.history t.table)) (sym c.engine.view_is) (c.requires.finished.2 w sound) in
    let tell = λ (w : Rows) (sound : n.sound w). all_tell bytes (c.requires.told w sound) s.made.items in
    let new = g.D.Disk.story c.commit-committed.new.disk in
    let body = c.in-Ok.ready.framed in
    let made = files_of bytes s.made.items in
    let gone = dropped_ids l.catalogue s.entry in
    let place = c.position-at.ensures in
    let reserved = c.in-Ok.ensures.reserved in
    let after = c.end_lease.new.self in
    let ran : not i.log.printer.broken ≡ true = ap (λ (x : Standing). x.shown.running) c.engine.view_is ∙ c.requires.runs in
    let removed_is : c.in-Ok.ready.removed.items ≡ removed_by l (length h) gone = c.in-Ok.ensures.removes ∙ ap (λ p. removed_by l p gone) place in
    let worked : IsWorked story new l.area l.end body made (removed_by l (length h) gone) =
    subst (λ d. IsWorked story new l.area l.end body made d) removed_is (subst (λ (m : Memory). IsWorked story new m.state.area m.state.end body made c.in-Ok.ready.removed.items) reserved c.commit-committed.ensures.worked) in
    let typed = (record_found body s.entry c.in-Ok.ensures.bytes c.in-Ok.ensures.reads).0.typed in
    let due_for = λ (w : Rows). due_alike N.script (N.start no_rows) (N.start w) h session number (command.Work words) (Renewed (claim_in t)) (N.alike w) refl due in
    let done = c.in-Ok-committed.ensures in
    let end = c.commit-committed.new.metadata.state.end in
    let later = c.tell.new.self in
    let short : IsShort (entry session number kind.Close outcome.Stands c.clock-moment.result) = subst IsShort c.turn-turn.ensures.same c.turn-turn.ensures.short in
    let whole : IsWhole story new l.area l.end body made (removed_by l (length h) gone) end =
    subst (λ d. IsWhole story new l.area l.end body made d end) removed_is (subst (λ (m : Memory). IsWhole story new m.state.area m.state.end body made c.in-Ok.ready.removed.items end) reserved done.whole) in
    let applied_is = applied_done g c in
    let state_is = state_done g c in
    let rises : generation_of (applied l.catalogue s.entry) ≡ l.generation + turns_generation s.entry =
    sym (ap (λ (k : EngineState). k.generation) applied_is) ∙ done.generation ∙ ap (λ (m : Memory). m.state.generation + turns_generation s.entry) reserved in
    let leased : after.leased ≡ i.metadata.leased = ap (λ (m : Memory). m.leased) c.end_lease.ensures ∙ ap (λ (m : Memory). m.leased) done.applied ∙ ap (λ (m : Memory). m.leased) reserved in
    let grew = c.tell.ensures.items ∙ ap (λ x. h ++ x ∷ []) c.turn-turn.ensures.same in
    let told = c.tell.ensures.told no_lines (swap_prints t.work ∙ ap (body_of no_lines) (sym c.range_of-reply.ensures)) in
    let prints = subst (λ p. PrintsBlock g.K.Sink.held g.K.Sink.faults i.log.printer later.printer (entry session number kind.Close outcome.Stands c.clock-moment.result) (told_at p (swapped_reply t.work))) place
    (subst (λ x. PrintsBlock g.K.Sink.held g.K.Sink.faults i.log.printer later.printer x (told_at c.position-at.result (swapped_reply t.work))) c.turn-turn.ensures.same
    (subst (λ x. PrintsBlock g.K.Sink.held g.K.Sink.faults i.log.printer later.printer c.turn-turn.result (told_at c.position-at.result x)) c.range_of-reply.ensures told)) in
    swapped_engine g.K.Sink.held g.K.Sink.faults n N.room N.sink_faults i.metadata story i.log c.engine.invariant bytes read was t s is holds session number short.session short.command ran typed words due_for has tell body c.in-Ok.ensures.bytes c.in-Ok.ensures.reads new worked
    c.clock-moment.result c.clock-moment.ensures after later end whole done.quiet state_is rises leased grew c.tell.ensures.room prints (c.tell.ensures.refused ∙ ap (λ x. i.log.refused || is_refusal x) c.range_of-reply.ensures)

pub invariant_of-engine-in-Ok-committed : goal.invariant_of-engine-in-Ok-committed
invariant_of-engine-in-Ok-committed g c = kept_done g c

swept_done : (g : _) (c : goal.After-drop-reply g) → IsSwept (g.D.Disk.story c.commit-committed.new.disk).told c.end_lease.new.self.state c.tell.new.self.history.items
swept_done g c =
    let N = g.N.Naming in
    let n : Starts = starts_of N.script N.start N.sound N.origin N.since N.counted N.at_start in
    let l = c.engine.inside.metadata.state in
    let h = c.engine.inside.log.history.items in
    let later = c.tell.new.self in
    let holds : claim_checked (books_of no_rows l).bare (books_of no_rows l).machine (length h) (claim_in c.args.task.now) ≡ Ok tt =
    subst (λ (x : Standing). claim_checked (books_of no_rows x.state).bare (books_of no_rows x.state).machine (length x.shown.history) (claim_in c.args.task.now) ≡ Ok tt) (sym c.engine.view_is) c.requires.holds in
    swept (outset_of n no_rows) (n.origin no_rows) false c.end_lease.new.self.state (g.D.Disk.story c.commit-committed.new.disk) (g.K.Sink.held later.printer.sink) later.history.items (not later.printer.broken) later.refused ((kept_done g c).vault no_rows false (λ is. absurd cc))
    (ap (λ (k : EngineState). k.closed) (state_done g c) ∙ checked_open (books_of no_rows l).bare (books_of no_rows l).machine (length h) (claim_in c.args.task.now) holds)
    (waiting l (length h) (dropped_ids l.catalogue c.in-Ok.ready.swapped.entry))
    (subst (λ (k : EngineState). k.trash ≡ kept (holds_in k) (waiting l (length h) (dropped_ids l.catalogue c.in-Ok.ready.swapped.entry))) (sym (state_done g c)) refl)

pub returns-in-Ok-committed : goal.returns-in-Ok-committed
returns-in-Ok-committed g c =
    let N = g.N.Naming in
    let n : Starts = starts_of N.script N.start N.sound N.origin N.since N.counted N.at_start in
    let i = c.engine.inside in
    let t = c.args.task.now in
    let h = i.log.history.items in
    let session = c.args.who.session in
    let number = c.args.who.command in
    let words = c.requires.due.0 in
    let new = g.D.Disk.story c.commit-committed.new.disk in
    let later = c.tell.new.self in
    let due : IsDue N.script (run_at N.script (N.start no_rows) h) session number (command.Work words) (Renewed (claim_in t)) =
    subst (λ (x : Standing). IsDue N.script (run_at N.script (N.start no_rows) x.shown.history) session number (command.Work words) (Renewed (claim_in t))) (sym c.engine.view_is) c.requires.due.1 in
    let ran : not i.log.printer.broken ≡ true = ap (λ (x : Standing). x.shown.running) c.engine.view_is ∙ c.requires.runs in
    let grew = c.tell.ensures.items ∙ ap (λ x. h ++ x ∷ []) c.turn-turn.ensures.same in
    let seen : Shown = record { history = later.history.items; running = not later.printer.broken; clock = new.moment } in
    record {
      turn = subst (λ (x : Standing). Takes N.script (N.start no_rows) x.shown seen session number kind.Close Finished) c.engine.view_is
          (closed_takes n no_rows (record { history = h; running = not i.log.printer.broken; clock = (g.D.Disk.story i.disk).moment }) seen session number words (claim_in t) due (Replies (swapped_reply t.work))
          (grew ∙ ap (λ x. h ++ entry session number kind.Close outcome.Stands x ∷ []) c.clock-moment.ensures) ran
          (vault_at_seen n c.end_lease.new.self.state new (g.K.Sink.held later.printer.sink) later.history.items (not later.printer.broken) later.refused new.moment (kept_done g c).vault));
      draft = subst (λ (x : Standing). AnswersDraft N.script (N.start no_rows) x.shown seen session ⊥) c.engine.view_is
          (answers_none N.script (N.start no_rows) (record { history = h; running = not i.log.printer.broken; clock = (g.D.Disk.story i.disk).moment }) seen session (entry session number kind.Close outcome.Stands c.clock-moment.result) grew refl);
      disk = subst (λ (x : Standing). AnswersDisk N.script (N.start no_rows) x.shown seen (SomeRose x.faults (faults_of new))) c.engine.view_is
          (disk_counted N.script (N.start no_rows) (record { history = h; running = not i.log.printer.broken; clock = (g.D.Disk.story i.disk).moment }) seen (entry session number kind.Close outcome.Stands c.clock-moment.result) grew (g.D.Disk.story i.disk) new refl c.in-Ok-committed.ensures.quiet);
      swept = λ stood. swept_done g c;
    }

-- ---- it has failed

kept_failed : (g : _) (c : goal.After-fail g)
    → IsEngine g.K.Sink.held g.K.Sink.faults (starts_of g.N.Naming.script g.N.Naming.start g.N.Naming.sound g.N.Naming.origin g.N.Naming.since g.N.Naming.counted g.N.Naming.at_start) g.N.Naming.room g.N.Naming.sink_faults c.end_lease.new.self (g.D.Disk.story c.commit-committed.new.disk) c.fail.new.self
kept_failed g c =
    let N = g.N.Naming in
    let n : Starts = starts_of N.script N.start N.sound N.origin N.since N.counted N.at_start in
    let i = c.engine.inside in
    let t = c.args.task.now in
    let l = i.metadata.state in
    let h = i.log.history.items in
    let story = g.D.Disk.story i.disk in
    let bytes = g.M.Made.bytes in
    let read = g.D.Reader.FileReader.bytes in
    let was = c.requires.finished.0 in
    let s = c.in-Ok.ready.swapped in
    let holds : claim_checked (books_of no_rows l).bare (books_of no_rows l).machine (length h) (claim_in t) ≡ Ok tt =
    subst (λ (x : Standing). claim_checked (books_of no_rows x.state).bare (books_of no_rows x.state).machine (length x.shown.history) (claim_in t) ≡ Ok tt) (sym c.engine.view_is) c.requires.holds in
    let finished : IsFinished bytes g.M.Made.id_of read was (meta_at l.catalogue t.table).lineage t c.args.delta =
    subst (λ (x : Standing). IsFinished bytes g.M.Made.id_of read was (meta_at x.state.catalogue t.table).lineage t c.args.delta) (sym c.engine.view_is) c.requires.finished.1 in
    let is : IsSwapped bytes read l was t s = c.in-Ok.ensures.swapped was finished in
    let words = c.requires.due.0 in
    let session = c.args.who.session in
    let number = c.args.who.command in
    let due : IsDue N.script (run_at N.script (N.start no_rows) h) session number (command.Work words) (Renewed (claim_in t)) =
    subst (λ (x : Standing). IsDue N.script (run_at N.script (N.start no_rows) x.shown.history) session number (command.Work words) (Renewed (claim_in t))) (sym c.engine.view_is) c.requires.due.1 in
    let has : (w : Rows) → n.sound w → HasRange read was t (written_by (outset_of n w) (n.origin w).found h t.table) =
    λ w sound. subst (λ (x : Standing). HasRange read was t (written_at N.script (N.start w) (N.origin w) x.shown.history t.table)) (sym c.engine.view_is) (c.requires.finished.2 w sound) in
    let tell = λ (w : Rows) (sound : n.sound w). all_tell bytes (c.requires.told w sound) s.made.items in
    let new = g.D.Disk.story c.commit-committed.new.disk in
    let body = c.in-Ok.ready.framed in
    let made = files_of bytes s.made.items in
    let gone = dropped_ids l.catalogue s.entry in
    let place = c.position-at.ensures in
    let reserved = c.in-Ok.ensures.reserved in
    let after = c.end_lease.new.self in
    let ran : not i.log.printer.broken ≡ true = ap (λ (x : Standing). x.shown.running) c.engine.view_is ∙ c.requires.runs in
    let removed_is : c.in-Ok.ready.removed.items ≡ removed_by l (length h) gone = c.in-Ok.ensures.removes ∙ ap (λ p. removed_by l p gone) place in
    let worked : IsWorked story new l.area l.end body made (removed_by l (length h) gone) =
    subst (λ d. IsWorked story new l.area l.end body made d) removed_is (subst (λ (m : Memory). IsWorked story new m.state.area m.state.end body made c.in-Ok.ready.removed.items) reserved c.commit-committed.ensures.worked) in
    let typed = (record_found body s.entry c.in-Ok.ensures.bytes c.in-Ok.ensures.reads).0.typed in
    let due_for = λ (w : Rows). due_alike N.script (N.start no_rows) (N.start w) h session number (command.Work words) (Renewed (claim_in t)) (N.alike w) refl due in
    let failed = c.in-Err-committed.ensures in
    let later = c.fail.new.self in
    let told = c.fail.ensures in
    let failed_is : c.commit-committed.new.metadata.state ≡ failed_state l (length h) l.leases s.adopted = ap (λ (m : Memory). m.state) failed.closed ∙ (λ j. failed_state (reserved j).state (place j) (reserved j).state.leases s.adopted) in
    let state_is : after.state ≡ failed_state l (length h) (ended t.table t.lease l.leases) s.adopted = ap (λ (m : Memory). m.state) c.end_lease.ensures ∙ ap (λ (k : EngineState). leased_state k (ended t.table t.lease k.leases)) failed_is in
    let leased : after.leased ≡ i.metadata.leased = ap (λ (m : Memory). m.leased) c.end_lease.ensures ∙ ap (λ (m : Memory). m.leased) failed.closed ∙ ap (λ (m : Memory). m.leased) reserved in
    unswapped_engine g.K.Sink.held g.K.Sink.faults n N.room N.sink_faults i.metadata story i.log c.engine.invariant bytes read was t s is holds session number told.short.session told.short.command ran typed words due_for has tell body c.in-Ok.ensures.bytes c.in-Ok.ensures.reads new worked
    c.clock-moment.result c.clock-moment.ensures after later failed.counted state_is leased told.items told.room told.told told.refused

pub invariant_of-engine-in-Err-committed : goal.invariant_of-engine-in-Err-committed
invariant_of-engine-in-Err-committed g c = kept_failed g c

pub returns-in-Err-committed : goal.returns-in-Err-committed
returns-in-Err-committed g c =
    let N = g.N.Naming in
    let n : Starts = starts_of N.script N.start N.sound N.origin N.since N.counted N.at_start in
    let i = c.engine.inside in
    let t = c.args.task.now in
    let h = i.log.history.items in
    let story = g.D.Disk.story i.disk in
    let session = c.args.who.session in
    let number = c.args.who.command in
    let words = c.requires.due.0 in
    let new = g.D.Disk.story c.commit-committed.new.disk in
    let later = c.fail.new.self in
    let told = c.fail.ensures in
    let due : IsDue N.script (run_at N.script (N.start no_rows) h) session number (command.Work words) (Renewed (claim_in t)) =
    subst (λ (x : Standing). IsDue N.script (run_at N.script (N.start no_rows) x.shown.history) session number (command.Work words) (Renewed (claim_in t))) (sym c.engine.view_is) c.requires.due.1 in
    let ran : not i.log.printer.broken ≡ true = ap (λ (x : Standing). x.shown.running) c.engine.view_is ∙ c.requires.runs in
    let seen : Shown = record { history = later.history.items; running = not later.printer.broken; clock = new.moment } in
    record {
      turn = subst (λ (x : Standing). Takes N.script (N.start no_rows) x.shown seen session number kind.Close Finished) c.engine.view_is
          (closed_takes n no_rows (record { history = h; running = not i.log.printer.broken; clock = story.moment }) seen session number words (claim_in t) due Unwritten
          (told.items ∙ ap (λ x. h ++ entry session number kind.Close outcome.WriteFault x ∷ []) c.clock-moment.ensures) ran
          (vault_at_seen n c.end_lease.new.self.state new (g.K.Sink.held later.printer.sink) later.history.items (not later.printer.broken) later.refused new.moment (kept_failed g c).vault));
      draft =
          let e = entry session number kind.Close outcome.WriteFault c.clock-moment.result in
          let rose : Rose story.moment c.clock-moment.result = subst (λ x. Rose story.moment x) (sym c.clock-moment.ensures) (c.commit-committed.ensures.worked).passes.rose in
          subst (λ (x : Standing). AnswersDraft N.script (N.start no_rows) x.shown seen session ⊥) c.engine.view_is
          (answers_none N.script (N.start no_rows) (record { history = h; running = not i.log.printer.broken; clock = story.moment }) seen session e told.items
          (ap not (closing (run_at N.script (N.start no_rows) h).moment story.moment e (c.engine.invariant.vault no_rows false (λ z. absurd cc)).invariant.at rose refl)));
      disk = subst (λ (x : Standing). AnswersDisk N.script (N.start no_rows) x.shown seen (SomeRose x.faults (faults_of new))) c.engine.view_is
          (disk_where N.script (N.start no_rows) (record { history = h; running = not i.log.printer.broken; clock = story.moment }) seen (entry session number kind.Close outcome.WriteFault c.clock-moment.result) told.items
          (SomeRose (faults_of story) (faults_of new)) (λ below is. c.in-Err-committed.ensures.counted.rose below refl));
      swept = λ stood.
          let was : Shown = record { history = h; running = not i.log.printer.broken; clock = story.moment } in
          let never : outcome.WriteFault ≡ outcome.Stands = stood_as was seen session number outcome.WriteFault c.clock-moment.result told.items (subst (λ (x : Standing). HasStood x.shown seen session number) (sym c.engine.view_is) stood) in
          absurd cc;
    }
