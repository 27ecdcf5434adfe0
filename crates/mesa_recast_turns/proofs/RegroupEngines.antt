-- How the close of a recast whose table is recast keeps an engine.
use Rattle.std.proofs.Common.{◌≡◌, ℕ, ◌+◌, ◌<◌, ◌≤◌, ◌^◌, List, [], ◌∷◌, ◌++◌, length, true, false, ◌||◌, not, refl, sym, subst, arith, Option, None, Some, Ok}
use Rattle.std.specs.Prelude.{vec_capacity}
use Rattle.mesa_work_turns.specs.mesa_key.Spelling.{AreBytes}
use Rattle.mesa_disk.specs.Files.{AreAbsent, files_of}
use Rattle.mesa_disk.specs.Image.{Image}
use Rattle.mesa_disk.specs.Story.{Story}
use Rattle.mesa_lease.specs.Book.{ended}
use Rattle.mesa_model.specs.declared.commands.Command.TheVariants as command
use Rattle.mesa_model.specs.declared.commands.RecastWords.{RecastWords}
use Rattle.mesa_model.specs.declared.entries.Entry.{Entry}
use Rattle.mesa_model.specs.declared.entries.Kind.TheVariants as kind
use Rattle.mesa_model.specs.declared.entries.Outcome.TheVariants as outcome
use Rattle.mesa_work_turns.specs.mesa_history_spec.Machine.{claim_checked, still_checked}
use Rattle.mesa_work_turns.specs.mesa_history_spec.Run.{Renewed}
use Rattle.mesa_work_turns.specs.mesa_history_spec.Turns.{IsDue}
use Rattle.mesa_engine.specs.mesa_record.Reading.{record_at}
use Rattle.mesa_engine.specs.mesa_record.Rules.{IsTyped}
use Rattle.mesa_engine.specs.mesa_store_spec.Catalog.{applied}
use Rattle.mesa_engine.specs.mesa_store_spec.Ids.{dropped_ids}
use Rattle.mesa_engine.specs.mesa_catalog.Lookups.{generation_of, turns_generation}
use Rattle.mesa_work_turns.specs.mesa_history_spec.Rows.{Rows, no_rows}
use Rattle.mesa_open_files.specs.Recasts.{claim_of_recast, recast_in}
use Rattle.mesa_open_files.specs.declared.recasting.Recast.{Recast}
use Rattle.mesa_work_turns.specs.mesa_invariant_spec.Causes.{Unwritten, reply_of, told_at}
use Rattle.mesa_work_turns.specs.mesa_invariant_spec.Turns.{entry}
use Rattle.mesa_work_turns.specs.mesa_invariant_spec.Invariant.{Counts, run_at}
use Rattle.mesa_work_turns.proofs.mesa_invariant_spec.Working.{checked_open}
use Rattle.mesa_engine.specs.EngineState.{books_of, first_id, next_id, past_id}
use Rattle.mesa_engine.specs.Recorded.{failed_state, left_by, recorded_state, removed_by}
use Rattle.mesa_engine.specs.Vault.{IsVault, Starts, outset_of, written_by}
use Rattle.mesa_engine.specs.declared.log.Log.{Log}
use Rattle.mesa_engine.specs.Printing.{PrintsBlock}
use Rattle.mesa_engine.specs.Memory.{Memory}
use Rattle.mesa_engine.specs.Engine.{IsEngine}
use Rattle.mesa_engine.proofs.Turning.{told_engine}
use Rattle.mesa_work_turns.specs.mesa_file_records.Published.{AllTell}
use Rattle.mesa_work_turns.specs.mesa_file_records.Recasts.{HasItsRanges, IsRecastIn, meta_of_recast}
use Rattle.mesa_work_turns.specs.mesa_file_records.declared.swapping.Swapped.{Swapped}
use Rattle.mesa_work_turns.specs.mesa_write_turns.Committing.{IsWhole, IsWorked}
use Rattle.mesa_work_turns.proofs.mesa_write_turns.Engines.{ready_now}
use Rattle.mesa_work_turns.proofs.mesa_write_turns.Written.{absent_yet}
use Rattle.mesa_recast_turns.proofs.Regroups.{recast_ends, recast_fails, told_of}

module _ {K : Type 0} (held : K → Option (List ℕ)) (faults : K → ℕ) (n : Starts) (turns sinks : ℕ) (m : Memory) (story : Story) (log : Log K) (v : IsEngine held faults n turns sinks m story log)
    {M R : Type 0} (bytes : M → Option (List ℕ)) (read : R → Option (List ℕ)) (t : Recast R) (s : Swapped M) (is : IsRecastIn bytes read m.state t s)
    (checked : claim_checked (books_of no_rows m.state).bare (books_of no_rows m.state).machine (length log.history.items) (claim_of_recast t) ≡ Ok tt) where
  opened : m.state.closed ≡ None
  opened = checked_open (books_of no_rows m.state).bare (books_of no_rows m.state).machine (length log.history.items) (claim_of_recast t) checked

  -- the files that it brings aren't there yet
  pub absent_still : s.adopted < 2 ^ 40 → (i : Image) → story.told ≡ Some i → AreAbsent (files_of bytes s.made.items) i
  absent_still few' i told =
      absent_yet (next_id m.state) (first_id m.state.catalogue.run + s.adopted) (past_id m.state) (files_of bytes s.made.items) i (omega (arith, few')) is.adopts.given (λ id le lt. (ready_now held faults n turns sinks m story log v opened).fresh i told id le lt)

  module _ (session number : ℕ) (low : session < 2 ^ 16) (few : number < 2 ^ 32) (ran : not log.printer.broken ≡ true) (typed : IsTyped s.entry)
      (words : RecastWords) (due : (w : Rows) → IsDue n.script (run_at n.script (n.start w) log.history.items) session number (command.Recast words) (Renewed (claim_of_recast t)))
      (still : still_checked (meta_of_recast m.state t).lineage t.epoch (recast_in t) ≡ Ok tt)
      (ranges : (w : Rows) → n.sound w → HasItsRanges read t (written_by (outset_of n w) (n.origin w).found log.history.items t.table)) (tell : (w : Rows) → n.sound w → AllTell bytes s.made.items)
      (body : List ℕ) (are : AreBytes body) (reads : record_at body ≡ Ok s.entry)
      (new : Story) (worked : IsWorked story new m.state.area m.state.end body (files_of bytes s.made.items) (removed_by m.state (length log.history.items) (dropped_ids m.state.catalogue s.entry)))
      (moment : ℕ) (moment_is : moment ≡ new.moment) (after : Memory) (later : Log K) where
    abbrev h : List Entry
    h = log.history.items

    -- The device work is done, and the record is applied and told.
    pub recast_engine : (end : ℕ) → IsWhole story new m.state.area m.state.end body (files_of bytes s.made.items) (removed_by m.state (length log.history.items) (dropped_ids m.state.catalogue s.entry)) end → Counts story new false
        → after.state ≡ recorded_state m.state (applied m.state.catalogue s.entry) (generation_of (applied m.state.catalogue s.entry)) (left_by m.state (length log.history.items) (dropped_ids m.state.catalogue s.entry)) (ended t.table t.lease m.state.leases) s.adopted end
        → generation_of (applied m.state.catalogue s.entry) ≡ m.state.generation + turns_generation s.entry → after.leased ≡ m.leased
        → later.history.items ≡ log.history.items ++ entry session number kind.Close outcome.Stands moment ∷ [] → vec_capacity log.history ≤ vec_capacity later.history
        → PrintsBlock held faults log.printer later.printer (entry session number kind.Close outcome.Stands moment) (told_at (length log.history.items) (told_of m.state t)) → later.refused ≡ (log.refused || false)
        → IsEngine held faults n turns sinks after new later
    recast_engine end whole counts state_is rises leased grew roomy prints refused =
        told_engine held faults n turns sinks m after story new log later (entry session number kind.Close outcome.Stands moment) v grew roomy moment_is worked.passes.later (let a = v.leased in omega (arith, a, leased)) (λ w sound. refl)
        (told_at (length log.history.items) (told_of m.state t)) false prints refused
        (λ put w b ok. subst (λ l. IsVault (outset_of n w) (n.origin w) b l new (held later.printer.sink) (h ++ entry session number kind.Close outcome.Stands moment ∷ []) (not later.printer.broken) (log.refused || false)) (sym state_is)
        (recast_ends n w b m.state story (held log.printer.sink) h (not log.printer.broken) log.refused (v.vault w b ok) session number low few ran bytes read t s is typed words (due w) (length h) refl checked still (λ on. ranges w (ok on)) (λ on. tell w (ok on))
        body are new moment moment_is (not later.printer.broken) (held later.printer.sink) reads worked end whole counts rises put))

    -- It has failed, and the vault is closed.
    pub unrecast_engine : Counts story new true → after.state ≡ failed_state m.state (length log.history.items) (ended t.table t.lease m.state.leases) s.adopted → after.leased ≡ m.leased
        → later.history.items ≡ log.history.items ++ entry session number kind.Close outcome.WriteFault moment ∷ [] → vec_capacity log.history ≤ vec_capacity later.history
        → PrintsBlock held faults log.printer later.printer (entry session number kind.Close outcome.WriteFault moment) (told_at (length log.history.items) (reply_of Unwritten)) → later.refused ≡ (log.refused || true)
        → IsEngine held faults n turns sinks after new later
    unrecast_engine counts state_is leased grew roomy prints refused =
        told_engine held faults n turns sinks m after story new log later (entry session number kind.Close outcome.WriteFault moment) v grew roomy moment_is worked.passes.later (let a = v.leased in omega (arith, a, leased)) (λ w sound. refl)
        (told_at (length log.history.items) (reply_of Unwritten)) true prints refused
        (λ put w b ok. subst (λ l. IsVault (outset_of n w) (n.origin w) b l new (held later.printer.sink) (h ++ entry session number kind.Close outcome.WriteFault moment ∷ []) (not later.printer.broken) (log.refused || true)) (sym state_is)
        (recast_fails n w b m.state story (held log.printer.sink) h (not log.printer.broken) log.refused (v.vault w b ok) session number low few ran bytes read t s is typed words (due w) (length h) refl checked still (λ on. ranges w (ok on)) (λ on. tell w (ok on))
        body are new moment moment_is (not later.printer.broken) (held later.printer.sink) reads worked counts put))
