-- How the close of a work whose range is swapped in keeps an engine.
use Rattle.std.proofs.Common.{◌≡◌, ◌∙◌, ℕ, ◌+◌, ◌<◌, ◌≤◌, ◌^◌, List, [], ◌∷◌, ◌++◌, length, true, false, ◌||◌, not, refl, sym, ap, subst, arith, Option, Some, Ok}
use Rattle.std.specs.Prelude.{vec_capacity}
use Rattle.mesa_write_turns.specs.mesa_key.Spelling.{AreBytes}
use Rattle.mesa_write_turns.specs.mesa_schema.Changes.{Lineage}
use Rattle.mesa_disk.specs.Files.{AreAbsent, files_of}
use Rattle.mesa_disk.specs.Image.{Image}
use Rattle.mesa_disk.specs.Story.{Story}
use Rattle.mesa_span.specs.declared.works.Work.{Work}
use Rattle.mesa_span.specs.declared.works.Work.TheVariants as range
use Rattle.mesa_lease.specs.Book.{ended}
use Rattle.mesa_model.specs.declared.commands.Command.TheVariants as command
use Rattle.mesa_model.specs.declared.commands.WorkWords.{WorkWords}
use Rattle.mesa_model.specs.declared.entries.Entry.{Entry}
use Rattle.mesa_model.specs.declared.entries.Kind.TheVariants as kind
use Rattle.mesa_model.specs.declared.entries.Outcome.TheVariants as outcome
use Rattle.mesa_write_turns.specs.mesa_history_spec.Machine.{claim_checked, swapped_reply}
use Rattle.mesa_write_turns.specs.mesa_history_spec.Refused.{is_refusal}
use Rattle.mesa_write_turns.specs.mesa_history_spec.Replay.{no_rows as no_lines}
use Rattle.mesa_write_turns.specs.mesa_history_spec.Run.{Renewed}
use Rattle.mesa_write_turns.specs.mesa_history_spec.Turns.{IsDue}
use Rattle.mesa_record.specs.Reading.{record_at}
use Rattle.mesa_record.specs.Rules.{IsTyped}
use Rattle.mesa_engine.specs.mesa_store_spec.Catalog.{applied}
use Rattle.mesa_engine.specs.mesa_store_spec.Ids.{dropped_ids}
use Rattle.mesa_engine.specs.mesa_catalog.Lookups.{generation_of, turns_generation}
use Rattle.mesa_write_turns.specs.mesa_script.Rows.{body_of}
use Rattle.mesa_write_turns.specs.mesa_history_spec.Rows.{Rows, no_rows}
use Rattle.mesa_open_files.specs.declared.merging.Task.{Task}
use Rattle.mesa_write_turns.specs.mesa_invariant_spec.Causes.{Unwritten, reply_of, told_at}
use Rattle.mesa_write_turns.specs.mesa_invariant_spec.Turns.{entry}
use Rattle.mesa_write_turns.specs.mesa_invariant_spec.Invariant.{Counts, run_at}
use Rattle.mesa_write_turns.proofs.mesa_invariant_spec.Working.{checked_open}
use Rattle.mesa_engine.specs.EngineState.{books_of, first_id, next_id, past_id}
use Rattle.mesa_engine.specs.Recorded.{failed_state, left_by, recorded_state, removed_by}
use Rattle.mesa_engine.specs.Vault.{IsReady, IsVault, Starts, outset_of, written_by}
use Rattle.mesa_engine.specs.declared.log.Log.{Log}
use Rattle.mesa_engine.specs.Printing.{PrintsBlock}
use Rattle.mesa_engine.specs.Memory.{Memory}
use Rattle.mesa_engine.specs.Engine.{IsEngine}
use Rattle.mesa_engine.proofs.Turning.{told_engine}
use Rattle.mesa_write_turns.specs.mesa_file_records.Published.{AllTell}
use Rattle.mesa_write_turns.specs.mesa_file_records.Finished.{HasRange}
use Rattle.mesa_write_turns.specs.mesa_file_records.Swapped.{IsSwapped}
use Rattle.mesa_write_turns.specs.mesa_file_records.declared.swapping.Swapped.{Swapped}
use Rattle.mesa_open_files.specs.Tasks.{claim_in}
use Rattle.mesa_write_turns.specs.Committing.{IsWhole, IsWorked}
use Rattle.mesa_write_turns.proofs.Written.{absent_yet}
use Rattle.mesa_work_turns.proofs.Swaps.{swap_ends, swap_fails}

-- a swap is no refusal, and has no lines behind its head line
pub swap_told : (work : Work) → is_refusal (swapped_reply work) ≡ false
swap_told (range.Base to) = refl
swap_told (range.Cumulative from to) = refl

pub swap_prints : (work : Work) → [] ≡ body_of no_lines (swapped_reply work)
swap_prints (range.Base to) = refl
swap_prints (range.Cumulative from to) = refl

module _ {K : Type 0} (held : K → Option (List ℕ)) (faults : K → ℕ) (n : Starts) (turns sinks : ℕ) (m : Memory) (story : Story) (log : Log K) (v : IsEngine held faults n turns sinks m story log)
    {M R : Type 0} (bytes : M → Option (List ℕ)) (read : R → Option (List ℕ)) (was : Lineage) (t : Task R) (s : Swapped M) (is : IsSwapped bytes read m.state was t s)
    (checked : claim_checked (books_of no_rows m.state).bare (books_of no_rows m.state).machine (length log.history.items) (claim_in t) ≡ Ok tt) where
  -- what an engine that hasn't closed has ready for a record
  pub ready_still : IsReady m.state story
  ready_still = (v.vault no_rows false (λ is. absurd cc)).ready (checked_open (books_of no_rows m.state).bare (books_of no_rows m.state).machine (length log.history.items) (claim_in t) checked)

  -- the files that it brings aren't there yet
  pub absent_still : s.adopted < 2 ^ 40 → (i : Image) → story.told ≡ Some i → AreAbsent (files_of bytes s.made.items) i
  absent_still few' i told =
      absent_yet (next_id m.state) (first_id m.state.catalogue.run + s.adopted) (past_id m.state) (files_of bytes s.made.items) i (omega (arith, few')) is.adopts.given (λ id le lt. ready_still.fresh i told id le lt)

  module _ (session number : ℕ) (low : session < 2 ^ 16) (few : number < 2 ^ 32) (ran : not log.printer.broken ≡ true) (typed : IsTyped s.entry)
      (words : WorkWords) (due : (w : Rows) → IsDue n.script (run_at n.script (n.start w) log.history.items) session number (command.Work words) (Renewed (claim_in t)))
      (has : (w : Rows) → n.sound w → HasRange read was t (written_by (outset_of n w) (n.origin w).found log.history.items t.table)) (tell : (w : Rows) → n.sound w → AllTell bytes s.made.items)
      (body : List ℕ) (are : AreBytes body) (reads : record_at body ≡ Ok s.entry)
      (new : Story) (worked : IsWorked story new m.state.area m.state.end body (files_of bytes s.made.items) (removed_by m.state (length log.history.items) (dropped_ids m.state.catalogue s.entry)))
      (moment : ℕ) (moment_is : moment ≡ new.moment) (after : Memory) (later : Log K) where
    abbrev h : List Entry
    h = log.history.items

    -- The device work is done, and the record is applied and told.
    pub swapped_engine : (end : ℕ) → IsWhole story new m.state.area m.state.end body (files_of bytes s.made.items) (removed_by m.state (length log.history.items) (dropped_ids m.state.catalogue s.entry)) end → Counts story new false
        → after.state ≡ recorded_state m.state (applied m.state.catalogue s.entry) (generation_of (applied m.state.catalogue s.entry)) (left_by m.state (length log.history.items) (dropped_ids m.state.catalogue s.entry)) (ended t.table t.lease m.state.leases) s.adopted end
        → generation_of (applied m.state.catalogue s.entry) ≡ m.state.generation + turns_generation s.entry → after.leased ≡ m.leased
        → later.history.items ≡ log.history.items ++ entry session number kind.Close outcome.Stands moment ∷ [] → vec_capacity log.history ≤ vec_capacity later.history
        → PrintsBlock held faults log.printer later.printer (entry session number kind.Close outcome.Stands moment) (told_at (length log.history.items) (swapped_reply t.work)) → later.refused ≡ (log.refused || is_refusal (swapped_reply t.work))
        → IsEngine held faults n turns sinks after new later
    swapped_engine end whole counts state_is rises leased grew roomy prints refused =
        told_engine held faults n turns sinks m after story new log later (entry session number kind.Close outcome.Stands moment) v grew roomy moment_is worked.passes.later (let a = v.leased in omega (arith, a, leased)) (λ w sound. refl)
        (told_at (length log.history.items) (swapped_reply t.work)) false prints (refused ∙ ap (λ b. log.refused || b) (swap_told t.work))
        (λ put w b ok. subst (λ l. IsVault (outset_of n w) (n.origin w) b l new (held later.printer.sink) (h ++ entry session number kind.Close outcome.Stands moment ∷ []) (not later.printer.broken) (log.refused || false)) (sym state_is)
        (swap_ends n w b m.state story (held log.printer.sink) h (not log.printer.broken) log.refused (v.vault w b ok) session number low few ran bytes read was t s is typed words (due w) (length h) refl checked (λ on. has w (ok on)) (λ on. tell w (ok on))
        body are new moment moment_is (not later.printer.broken) (held later.printer.sink) reads worked end whole counts rises put))

    -- It has failed, and the vault is closed.
    pub unswapped_engine : Counts story new true → after.state ≡ failed_state m.state (length log.history.items) (ended t.table t.lease m.state.leases) s.adopted → after.leased ≡ m.leased
        → later.history.items ≡ log.history.items ++ entry session number kind.Close outcome.WriteFault moment ∷ [] → vec_capacity log.history ≤ vec_capacity later.history
        → PrintsBlock held faults log.printer later.printer (entry session number kind.Close outcome.WriteFault moment) (told_at (length log.history.items) (reply_of Unwritten)) → later.refused ≡ (log.refused || true)
        → IsEngine held faults n turns sinks after new later
    unswapped_engine counts state_is leased grew roomy prints refused =
        told_engine held faults n turns sinks m after story new log later (entry session number kind.Close outcome.WriteFault moment) v grew roomy moment_is worked.passes.later (let a = v.leased in omega (arith, a, leased)) (λ w sound. refl)
        (told_at (length log.history.items) (reply_of Unwritten)) true prints refused
        (λ put w b ok. subst (λ l. IsVault (outset_of n w) (n.origin w) b l new (held later.printer.sink) (h ++ entry session number kind.Close outcome.WriteFault moment ∷ []) (not later.printer.broken) (log.refused || true)) (sym state_is)
        (swap_fails n w b m.state story (held log.printer.sink) h (not log.printer.broken) log.refused (v.vault w b ok) session number low few ran bytes read was t s is typed words (due w) (length h) refl checked (λ on. has w (ok on)) (λ on. tell w (ok on))
        body are new moment moment_is (not later.printer.broken) (held later.printer.sink) reads worked counts put))
