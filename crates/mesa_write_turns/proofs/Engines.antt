-- How a turn that writes keeps an engine.
use Rattle.std.proofs.Common.{refl, ◌≡◌, ℕ, ◌+◌, ◌<◌, ◌≤◌, ◌^◌, List, [], ◌∷◌, ◌++◌, length, true, false, ◌||◌, not, sym, subst, arith, Option, None, Some, Ok}
use Rattle.std.specs.Prelude.{vec_capacity}
use Rattle.mesa_file_records.specs.mesa_key.Spelling.{AreBytes}
use Rattle.mesa_disk.specs.Files.{AreAbsent, files_of}
use Rattle.mesa_disk.specs.Image.{Image}
use Rattle.mesa_disk.specs.Story.{Story}
use Rattle.mesa_model.specs.declared.commands.Script.{Script}
use Rattle.mesa_model.specs.declared.entries.Entry.{Entry}
use Rattle.mesa_model.specs.declared.entries.Kind.TheVariants as kind
use Rattle.mesa_model.specs.declared.entries.Outcome.TheVariants as outcome
use Rattle.mesa_file_records.specs.mesa_history_spec.Refused.{is_refusal}
use Rattle.mesa_file_records.specs.mesa_history_spec.Run.{Run}
use Rattle.mesa_file_records.specs.mesa_history_spec.Turns.{IsDue}
use Rattle.mesa_record.specs.Reading.{record_at}
use Rattle.mesa_record.specs.Rules.{IsTyped}
use Rattle.mesa_engine.specs.mesa_store_spec.Catalog.{applied}
use Rattle.mesa_engine.specs.mesa_catalog.Lookups.{generation_of, turns_generation}
use Rattle.mesa_file_records.specs.mesa_history_spec.Bare.{bare_state}
use Rattle.mesa_file_records.specs.mesa_history_spec.Rows.{Rows, no_rows}
use Rattle.mesa_engine.specs.mesa_invariant_spec.Causes.{Unwritten, reply_of, told_at}
use Rattle.mesa_engine.specs.mesa_invariant_spec.Turns.{entry}
use Rattle.mesa_engine.specs.mesa_invariant_spec.Invariant.{Counts, run_at, run_of}
use Rattle.mesa_engine.proofs.mesa_invariant_spec.Alike.{due_alike}
use Rattle.mesa_engine.specs.EngineState.{first_id, next_id, past_id}
use Rattle.mesa_engine.specs.Recorded.{failed_state, recorded_state}
use Rattle.mesa_engine.specs.Vault.{IsReady, IsVault, Starts, outset_of}
use Rattle.mesa_engine.specs.declared.log.Log.{Log}
use Rattle.mesa_engine.specs.Printing.{PrintsBlock}
use Rattle.mesa_engine.specs.Memory.{Memory}
use Rattle.mesa_engine.specs.Engine.{IsEngine}
use Rattle.mesa_engine.specs.Failing.{deciding_stage}
use Rattle.mesa_engine.proofs.Turning.{told_engine}
use Rattle.mesa_engine.proofs.Undone.{deciding_unanswered}
use Rattle.mesa_file_records.specs.Published.{AllTell}
use Rattle.mesa_write_turns.specs.declared.writing.Change.{Change}
use Rattle.mesa_write_turns.specs.Writing.{IsToWrite}
use Rattle.mesa_write_turns.specs.Committing.{IsWhole, IsWorked}
use Rattle.mesa_write_turns.proofs.Written.{absent_yet, write_fails, write_stands}

module _ {K : Type 0} (held : K → Option (List ℕ)) (faults : K → ℕ) (n : Starts) (turns sinks : ℕ) (m : Memory) (story : Story) (log : Log K) (v : IsEngine held faults n turns sinks m story log) where
  -- what an engine that hasn't closed has ready for a record
  pub ready_now : m.state.closed ≡ None → IsReady m.state story
  ready_now opened = (v.vault no_rows false (λ is. absurd cc)).ready opened

  -- the files that it brings aren't there yet
  pub absent_now : {M : Type 0} (bytes : M → Option (List ℕ)) (change : Change M) (script : Script) (r : Run) (session number : ℕ) → IsToWrite bytes script r m.state session number change → (i : Image) → story.told ≡ Some i → AreAbsent (files_of bytes change.made.items) i
  absent_now bytes change script r session number to i told =
      let few' = to.can.brings.few in
      absent_yet (next_id m.state) (first_id m.state.catalogue.run + change.adopted) (past_id m.state) (files_of bytes change.made.items) i (omega (arith, few')) to.can.brings.adopts.given (λ id le lt. (ready_now to.can.opened).fresh i told id le lt)

  module _ (alike : (w : Rows) → bare_state (n.start no_rows) ≡ bare_state (n.start w)) (session number : ℕ) (low : session < 2 ^ 16) (few : number < 2 ^ 32) (ran : not log.printer.broken ≡ true)
      {M : Type 0} (bytes : M → Option (List ℕ)) (change : Change M) (to : IsToWrite bytes n.script (run_at n.script (n.start no_rows) log.history.items) m.state session number change)
      (typed : IsTyped change.writes) (tell : (w : Rows) → n.sound w → AllTell bytes change.made.items) (body : List ℕ) (are : AreBytes body) (reads : record_at body ≡ Ok change.writes)
      (new : Story) (worked : IsWorked story new m.state.area m.state.end body (files_of bytes change.made.items) [])
      (moment : ℕ) (moment_is : moment ≡ new.moment) (at : ℕ) (place : at ≡ length log.history.items) (after : Memory) (later : Log K) where
    abbrev h : List Entry
    h = log.history.items

    due_for : (w : Rows) → IsDue n.script (run_of (outset_of n w) log.history.items) session number to.asked (deciding_stage to.asked)
    due_for w = due_alike n.script (n.start no_rows) (n.start w) h session number to.asked (deciding_stage to.asked) (alike w) (deciding_unanswered to.asked) to.due

    -- The device work is done, and the record is applied and told.
    pub written_engine : (end : ℕ) → IsWhole story new m.state.area m.state.end body (files_of bytes change.made.items) [] end → Counts story new false
        → after.state ≡ recorded_state m.state (applied m.state.catalogue change.writes) (generation_of (applied m.state.catalogue change.writes)) m.state.trash m.state.leases change.adopted end
        → generation_of (applied m.state.catalogue change.writes) ≡ m.state.generation + turns_generation change.writes → after.leased ≡ m.leased
        → later.history.items ≡ log.history.items ++ entry session number kind.Decide outcome.Stands moment ∷ [] → vec_capacity log.history ≤ vec_capacity later.history
        → PrintsBlock held faults log.printer later.printer (entry session number kind.Decide outcome.Stands moment) (told_at at change.tells) → later.refused ≡ (log.refused || is_refusal change.tells)
        → IsEngine held faults n turns sinks after new later
    written_engine end whole counts state_is rises leased grew roomy prints refused =
        told_engine held faults n turns sinks m after story new log later (entry session number kind.Decide outcome.Stands moment) v grew roomy moment_is worked.passes.later (let a = v.leased in omega (arith, a, leased)) (λ w sound. refl)
        (told_at at change.tells) (is_refusal change.tells) prints refused
        (λ put w b is. subst (λ l. IsVault (outset_of n w) (n.origin w) b l new (held later.printer.sink) (h ++ entry session number kind.Decide outcome.Stands moment ∷ []) (not later.printer.broken) (log.refused || is_refusal change.tells)) (sym state_is)
        (write_stands n w b m.state story (held log.printer.sink) h (not log.printer.broken) log.refused (v.vault w b is) session number low few ran bytes change n.script (run_at n.script (n.start no_rows) h) to (due_for w) typed (λ ok. tell w (is ok))
        body are reads new worked moment moment_is at place (not later.printer.broken) (held later.printer.sink) end whole counts rises put))

    -- It has failed, and the vault is closed.
    pub unwritten_engine : Counts story new true → after.state ≡ failed_state m.state at m.state.leases change.adopted → after.leased ≡ m.leased
        → later.history.items ≡ log.history.items ++ entry session number kind.Decide outcome.WriteFault moment ∷ [] → vec_capacity log.history ≤ vec_capacity later.history
        → PrintsBlock held faults log.printer later.printer (entry session number kind.Decide outcome.WriteFault moment) (told_at at (reply_of Unwritten)) → later.refused ≡ (log.refused || true)
        → IsEngine held faults n turns sinks after new later
    unwritten_engine counts state_is leased grew roomy prints refused =
        told_engine held faults n turns sinks m after story new log later (entry session number kind.Decide outcome.WriteFault moment) v grew roomy moment_is worked.passes.later (let a = v.leased in omega (arith, a, leased)) (λ w sound. refl)
        (told_at at (reply_of Unwritten)) true prints refused
        (λ put w b is. subst (λ l. IsVault (outset_of n w) (n.origin w) b l new (held later.printer.sink) (h ++ entry session number kind.Decide outcome.WriteFault moment ∷ []) (not later.printer.broken) (log.refused || true)) (sym state_is)
        (write_fails n w b m.state story (held log.printer.sink) h (not log.printer.broken) log.refused (v.vault w b is) session number low few ran bytes change n.script (run_at n.script (n.start no_rows) h) to (due_for w) typed (λ ok. tell w (is ok))
        body are reads new worked moment moment_is at place (not later.printer.broken) (held later.printer.sink) counts put))
