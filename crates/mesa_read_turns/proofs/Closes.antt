-- How a query's last turn keeps a vault.
use Rattle.std.proofs.Common.{◌≡◌, inl, inr, ℕ, ◌<◌, ◌≤◌, ◌^◌, List, [], ◌∷◌, ◌++◌, Bool, true, false, ◌||◌, not, IsTrue, refl, sym, ◌∙◌, ap, subst, arith, Option, None, Some, Result, Ok, Err}
use Rattle.std.specs.Prelude.{is_some, vec_capacity}
use Rattle.std.specs.List.{AllByRecursion}
use Rattle.mesa_read_turns.specs.Closing.{IsPageOf, IsSomePageOf, IsToClose, cause_if, closing_entry, closing_text}
use Rattle.mesa_pick_files.specs.mesa_scan.Cursors.{reader_in}
use Rattle.mesa_delta.specs.declared.error.FileError.{FileError}
use Rattle.mesa_delta.specs.declared.error.FileError.TheVariants as file_error
use Rattle.mesa_delta.specs.declared.input.Input.{Input}
use Rattle.mesa_disk.specs.Story.{Story, Unmoved}
use Rattle.mesa_engine.proofs.Turning.{turned_engine}
use Rattle.mesa_engine.proofs.Undone.{not_skipped}
use Rattle.mesa_engine.specs.Engine.{IsEngine}
use Rattle.mesa_io.specs.Causes.{last, Rose}
use Rattle.mesa_engine.specs.mesa_history_spec.Counting.{answers_disk}
use Rattle.mesa_engine.specs.mesa_history_spec.Replay.{is_skip}
use Rattle.mesa_engine.specs.mesa_history_spec.Run.{State, Finished}
use Rattle.mesa_engine.proofs.Staying.{answered_vault}
use Rattle.mesa_engine.specs.EngineState.{EngineState, books_of}
use Rattle.mesa_engine.specs.Turned.{answered_state}
use Rattle.mesa_engine.specs.Vault.{Origin, Starts, IsVault, outset_of}
use Rattle.mesa_engine.proofs.Printing.{page_block}
use Rattle.mesa_engine.specs.Printing.{GoesOn}
use Rattle.mesa_engine.specs.declared.log.Log.{Log}
use Rattle.mesa_engine.specs.Memory.{Memory, is_of_another, with_state}
use Rattle.mesa_model.specs.Query.{Answer}
use Rattle.mesa_model.specs.declared.commands.Command.TheVariants as command
use Rattle.mesa_model.specs.declared.commands.Script.{Script}
use Rattle.mesa_model.specs.declared.entries.Entry.{Entry}
use Rattle.mesa_model.specs.declared.entries.Kind.TheVariants as kind
use Rattle.mesa_engine.specs.mesa_history_spec.Output.{block}
use Rattle.mesa_script.specs.declared.rendered.Rendered.{Rendered}
use Rattle.mesa_engine.specs.mesa_history_spec.Rows.{Rows}
use Rattle.mesa_open_files.specs.GivingBack.{GivesBack, SomeFailed}
use Rattle.mesa_engine.proofs.mesa_invariant_spec.Asking.{close_turn}
use Rattle.mesa_engine.proofs.mesa_invariant_spec.Going.{close_takes}
use Rattle.mesa_engine.specs.mesa_invariant_spec.Causes.{Cause}
use Rattle.mesa_engine.specs.mesa_invariant_spec.Printing.{IsPut}
use Rattle.mesa_engine.specs.mesa_invariant_spec.Queries.{ClosesWith, MayClose, closing_fault, closing_outcome, closing_told}
use Rattle.mesa_engine.specs.mesa_invariant_spec.Turns.{Shown, IsSeen, Takes, entry}
use Rattle.mesa_engine.specs.mesa_invariant_spec.Undamaged.{is_damaged}
use Rattle.mesa_engine.specs.mesa_invariant_spec.Invariant.{Outset, Counts, run_at, run_of}

-- a reader that has failed is counted
some_counted : {R : Type 0} (faults : R → ℕ) (old new : ℕ) (inputs : List (Input R)) → AllByRecursion (λ (i : Input R). 0 < faults (reader_in i) → Rose old new) inputs → SomeFailed faults inputs → Rose old new
some_counted faults old new [] all failed = absurd failed
some_counted faults old new (i ∷ inputs) all failed = elim failed [ inl one ↦ all.0 one | inr more ↦ some_counted faults old new inputs all.1 more ]

-- What giving back does to the counts: one rose where a fault is answered, since a reader has failed then.
pub given_counts : {R : Type 0} (faults : R → ℕ) (inputs : List (Input R)) (old new : Story) (answers : Bool) → GivesBack faults inputs old new → (answers ≡ true → SomeFailed faults inputs) → Counts old new answers
given_counts faults inputs old new answers given failed = record {
  faults = omega (arith, given.calls);
  reads = given.later;
  rose = λ low is. inr (some_counted faults old.read_faults new.read_faults inputs given.counted (failed is));
}

-- the outcome of a close answers a fault of the disk exactly where the answer says so
pub closing_answers : {T : Type 0} (closing : Bool) (answered : Result T FileError) → answers_disk closing (closing_outcome (cause_if answered)) ≡ closing_fault (cause_if answered)
closing_answers closing (Ok page) = refl
closing_answers closing (Err file_error.Read) = refl
closing_answers closing (Err (file_error.Damaged damage)) = refl
closing_answers closing (Err file_error.Memory) = refl

-- the vault behind the close
pub closed_query : (o : Outset) (g : Origin) (sound : Bool) (l : EngineState) (story : Story) (held : Option (List ℕ)) (h : List Entry) (running refused : Bool) → IsVault o g sound l story held h running refused
    → (s number : ℕ) → s < 2 ^ 16 → number < 2 ^ 32 → (m : ℕ) → m ≡ story.moment → running ≡ true → (new : Story) → Unmoved story new → (at : ℕ) (tells : Answer → Type 0) (due : IsToClose o.script (run_of o h) s number at tells)
    → (cause : Option Cause) → MayClose cause → Counts story new (closing_fault cause) → (now : Bool) (new_held : Option (List ℕ)) (piece : List ℕ) → ClosesWith (entry s number kind.Close (closing_outcome cause) m) at due.opened.answer cause piece
    → (IsTrue sound → m < last → piece ≡ block (entry s number kind.Close (closing_outcome cause) m) (Some (closing_told at due.opened.answer cause))) → IsPut piece now held new_held
    → IsVault o g sound (answered_state l (is_of_another s)) new new_held (h ++ entry s number kind.Close (closing_outcome cause) m ∷ []) now (refused || is_some cause)
closed_query o g sound l story held h running refused v s number low few m moment ran new unmoved at tells due cause may counts now new_held piece shows is put =
    answered_vault o g sound l story held h running refused v (entry s number kind.Close (closing_outcome cause) m) new new_held now (refused || is_some cause) unmoved (is_of_another s)
    (close_turn o sound (books_of v.rows l) story held h running refused v.invariant s number low few due.words m moment ran new unmoved at tells due.opened cause may counts now new_held piece shows is put)

-- ---- the engine behind it

module _ {K : Type 0} (held : K → Option (List ℕ)) (faults : K → ℕ) (n : Starts) (turns sinks : ℕ) (m after : Memory) (story new : Story) (log later : Log K) (v : IsEngine held faults n turns sinks m story log)
    (s number : ℕ) (low : s < 2 ^ 16) (few : number < 2 ^ 32) (mo : ℕ) (moment : mo ≡ story.moment) (ran : not log.printer.broken ≡ true) (unmoved : Unmoved story new) (at : ℕ) (tells : Rows → Answer → Type 0)
    (due : (w : Rows) → IsToClose n.script (run_at n.script (n.start w) log.history.items) s number at (tells w)) (cause : Option Cause) (may : MayClose cause) (counts : Counts story new (closing_fault cause))
    (grew : later.history.items ≡ log.history.items ++ entry s number kind.Close (closing_outcome cause) mo ∷ []) (roomy : vec_capacity log.history ≤ vec_capacity later.history) (is : after ≡ with_state (answered_state m.state (is_of_another s)) m)
    (undamaged : (w : Rows) → n.sound w → is_damaged (closing_outcome cause) ≡ false) where
  abbrev e : Entry
  e = entry s number kind.Close (closing_outcome cause) mo

  pub closed_engine : (piece : List ℕ) → ((w : Rows) → ClosesWith (entry s number kind.Close (closing_outcome cause) mo) at (due w).opened.answer cause piece)
      → ((w : Rows) → n.sound w → mo < last → piece ≡ block (entry s number kind.Close (closing_outcome cause) mo) (Some (closing_told at (due w).opened.answer cause)))
      → IsPut piece (not later.printer.broken) (held log.printer.sink) (held later.printer.sink) → GoesOn faults log.printer later.printer → later.refused ≡ (log.refused || is_some cause) → IsEngine held faults n turns sinks after new later
  closed_engine piece shows_it tells_it put goes refused =
      subst (λ (x : Memory). IsEngine held faults n turns sinks x new later) (sym is)
      (turned_engine held faults n turns sinks m (with_state (answered_state m.state (is_of_another s)) m) story new log later e v grew roomy (moment ∙ sym unmoved.moment) (omega (arith, unmoved.moment)) (omega (arith, v.leased)) undamaged goes
      (λ w b ok. subst (IsVault (outset_of n w) (n.origin w) b (answered_state m.state (is_of_another s)) new (held later.printer.sink) (log.history.items ++ e ∷ []) (not later.printer.broken)) (sym refused)
      (closed_query (outset_of n w) (n.origin w) b m.state story (held log.printer.sink) log.history.items (not log.printer.broken) log.refused (v.vault w b ok) s number low few mo moment ran new unmoved at (tells w) (due w) cause may counts
      (not later.printer.broken) (held later.printer.sink) piece (shows_it w) (λ sound. tells_it w (ok sound)) put)))

-- ---- what it prints

-- on any store, what is printed is that block but for the rows of a page
pub shows_answer : (s number mo at version : ℕ) (answered : Result Rendered FileError) (answer : Answer) → IsSomePageOf answered version answer
    → ClosesWith (closing_entry s number answered mo) at answer (cause_if answered) (closing_text (closing_entry s number answered mo) at version answered)
shows_answer s number mo at version (Ok text) answer is = (
  record is.0 { version = version },
  (λ i. record { version = is.2 i; rows = []; resume = None }),
  page_block (closing_entry s number (Ok text) mo) at version answer.heading (record is.0 { version = version }) text is.1 refl,
)
shows_answer s number mo at version (Err error) answer is = refl

-- on a sound store, what is printed is the block of what the run tells
pub tells_answer : (s number mo at version : ℕ) (answered : Result Rendered FileError) (answer : Answer) → IsPageOf answered version answer
    → closing_text (closing_entry s number answered mo) at version answered ≡ block (closing_entry s number answered mo) (Some (closing_told at answer (cause_if answered)))
tells_answer s number mo at version (Ok page) answer is = page_block (closing_entry s number (Ok page) mo) at version answer.heading answer.page page is.0 is.1
tells_answer s number mo at version (Err error) answer is = refl

-- ---- where it takes its session

closes : (cause : Option Cause) → is_skip (closing_outcome cause) ≡ false
closes None = refl
closes (Some cause) = not_skipped cause

pub closed_takes : (script : Script) (start : State) (old new : Shown) (s number at : ℕ) (tells : Answer → Type 0) → IsToClose script (run_at script start old.history) s number at tells → (cause : Option Cause)
    → new.history ≡ old.history ++ entry s number kind.Close (closing_outcome cause) new.clock ∷ [] → old.running ≡ true → IsSeen script start new → Takes script start old new s number kind.Close Finished
closed_takes script start old new s number at tells due cause grew ran seen =
    close_takes script start old new s number (command.Query due.words) at due.opened.answer due.opened.due (record { outcome = closing_outcome cause; grew = grew; skipped = closes cause ∙ ap not (sym ran); still = λ on. ran }) seen
