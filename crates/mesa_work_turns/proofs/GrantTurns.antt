-- What the grant of a work or a recast comes to, whose claim can be granted.
use Rattle.std.proofs.Common.{◌≡◌, ◌∙◌, ℕ, ◌+◌, ◌≤◌, List, [], ◌∷◌, ◌++◌, length, Bool, IsTrue, true, false, ◌||◌, not, sym, ap, refl, subst, Option, None, Ok}
use Rattle.std.specs.Prelude.{vec_capacity}
use Rattle.mesa_disk.specs.Story.{Story, Unmoved}
use Rattle.mesa_write_turns.specs.mesa_history_spec.Legal.{is_work}
use Rattle.mesa_write_turns.specs.mesa_history_spec.Machine.{Claim}
use Rattle.mesa_write_turns.specs.mesa_history_spec.Refused.{is_refusal}
use Rattle.mesa_write_turns.specs.mesa_history_spec.Replay.{claim_asked, is_skip}
use Rattle.mesa_write_turns.specs.mesa_history_spec.Run.{First, Granted, Finished}
use Rattle.mesa_write_turns.specs.mesa_history_spec.Turns.{IsDue}
use Rattle.mesa_lease.specs.Book.{granted}
use Rattle.mesa_model.specs.Entry.{IsShort}
use Rattle.mesa_model.specs.declared.commands.Command.{Command}
use Rattle.mesa_model.specs.declared.entries.Kind.TheVariants as kind
use Rattle.mesa_model.specs.declared.entries.Outcome.TheVariants as outcome
use Rattle.mesa_write_turns.specs.mesa_history_spec.Rows.{Rows, no_rows}
use Rattle.mesa_open_files.specs.Opening.{Counted}
use Rattle.mesa_open_files.specs.declared.opening.Unopened.{Unopened}
use Rattle.mesa_write_turns.specs.mesa_invariant_spec.Causes.{Cause, Unwritten, is_read_fault, outcome_of, reply_of, told_at}
use Rattle.mesa_write_turns.specs.mesa_invariant_spec.Turns.{AnswersDisk, Shown, SomeRose, Takes, entry, faults_of}
use Rattle.mesa_write_turns.specs.mesa_invariant_spec.Invariant.{Counts, run_at}
use Rattle.mesa_write_turns.specs.mesa_invariant_spec.Works.{HasNoClaim}
use Rattle.mesa_write_turns.proofs.mesa_invariant_spec.Faulting.{disk_caused, disk_counted}
use Rattle.mesa_engine.specs.EngineState.{books_of}
use Rattle.mesa_engine.specs.Turned.{leased_state}
use Rattle.mesa_engine.specs.Vault.{IsVault, Starts, outset_of}
use Rattle.mesa_engine.proofs.BeforeTurns.{vault_at_seen}
use Rattle.mesa_engine.specs.declared.log.Log.{Log}
use Rattle.mesa_engine.specs.Printing.{PrintsBlock}
use Rattle.mesa_engine.specs.Memory.{Memory, with_leases}
use Rattle.mesa_engine.specs.Engine.{IsEngine}
use Rattle.mesa_work_turns.specs.Claims.{cause_unopened}
use Rattle.mesa_work_turns.proofs.Grants.{answers, fault_counts, granted_engine, granted_takes, has_no_claim, never_unwritten, ungranted_engine, ungranted_takes}

-- The claim is granted: the engine is kept, the session's command has the claim, a fault of the disk would be answered only where one of its counts rose, and this is the vault behind the turn.
pub record IsGrant {K : Type 0} (held : K → Option (List ℕ)) (faults : K → ℕ) (n : Starts) (turns sinks : ℕ) (m after : Memory) (story new : Story) (old seen : Shown) (later : Log K) (s number at : ℕ) (claim : Claim) : Type 0 where
  pub kept : IsEngine held faults n turns sinks after new later
  pub takes : Takes n.script (n.start no_rows) old seen s number kind.Grant (Granted claim)
  pub disk : AnswersDisk n.script (n.start no_rows) old seen (SomeRose (faults_of story) (faults_of new))
  pub behind : (w : Rows) (b : Bool) → (IsTrue b → n.sound w) → IsVault (outset_of n w) (n.origin w) b (leased_state m.state (granted claim.table at m.state.leases)) new (held later.printer.sink) later.history.items (not later.printer.broken) later.refused

-- A file couldn't be opened: the engine is kept, the session's command is over, and a fault of the disk is answered only where one of its counts rose.
pub record IsNoGrant {K : Type 0} (held : K → Option (List ℕ)) (faults : K → ℕ) (n : Starts) (turns sinks : ℕ) (m : Memory) (story new : Story) (old seen : Shown) (later : Log K) (s number : ℕ) : Type 0 where
  pub kept : IsEngine held faults n turns sinks m new later
  pub takes : Takes n.script (n.start no_rows) old seen s number kind.Grant Finished
  pub disk : AnswersDisk n.script (n.start no_rows) old seen (SomeRose (faults_of story) (faults_of new))

module _ {K : Type 0} (held : K → Option (List ℕ)) (faults : K → ℕ) (n : Starts) (turns sinks : ℕ) (m : Memory) (story new : Story) (log later : Log K) (v : IsEngine held faults n turns sinks m story log) (unmoved : Unmoved story new)
    (s number : ℕ) (c : Command) (one : is_work c ≡ true) (mo : ℕ) (moment : mo ≡ new.moment) (ran : not log.printer.broken ≡ true) (at : ℕ) (place : at ≡ length log.history.items)
    (due : (w : Rows) → IsDue n.script (run_at n.script (n.start w) log.history.items) s number c First) (roomy : vec_capacity log.history ≤ vec_capacity later.history)
    (claim : Claim) (asked : claim_asked (books_of no_rows m.state).bare (books_of no_rows m.state).machine at c ≡ Ok claim) where
  abbrev old : Shown
  old = record { history = log.history.items; running = not log.printer.broken; clock = story.moment }

  abbrev seen : Shown
  seen = record { history = later.history.items; running = not later.printer.broken; clock = new.moment }

  pub is_grant : (after : Memory) → after ≡ with_leases (granted claim.table at m.state.leases) (at + 1) m → Counted story new false → IsShort (entry s number kind.Grant outcome.Stands mo)
      → later.history.items ≡ log.history.items ++ entry s number kind.Grant outcome.Stands mo ∷ [] → later.printer ≡ log.printer → later.refused ≡ log.refused → IsGrant held faults n turns sinks m after story new old seen later s number at claim
  is_grant after gives counted short grew printer refused =
      let counts = fault_counts story new false counted in
      let kept = granted_engine held faults n turns sinks m story new log later v unmoved s number short.session short.command c one mo moment ran at place due roomy claim after asked counts gives grew printer refused in
      record {
        kept = kept;
        takes = granted_takes (outset_of n no_rows) (n.origin no_rows) false m.state story (held log.printer.sink) log.history.items (not log.printer.broken) log.refused (v.vault no_rows false (λ z. absurd cc)) s number short.session short.command c one ran at place (due no_rows) new unmoved story.moment seen refl
            (vault_at_seen n after.state new (held later.printer.sink) later.history.items (not later.printer.broken) later.refused new.moment kept.vault)
            claim asked (grew ∙ ap (λ x. log.history.items ++ entry s number kind.Grant outcome.Stands x ∷ []) moment);
        disk = disk_counted n.script (n.start no_rows) old seen (entry s number kind.Grant outcome.Stands mo) grew story new refl counts;
        behind = λ w b sound. subst (λ (x : Memory). IsVault (outset_of n w) (n.origin w) b x.state new (held later.printer.sink) later.history.items (not later.printer.broken) later.refused) gives (kept.vault w b sound);
      }

  pub is_no_grant : m.state.closed ≡ None → (e : Unopened) (cause : Cause) → cause ≡ cause_unopened e → Counts story new (is_read_fault (cause_unopened e)) → IsShort (entry s number kind.Grant (outcome_of cause) mo)
      → later.history.items ≡ log.history.items ++ entry s number kind.Grant (outcome_of cause) mo ∷ [] → PrintsBlock held faults log.printer later.printer (entry s number kind.Grant (outcome_of cause) mo) (told_at at (reply_of cause)) → later.refused ≡ (log.refused || is_refusal (reply_of cause))
      → IsNoGrant held faults n turns sinks m story new old seen later s number
  is_no_grant open' e cause is counts short grew prints refused =
      let answer = claim_asked (books_of no_rows m.state).bare (books_of no_rows m.state).machine at c in
      let has = subst (HasNoClaim (books_of no_rows m.state) answer) (sym is) (has_no_claim m.state answer claim e open' asked) in
      let counted = subst (λ x. Counts story new (is_read_fault x)) (sym is) counts in
      let kept = ungranted_engine held faults n turns sinks m story new log later v unmoved s number short.session short.command c one mo moment ran at place due roomy cause has counted grew prints refused in
      record {
        kept = kept;
        takes = ungranted_takes (outset_of n no_rows) (n.origin no_rows) false m.state story (held log.printer.sink) log.history.items (not log.printer.broken) log.refused (v.vault no_rows false (λ z. absurd cc)) s number short.session short.command c one ran at place (due no_rows) new unmoved story.moment seen refl
            (vault_at_seen n m.state new (held later.printer.sink) later.history.items (not later.printer.broken) later.refused new.moment kept.vault)
            cause has (ap (λ x. is_skip (outcome_of x)) is ∙ answers e) (grew ∙ ap (λ x. log.history.items ++ entry s number kind.Grant (outcome_of cause) x ∷ []) moment);
        disk = disk_caused n.script (n.start no_rows) old seen (entry s number kind.Grant (outcome_of cause) mo) grew story new refl cause refl counted (λ low (unwritten : cause ≡ Unwritten). absurd (never_unwritten e (sym is ∙ unwritten)));
      }
