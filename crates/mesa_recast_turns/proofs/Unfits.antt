-- How the close of a recast that isn't done keeps a vault.
use Rattle.std.proofs.Common.{◌≡◌, ◌∙◌, ℕ, ◌+◌, ◌<◌, ◌≤◌, ◌^◌, List, [], ◌∷◌, ◌++◌, length, Bool, true, false, ◌||◌, not, refl, sym, ap, subst, arith, Option, Some, Ok, Err}
use Rattle.std.specs.Prelude.{vec_capacity}
use Rattle.mesa_disk.specs.Story.{Story}
use Rattle.mesa_work_turns.specs.mesa_history_spec.Counting.{answers_bench, answers_disk}
use Rattle.mesa_work_turns.specs.mesa_history_spec.Machine.{Claim, Recasts, claim_checked, still_checked}
use Rattle.mesa_work_turns.specs.mesa_schema.Recasts.{Recast as Asked}
use Rattle.mesa_work_turns.specs.mesa_history_spec.Refused.{is_refusal}
use Rattle.mesa_work_turns.specs.mesa_history_spec.Run.{Renewed}
use Rattle.mesa_work_turns.specs.mesa_history_spec.Turns.{IsDue}
use Rattle.mesa_lease.specs.Book.{ended}
use Rattle.mesa_engine.specs.EngineState.{EngineState, books_of}
use Rattle.mesa_engine.specs.Vault.{Starts, IsVault, outset_of}
use Rattle.mesa_engine.proofs.Staying.{leased_vault, still_vault}
use Rattle.mesa_engine.proofs.Swapping.{ended_granted}
use Rattle.mesa_engine.specs.declared.log.Log.{Log}
use Rattle.mesa_engine.specs.Printing.{PrintsBlock}
use Rattle.mesa_engine.specs.Memory.{Memory, with_state}
use Rattle.mesa_model.specs.declared.commands.Command.TheVariants as command
use Rattle.mesa_model.specs.declared.commands.RecastWords.{RecastWords}
use Rattle.mesa_model.specs.declared.entries.Entry.{Entry}
use Rattle.mesa_model.specs.Warehouse.{table_at}
use Rattle.mesa_model.specs.declared.entries.Kind.TheVariants as kind
use Rattle.mesa_model.specs.declared.entries.Outcome.TheVariants as outcome
use Rattle.mesa_work_turns.specs.mesa_history_spec.Output.{block}
use Rattle.mesa_work_turns.specs.mesa_history_spec.Rows.{Rows, no_rows}
use Rattle.mesa_work_turns.specs.mesa_invariant_spec.Books.{Books}
use Rattle.mesa_work_turns.specs.mesa_invariant_spec.Causes.{Cause, outcome_of, reply_of, told_at}
use Rattle.mesa_work_turns.specs.mesa_invariant_spec.Printing.{IsPut}
use Rattle.mesa_work_turns.specs.mesa_invariant_spec.Turns.{entry}
use Rattle.mesa_work_turns.specs.mesa_invariant_spec.Undamaged.{is_damaged}
use Rattle.mesa_work_turns.specs.mesa_invariant_spec.Invariant.{run_at, run_of}
use Rattle.mesa_work_turns.proofs.mesa_invariant_spec.Turning.{counts_same, stays}
use Rattle.mesa_work_turns.proofs.mesa_invariant_spec.Recasting.{changed_turn}
use Rattle.mesa_work_turns.proofs.mesa_invariant_spec.Working.{lost_turn, starved_turn}
use Rattle.mesa_engine.specs.Engine.{IsEngine}
use Rattle.mesa_engine.proofs.Turning.{told_engine}
use Rattle.mesa_recast_turns.specs.Unfit.{HasNotRecast, cause_unfit, unfit_state}
use Rattle.mesa_recast_turns.specs.declared.checking.Unfit.{Unfit}
use Rattle.mesa_recast_turns.specs.declared.checking.Unfit.TheVariants as why

-- ---- the vault behind it

module _ (n : Starts) (w : Rows) (sound : Bool) (l : EngineState) (story : Story) (held : Option (List ℕ)) (h : List Entry) (running refused : Bool) (v : IsVault (outset_of n w) (n.origin w) sound l story held h running refused)
    (s number : ℕ) (low : s < 2 ^ 16) (few : number < 2 ^ 32) (words : RecastWords) (m : ℕ) (moment : m ≡ story.moment) (ran : running ≡ true) (at : ℕ) (place : at ≡ length h) (claim : Claim) (epoch : ℕ) (recast : Asked) (errand : claim.errand ≡ Recasts epoch recast) (due : IsDue n.script (run_of (outset_of n w) h) s number (command.Recast words) (Renewed claim))
    (now : Bool) (new_held : Option (List ℕ)) where
  few_granted : (ended claim.table claim.lease l.leases).granted ≤ l.leases.granted + 1
  few_granted = subst (λ q. q ≤ l.leases.granted + 1) (sym (ended_granted claim.table claim.lease l.leases)) (omega arith)

  pub unfit_vault : (e : Unfit) → HasNotRecast (books_of no_rows l) at claim epoch recast e → IsPut (block (entry s number kind.Close (outcome_of (cause_unfit e)) m) (Some (told_at at (reply_of (cause_unfit e))))) now held new_held
      → IsVault (outset_of n w) (n.origin w) sound (unfit_state e claim.table claim.lease l) story new_held (h ++ entry s number kind.Close (outcome_of (cause_unfit e)) m ∷ []) now (refused || is_refusal (reply_of (cause_unfit e)))
  unfit_vault (why.Lost x) has put =
      still_vault (outset_of n w) (n.origin w) sound l story held h running refused v (entry s number kind.Close (outcome_of (cause_unfit (why.Lost x))) m) story new_held now (refused || true) (stays story)
      (lost_turn (outset_of n w) sound (books_of v.rows l) story held h running refused v.invariant s number low few (command.Recast words) refl m ran at place moment story (stays story) claim due x has (counts_same story) now new_held put)
  unfit_vault (why.Changed x) has put =
      leased_vault (outset_of n w) (n.origin w) sound l story held h running refused v (entry s number kind.Close (outcome_of (cause_unfit (why.Changed x))) m) story new_held now (refused || true) (stays story) (ended claim.table claim.lease l.leases) few_granted
      (changed_turn (outset_of n w) sound (books_of v.rows l) story held h running refused v.invariant s number low few (command.Recast words) refl m ran at place claim epoch recast errand due has.0 x has.1 moment story (stays story) (counts_same story) now new_held put)
  unfit_vault why.Memory has put =
      leased_vault (outset_of n w) (n.origin w) sound l story held h running refused v (entry s number kind.Close (outcome_of (cause_unfit why.Memory)) m) story new_held now (refused || true) (stays story) (ended claim.table claim.lease l.leases) few_granted
      (starved_turn (outset_of n w) sound (books_of v.rows l) story held h running refused v.invariant s number low few (command.Recast words) refl m ran at place moment story (stays story) claim due has (counts_same story) now new_held put)

-- no damage keeps a table from being recast
refused_undamaged : (e : Unfit) → is_damaged (outcome_of (cause_unfit e)) ≡ false
refused_undamaged (why.Lost refusal) = refl
refused_undamaged (why.Changed refusal) = refl
refused_undamaged why.Memory = refl

-- ---- the engine behind it

module _ {K : Type 0} (held : K → Option (List ℕ)) (faults : K → ℕ) (n : Starts) (turns sinks : ℕ) (m after : Memory) (story : Story) (log later : Log K) (v : IsEngine held faults n turns sinks m story log)
    (s number : ℕ) (low : s < 2 ^ 16) (few : number < 2 ^ 32) (words : RecastWords) (mo : ℕ) (moment : mo ≡ story.moment) (ran : not log.printer.broken ≡ true) (claim : Claim) (epoch : ℕ) (recast : Asked) (errand : claim.errand ≡ Recasts epoch recast)
    (due : (w : Rows) → IsDue n.script (run_at n.script (n.start w) log.history.items) s number (command.Recast words) (Renewed claim)) (e : Unfit) (has : HasNotRecast (books_of no_rows m.state) (length log.history.items) claim epoch recast e)
    (cause : Cause) (cause_is : cause ≡ cause_unfit e)
    (grew : later.history.items ≡ log.history.items ++ entry s number kind.Close (outcome_of cause) mo ∷ []) (roomy : vec_capacity log.history ≤ vec_capacity later.history)
    (is : after ≡ with_state (unfit_state e claim.table claim.lease m.state) m) where
  pub unfit_engine : PrintsBlock held faults log.printer later.printer (entry s number kind.Close (outcome_of cause) mo) (told_at (length log.history.items) (reply_of cause)) → later.refused ≡ (log.refused || is_refusal (reply_of cause)) → IsEngine held faults n turns sinks after story later
  unfit_engine prints refused =
      told_engine held faults n turns sinks m after story story log later (entry s number kind.Close (outcome_of cause) mo) v grew roomy moment (omega arith) (let same = ap (λ (x : Memory). x.leased) is in omega (arith, same, v.leased)) (λ w sound. ap (λ k. is_damaged (outcome_of k)) cause_is ∙ refused_undamaged e) (told_at (length log.history.items) (reply_of cause)) (is_refusal (reply_of cause)) prints refused
      (λ put w b ok.
      subst (λ (x : Memory). IsVault (outset_of n w) (n.origin w) b x.state story (held later.printer.sink) (log.history.items ++ entry s number kind.Close (outcome_of cause) mo ∷ []) (not later.printer.broken) (log.refused || is_refusal (reply_of cause))) (sym is)
      (subst (λ (x : Cause). IsPut (block (entry s number kind.Close (outcome_of x) mo) (Some (told_at (length log.history.items) (reply_of x)))) (not later.printer.broken) (held log.printer.sink) (held later.printer.sink)
      → IsVault (outset_of n w) (n.origin w) b (unfit_state e claim.table claim.lease m.state) story (held later.printer.sink) (log.history.items ++ entry s number kind.Close (outcome_of x) mo ∷ []) (not later.printer.broken) (log.refused || is_refusal (reply_of x))) (sym cause_is)
      (unfit_vault n w b m.state story (held log.printer.sink) log.history.items (not log.printer.broken) log.refused (v.vault w b ok) s number low few words mo moment ran (length log.history.items) refl claim epoch recast errand (due w) (not later.printer.broken) (held later.printer.sink) e has) put))

-- ---- faults

-- no file was being built
pub no_draft : (closing : Bool) (u : Unfit) → answers_bench closing (outcome_of (cause_unfit u)) ≡ false
no_draft closing (why.Lost refusal) = refl
no_draft closing (why.Changed refusal) = refl
no_draft closing why.Memory = refl

-- nor a fault of the disk
pub no_fault : (closing : Bool) (u : Unfit) → answers_disk closing (outcome_of (cause_unfit u)) ≡ false
no_fault closing (why.Lost refusal) = refl
no_fault closing (why.Changed refusal) = refl
no_fault closing why.Memory = refl

-- ---- where its turn stands

-- Where its turn stands, its claim didn't hold, or the rules didn't allow it any more.
pub not_done : (books : Books) (at : ℕ) (claim : Claim) (epoch : ℕ) (r : Asked) (u : Unfit) → HasNotRecast books at claim epoch r u → outcome_of (cause_unfit u) ≡ outcome.Stands
    → claim_checked books.bare books.machine at claim ≡ Ok tt → still_checked (table_at books.bare.store claim.table).lineage epoch r ≡ Ok tt → ⊥
not_done books at claim epoch r (why.Lost x) has stands holds still = let is : claim_checked books.bare books.machine at claim ≡ Err x = has in cc
not_done books at claim epoch r (why.Changed x) has stands holds still = let is : still_checked (table_at books.bare.store claim.table).lineage epoch r ≡ Err x = has.1 in cc
not_done books at claim epoch r why.Memory has stands holds still = let is : outcome.Memory ≡ outcome.Stands = stands in cc
