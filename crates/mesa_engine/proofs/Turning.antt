-- An engine with one entry more.
use Rattle.std.proofs.Common.{◌≡◌, ℕ, ◌+◌, ◌≤◌, List, [], ◌∷◌, ◌++◌, length, Bool, true, false, ◌||◌, not, refl, sym, ◌∙◌, ap, subst, arith, Option, Some}
use Rattle.std.specs.Prelude.{vec_capacity}
use Rattle.std.specs.List.{AllByRecursion}
use Rattle.std.proofs.lemmas.List.{length-append}
use Rattle.mesa_io.specs.Causes.{Rose}
use Rattle.mesa_disk.specs.Story.{Story, Unmoved}
use Rattle.mesa_model.specs.declared.commands.Command.{Command}
use Rattle.mesa_model.specs.declared.commands.Script.{Script}
use Rattle.mesa_model.specs.declared.entries.Entry.{Entry}
use Rattle.mesa_model.specs.declared.entries.Kind.{Kind}
use Rattle.mesa_model.specs.declared.entries.Outcome.TheVariants as outcome
use Rattle.mesa_invariant_spec.proofs.mesa_history_spec.Finding.{all_more}
use Rattle.mesa_invariant_spec.proofs.mesa_history_spec.Turns.{turn_goes}
use Rattle.mesa_invariant_spec.specs.mesa_history_spec.Run.{State, Stage, Told, begins, place_of}
use Rattle.mesa_invariant_spec.specs.mesa_history_spec.Turns.{IsDue, place_then}
use Rattle.mesa_invariant_spec.specs.mesa_history_spec.Output.{block}
use Rattle.mesa_print.specs.declared.printer.Printer.{Printer}
use Rattle.mesa_invariant_spec.specs.mesa_history_spec.Rows.{Rows, no_rows}
use Rattle.mesa_invariant_spec.specs.Printing.{IsPut}
use Rattle.mesa_invariant_spec.specs.Turns.{Shown, IsSeen, Takes, entry}
use Rattle.mesa_invariant_spec.specs.Undamaged.{NoneDamaged, is_damaged}
use Rattle.mesa_invariant_spec.specs.Invariant.{Counts, run_at}
use Rattle.mesa_engine.specs.declared.log.Log.{Log}
use Rattle.mesa_engine.specs.Printing.{GoesOn, PrintsBlock}
use Rattle.mesa_engine.proofs.Printing.{same_goes}
use Rattle.mesa_engine.specs.Vault.{Starts, IsVaultAt, outset_of}
use Rattle.mesa_engine.proofs.BeforeTurns.{unmoved_vault}
use Rattle.mesa_engine.specs.Memory.{Memory}
use Rattle.mesa_engine.specs.Engine.{IsEngine}

-- the sink of a printer that goes on
module _ {K : Type 0} (faults : K → ℕ) (sinks : ℕ) (old new : Printer K) (goes : GoesOn faults old new) (failed : old.broken ≡ true → Rose sinks (faults old.sink)) (whole : old.broken ≡ false → faults old.sink ≡ sinks) where
  still_whole : new.broken ≡ false → faults new.sink ≡ sinks
  still_whole is = goes.quiet (is ∙ sym (goes.still is)) ∙ whole (goes.still is)

  has_failed : new.broken ≡ true → Rose sinks (faults new.sink)
  has_failed is = by old.broken refl
    where
      by : (b : Bool) → old.broken ≡ b → Rose sinks (faults new.sink)
      by true was = subst (λ x. Rose sinks x) (sym (goes.quiet (is ∙ sym was))) (failed was)
      by false was = subst (λ x. Rose x (faults new.sink)) (whole was) (goes.cause was is)

module _ {K : Type 0} (held : K → Option (List ℕ)) (faults : K → ℕ) (n : Starts) (turns sinks : ℕ) (m after : Memory) (story new : Story) (log later : Log K) (e : Entry) (v : IsEngine held faults n turns sinks m story log)
    (grew : later.history.items ≡ log.history.items ++ e ∷ []) (roomy : vec_capacity log.history ≤ vec_capacity later.history) (moment : e.moment ≡ new.moment) (passes : story.moment ≤ new.moment) (leased : after.leased ≤ length log.history.items + 1)
    (undamaged : (w : Rows) → n.sound w → is_damaged e.outcome ≡ false) where
  longer : length later.history.items ≡ length log.history.items + 1
  longer = ap length grew ∙ length-append log.history.items (e ∷ [])

  since : n.since ≤ e.moment
  since = let before = (v.vault no_rows false (λ is. absurd cc)).invariant.begun in omega (arith, before, passes, moment)

  -- a turn
  pub turned_engine : GoesOn faults log.printer later.printer → IsVaultAt n after.state new (held later.printer.sink) (log.history.items ++ e ∷ []) (not later.printer.broken) later.refused → IsEngine held faults n turns sinks after new later
  turned_engine goes vault = record {
    vault = subst (λ h. IsVaultAt n after.state new (held later.printer.sink) h (not later.printer.broken) later.refused) (sym grew) vault;
    room = omega (arith, v.room, roomy);
    few = v.few;
    leased = omega (arith, leased, longer);
    begun = subst (AllByRecursion (λ x. n.since ≤ x.moment)) (sym grew) (all_more (λ x. n.since ≤ x.moment) log.history.items e v.begun since);
    failed = has_failed faults sinks log.printer later.printer goes v.failed v.whole;
    whole = still_whole faults sinks log.printer later.printer goes v.failed v.whole;
    first = λ none. absurd (let empty : length later.history.items ≡ 0 = ap length none in omega (arith, empty, longer));
    undamaged = λ w sound. subst NoneDamaged (sym grew) (all_more (λ (x : Entry). is_damaged x.outcome ≡ false) log.history.items e (v.undamaged w sound) (undamaged w sound));
  }

  -- a turn that prints nothing
  pub passed_engine : later.printer ≡ log.printer → later.refused ≡ log.refused → IsVaultAt n after.state new (held log.printer.sink) (log.history.items ++ e ∷ []) (not log.printer.broken) log.refused → IsEngine held faults n turns sinks after new later
  passed_engine printer refused vault =
      turned_engine (same_goes faults log.printer later.printer printer)
      (subst (λ (p : Printer K). IsVaultAt n after.state new (held p.sink) (log.history.items ++ e ∷ []) (not p.broken) later.refused) (sym printer)
      (subst (IsVaultAt n after.state new (held log.printer.sink) (log.history.items ++ e ∷ []) (not log.printer.broken)) (sym refused) vault))

  -- a turn that prints its block
  pub told_engine : (told : Told) (refuses : Bool) → PrintsBlock held faults log.printer later.printer e told → later.refused ≡ (log.refused || refuses)
      → (IsPut (block e (Some told)) (not later.printer.broken) (held log.printer.sink) (held later.printer.sink) → IsVaultAt n after.state new (held later.printer.sink) (log.history.items ++ e ∷ []) (not later.printer.broken) (log.refused || refuses))
      → IsEngine held faults n turns sinks after new later
  told_engine told refuses tells refused vault =
      turned_engine tells.goes (subst (IsVaultAt n after.state new (held later.printer.sink) (log.history.items ++ e ∷ []) (not later.printer.broken)) (sym refused) (vault tells.put))

-- ---- between turns

-- Readers that are given back keep an engine.
pub unmoved_engine : {K : Type 0} (held : K → Option (List ℕ)) (faults : K → ℕ) (n : Starts) (turns sinks : ℕ) (m : Memory) (story new : Story) (log : Log K) → Unmoved story new → Counts story new false → IsEngine held faults n turns sinks m story log → IsEngine held faults n turns sinks m new log
unmoved_engine held faults n turns sinks m story new log same counts v = record {
  vault = λ w b is. unmoved_vault (outset_of n w) (n.origin w) b m.state story new (held log.printer.sink) log.history.items (not log.printer.broken) log.refused same counts (v.vault w b is);
  room = v.room;
  few = v.few;
  leased = v.leased;
  begun = v.begun;
  failed = v.failed;
  whole = v.whole;
  first = v.first;
  undamaged = v.undamaged;
}

-- ---- places

-- A turn that is skipped cuts its session off, whatever stage it would have come to.
pub skipped_takes : (script : Script) (start : State) (old new : Shown) (s number : ℕ) (c : Command) (stage : Stage) (k : Kind) (to : Stage) → IsDue script (run_at script start old.history) s number c stage
    → new.history ≡ old.history ++ entry s number k outcome.Skipped new.clock ∷ [] → old.running ≡ false → (new.running ≡ true → old.running ≡ true) → IsSeen script start new → Takes script start old new s number k to
skipped_takes script start old new s number c stage k to due grew failed still seen = record {
  turn = record { outcome = outcome.Skipped; grew = grew; skipped = ap not (sym failed); still = still };
  place = ap (λ h. place_of (run_at script start h) s) grew ∙ turn_goes script (begins start) old.history (entry s number k outcome.Skipped new.clock) c stage due to (λ is. absurd (let never : true ≡ false = is in cc)) ∙ ap (λ b. place_then b number to) (ap not (sym failed));
  seen = seen;
}
