-- Turns that read the books alone: a load's look, and an explain.
use Rattle.std.proofs.Common.{◌≡◌, ℕ, ◌<◌, ◌^◌, List, length, Bool, true, false, not, ◌||◌, IsTrue, refl, sym, ◌∙◌, ap, Option, Some, Ok}
use Rattle.std.specs.Prelude.{is_none}
use Rattle.mesa_disk.specs.Story.{Story}
use Rattle.mesa_history_spec.specs.mesa_batch.declared.words.RowWords.{RowWords}
use Rattle.mesa_history_spec.specs.mesa_model.declared.commands.Command.TheVariants as command
use Rattle.mesa_history_spec.specs.mesa_model.declared.commands.ExplainWords.{ExplainWords}
use Rattle.mesa_history_spec.specs.mesa_model.declared.entries.Entry.{Entry}
use Rattle.mesa_history_spec.specs.mesa_model.declared.entries.Kind.TheVariants as kind
use Rattle.mesa_history_spec.specs.mesa_model.declared.entries.Outcome.{Outcome}
use Rattle.mesa_history_spec.specs.mesa_model.declared.entries.Outcome.TheVariants as outcome
use Rattle.mesa_history_spec.specs.mesa_model.declared.replies.Reply.{Reply}
use Rattle.mesa_history_spec.specs.Machine.{explained}
use Rattle.mesa_history_spec.specs.Run.{First, Looked, Run}
use Rattle.mesa_history_spec.specs.Replay.{decided_explain, prints}
use Rattle.mesa_history_spec.specs.Legal.{is_written}
use Rattle.mesa_history_spec.specs.Refused.{is_refusal}
use Rattle.mesa_history_spec.specs.Turns.{IsDue}
use Rattle.mesa_history_spec.specs.Output.{block}
use Rattle.mesa_history_spec.proofs.BareSteps.{explain-bare}
use Rattle.mesa_invariant_spec.specs.Books.{Books}
use Rattle.mesa_invariant_spec.specs.Causes.{Cause, Replies, Unread, Damaged, Unwritten, NoMemory, outcome_of, reply_of, told_at}
use Rattle.mesa_invariant_spec.specs.Changes.{HasNoPlan}
use Rattle.mesa_invariant_spec.specs.Printing.{IsPut}
use Rattle.mesa_invariant_spec.specs.Turns.{entry, looking}
use Rattle.mesa_invariant_spec.specs.Invariant.{Outset, run_of, HoldsInvariant, KeepsInvariant}
use Rattle.mesa_invariant_spec.proofs.Coming.{fits_open, renewal_open, comes_standing, comes_without_memory}
use Rattle.mesa_invariant_spec.proofs.Turning.{stays, counts_same, opened, mute_turn, told_turn, cause_turn, puts_reply, skipped_turn}

look_fits : (a : Bool) → IsTrue (a || false || false || true || false)
look_fits true = refl
look_fits false = refl

module _ (o : Outset) (sound : Bool) (books : Books) (story : Story) (held : Option (List ℕ)) (h : List Entry) (running refused : Bool) (v : HoldsInvariant o sound books story held h running refused)
    (s n : ℕ) (low : s < 2 ^ 16) (few : n < 2 ^ 32) (m : ℕ) (moment : m ≡ story.moment) where
  abbrev r : Run
  r = run_of o h

  -- ---- a load's look

  module _ (rows : List RowWords) (due : IsDue o.script (run_of o h) s n (command.Load rows) First) where
    abbrev looks_with : Outcome → Entry
    looks_with out = entry s n kind.Look out m

    -- it found the tables, or no memory for them
    pub look_turn : (found : Bool) → KeepsInvariant o sound books story held h (looks_with (looking running found)) running refused
    look_turn found = by running found refl
      where
        by : (b f : Bool) → running ≡ b → KeepsInvariant o sound books story held h (looks_with (looking b f)) running refused
        by true true ran =
            mute_turn o sound books story held h running refused v (looks_with outcome.Stands) (command.Load rows) First due (record { session = low; command = few }) moment story (stays story)
            (comes_standing r (command.Load rows) First s n kind.Look m refl (renewal_open r.state.warehouse.closed First kind.Look outcome.Stands refl)) (ap not (sym ran)) r.state Looked refl (counts_same story) books v.state refl
        by true false ran =
            mute_turn o sound books story held h running refused v (looks_with outcome.Memory) (command.Load rows) First due (record { session = low; command = few }) moment story (stays story)
            (comes_without_memory r (command.Load rows) First s n kind.Look m refl refl (look_fits (is_none r.state.warehouse.closed))) (ap not (sym ran)) r.state Looked refl (counts_same story) books v.state refl
        by false f ran = skipped_turn o sound books story held h running refused v s n (command.Load rows) First kind.Look m due (record { session = low; command = few }) refl ran moment story (stays story) (counts_same story)

  -- ---- an explain

  module _ (words : ExplainWords) (due : IsDue o.script (run_of o h) s n (command.Explain words) First) (ran : running ≡ true) (at : ℕ) (place : at ≡ length h) where
    abbrev decides_with : Outcome → Entry
    decides_with out = entry s n kind.Decide out m

    plan_is : explained r.state.warehouse r.state.machine words ≡ explained books.bare books.machine words
    plan_is = explain-bare r.state.warehouse r.state.machine words ∙ (λ i. explained (v.state.projection i) (v.state.machine i) words)

    -- the ranges are printed
    pub explained_turn : (rep : Reply) → explained books.bare books.machine words ≡ Ok rep → is_written rep ≡ false → (now : Bool) (new_held : Option (List ℕ)) → IsPut (block (decides_with outcome.Stands) (Some (told_at at rep))) now held new_held
        → KeepsInvariant o sound books story new_held h (decides_with outcome.Stands) now (refused || is_refusal rep)
    explained_turn rep is silent now new_held put =
        told_turn o sound books story held h running refused v (decides_with outcome.Stands) (command.Explain words) First due (record { session = low; command = few }) moment story (stays story)
        (comes_standing r (command.Explain words) First s n kind.Decide m refl (renewal_open r.state.warehouse.closed First kind.Decide outcome.Stands refl)) ran refl r.state rep (ap (decided_explain r.position r.state) (plan_is ∙ is)) silent (counts_same story) now new_held
        (puts_reply o sound books story held h running refused v (decides_with outcome.Stands) rep at place refl now new_held put) books v.state refl

    -- they aren't
    pub unexplained_turn : (cause : Cause) → HasNoPlan books words cause → (now : Bool) (new_held : Option (List ℕ)) → IsPut (block (decides_with (outcome_of cause)) (Some (told_at at (reply_of cause)))) now held new_held
        → KeepsInvariant o sound books story new_held h (decides_with (outcome_of cause)) now (refused || is_refusal (reply_of cause))
    unexplained_turn (Replies rep) has now new_held put =
        cause_turn o sound books story held h running refused v (decides_with outcome.Stands) (command.Explain words) First due (record { session = low; command = few }) moment story (stays story)
        (comes_standing r (command.Explain words) First s n kind.Decide m refl (renewal_open r.state.warehouse.closed First kind.Decide outcome.Stands refl)) ran (Replies rep) refl tt refl r.state
        (ap (decided_explain r.position r.state) (plan_is ∙ has.1) ∙ ap (prints r.position r.state) (sym has.2)) (ap is_written has.2) (counts_same story) at place now new_held put books v.state refl
    unexplained_turn Unread has now new_held put = absurd has
    unexplained_turn (Damaged damage) has now new_held put = absurd has
    unexplained_turn Unwritten has now new_held put = absurd has
    unexplained_turn NoMemory has now new_held put =
        cause_turn o sound books story held h running refused v (decides_with outcome.Memory) (command.Explain words) First due (record { session = low; command = few }) moment story (stays story)
        (comes_without_memory r (command.Explain words) First s n kind.Decide m refl refl (fits_open r.state.warehouse.closed false false false false (opened o sound books story held h running refused v has))) ran NoMemory refl tt refl r.state refl refl (counts_same story) at place now new_held put books v.state refl
