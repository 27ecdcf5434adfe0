-- What is due hangs on a start's projection alone, where no answer is open.
use Rattle.std.proofs.Common.{◌≡◌, ℕ, List, Bool, false, not, ◌&&◌, ◌==◌, IsTrue, refl, sym, ◌∙◌, ap, subst}
use Rattle.mesa_history_spec.specs.mesa_model.declared.commands.Command.{Command}
use Rattle.mesa_history_spec.specs.mesa_model.declared.commands.Script.{Script}
use Rattle.mesa_history_spec.specs.mesa_model.Warehouse.{Table, table_at}
use Rattle.mesa_history_spec.specs.mesa_model.declared.entries.Entry.{Entry}
use Rattle.mesa_history_spec.specs.Run.{State, Stage, First, Looked, Answered, Granted, Renewed, Finished, CutOff, Place, Run, place_of, begins}
use Rattle.mesa_history_spec.specs.Law.{begun_at}
use Rattle.mesa_history_spec.specs.Legal.{is_answered}
use Rattle.mesa_history_spec.specs.Turns.{IsDue}
use Rattle.mesa_history_spec.specs.Bare.{bare_state, bare_stage, bare_place, bare_run}
use Rattle.mesa_history_spec.proofs.Alike.{runs_alike}
use Rattle.mesa_history_spec.proofs.BareSteps.{table_bare}
use Rattle.mesa_invariant_spec.specs.Turns.{Asks}
use Rattle.mesa_invariant_spec.specs.Invariant.{run_at}

answered_bare : (s : Stage) → is_answered (bare_stage s) ≡ is_answered s
answered_bare First = refl
answered_bare Looked = refl
answered_bare (Answered at answer) = refl
answered_bare (Granted claim) = refl
answered_bare (Renewed claim) = refl
answered_bare Finished = refl
answered_bare CutOff = refl

stage_bare : (s : Stage) → is_answered s ≡ false → bare_stage s ≡ s
stage_bare First is = refl
stage_bare Looked is = refl
stage_bare (Answered at answer) is = cc
stage_bare (Granted claim) is = refl
stage_bare (Renewed claim) is = refl
stage_bare Finished is = refl
stage_bare CutOff is = refl

stage_is : (a b : Stage) → is_answered b ≡ false → bare_stage a ≡ bare_stage b → a ≡ b
stage_is a b is same = sym (stage_bare a (sym (answered_bare a) ∙ ap is_answered same ∙ answered_bare b ∙ is)) ∙ same ∙ stage_bare b is

-- what is due of one start is due of each other one with its projection
pub due_alike : (script : Script) (a b : State) (h : List Entry) (s n : ℕ) (c : Command) (stage : Stage) → bare_state a ≡ bare_state b → is_answered stage ≡ false → IsDue script (run_at script a h) s n c stage → IsDue script (run_at script b h) s n c stage
unfolding place_of
due_alike script a b h s n c stage same unanswered due =
    let runs_same : bare_run (run_at script a h) ≡ bare_run (run_at script b h) = runs_alike script (begins a) (begins b) h (ap begins same) in
    let place : bare_place (place_of (run_at script b h) s) ≡ bare_place (record { number = n; stage = stage }) = sym (ap (λ (x : Run). x.places s) runs_same) ∙ ap bare_place due.place in
    let at : (place_of (run_at script b h) s).number ≡ n = ap (λ (p : Place). p.number) place in
    let is : (place_of (run_at script b h) s).stage ≡ stage = stage_is _ stage unanswered (ap (λ (p : Place). p.stage) place) in
    record {
      known = due.known;
      place = λ i. record { number = at i; stage = is i };
      prologue = subst (λ (x : Run). IsTrue (not (x.prologue_over && (s == 0)))) runs_same due.prologue;
    }

pub asks_alike : (script : Script) (a b : State) (h : List Entry) (s n : ℕ) (stage : Stage) (sort : Command → Bool) → bare_state a ≡ bare_state b → is_answered stage ≡ false → Asks script (run_at script a h) s n stage sort → Asks script (run_at script b h) s n stage sort
asks_alike script a b h s n stage sort same unanswered asks = record { asked = asks.asked; is = asks.is; due = due_alike script a b h s n asks.asked stage same unanswered asks.due }

-- a table's columns begin at the same epoch
pub begun_alike : (script : Script) (a b : State) (h : List Entry) (table : ℕ) → bare_state a ≡ bare_state b → begun_at (run_at script b h).state.warehouse table ≡ begun_at (run_at script a h).state.warehouse table
begun_alike script a b h table same =
    let runs_same : bare_run (run_at script a h) ≡ bare_run (run_at script b h) = runs_alike script (begins a) (begins b) h (ap begins same) in
    ap (λ (t : Table). t.lineage.begins) (sym (table_bare (run_at script b h).state.warehouse.store table))
    ∙ ap (λ (x : Run). (table_at x.state.warehouse.store table).lineage.begins) (sym runs_same)
    ∙ ap (λ (t : Table). t.lineage.begins) (table_bare (run_at script a h).state.warehouse.store table)
