-- Where a turn takes its session.
use Rattle.std.proofs.Common.{◌≡◌, ℕ, [], ◌∷◌, ◌++◌, Bool, true, false, not, IsTrue, refl, ◌∙◌, ap, Result, Ok, Err}
use Rattle.mesa_history_spec.specs.mesa_model.declared.commands.Command.{Command}
use Rattle.mesa_history_spec.specs.mesa_model.declared.commands.Command.TheVariants as command
use Rattle.mesa_history_spec.specs.mesa_model.declared.commands.Script.{Script}
use Rattle.mesa_history_spec.specs.mesa_model.declared.entries.Kind.{Kind}
use Rattle.mesa_history_spec.specs.mesa_model.declared.entries.Kind.TheVariants as kind
use Rattle.mesa_history_spec.specs.mesa_model.declared.entries.Outcome.{Outcome}
use Rattle.mesa_history_spec.specs.mesa_model.declared.entries.Outcome.TheVariants as outcome
use Rattle.mesa_history_spec.specs.mesa_model.declared.replies.Refusal.{Refusal}
use Rattle.mesa_history_spec.specs.mesa_model.declared.replies.Reply.{Reply}
use Rattle.mesa_history_spec.specs.mesa_model.Query.{Answer}
use Rattle.mesa_history_spec.specs.mesa_schema.Recasts.{Recast}
use Rattle.mesa_history_spec.specs.mesa_model.Warehouse.{table_at}
use Rattle.mesa_history_spec.specs.Machine.{Claim, Errand, Merges, Recasts, claim_checked, explained, still_checked}
use Rattle.mesa_history_spec.specs.Run.{State, Stage, First, Looked, Answered, Granted, Renewed, Finished, Run, begins}
use Rattle.mesa_history_spec.specs.Replay.{turn_of, decided_explain, completes, does, recasts, is_skip}
use Rattle.mesa_history_spec.specs.Run.{place_of}
use Rattle.mesa_history_spec.specs.Turns.{IsDue, place_then}
use Rattle.mesa_history_spec.proofs.Turns.{turn_goes}
use Rattle.mesa_invariant_spec.specs.Turns.{Shown, entry, IsTurn, IsSeen, Takes, is_load, is_simple, Asks}
use Rattle.mesa_invariant_spec.specs.Invariant.{run_at}
use Rattle.mesa_invariant_spec.specs.Works.{closing_stage}

recast_ends : (p : ℕ) (s : State) (claim : Claim) (r : Recast) (q : Result (Unit {0}) Refusal) → (recasts p s claim r q).stage ≡ Finished
recast_ends p s claim r (Ok ok) = refl
recast_ends p s claim r (Err e) = refl

done : (p : ℕ) (s : State) (claim : Claim) (errand : Errand) → (does p s claim errand).stage ≡ Finished
done p s claim (Merges work) = refl
done p s claim (Recasts epoch r) = recast_ends p s claim r (still_checked (table_at s.warehouse.store claim.table).lineage epoch r)

completed : (p : ℕ) (s : State) (claim : Claim) (q : Result (Unit {0}) Refusal) → (completes p s claim q).stage ≡ Finished
completed p s claim (Ok ok) = done p s claim claim.errand
completed p s claim (Err e) = refl

told_plan : (p : ℕ) (s : State) (q : Result Reply Refusal) → (decided_explain p s q).stage ≡ Finished
told_plan p s (Ok r) = refl
told_plan p s (Err e) = refl

-- ---- the stage that a turn leaves, whatever its outcome

module _ (r : Run) (c : Command) (s n m : ℕ) where
  look_ends : (o : Outcome) → is_skip o ≡ false → (turn_of r c (entry s n kind.Look o m) First o).stage ≡ Looked
  look_ends outcome.Stands is = refl
  look_ends outcome.Memory is = refl
  look_ends outcome.ReadFault is = refl
  look_ends outcome.WriteFault is = refl
  look_ends outcome.Damaged is = refl
  look_ends outcome.Skipped is = cc

  answered_ends : (at : ℕ) (answer : Answer) (o : Outcome) → is_skip o ≡ false → (turn_of r c (entry s n kind.Close o m) (Answered at answer) o).stage ≡ Finished
  answered_ends at answer outcome.Stands is = refl
  answered_ends at answer outcome.Memory is = refl
  answered_ends at answer outcome.ReadFault is = refl
  answered_ends at answer outcome.WriteFault is = refl
  answered_ends at answer outcome.Damaged is = refl
  answered_ends at answer outcome.Skipped is = cc

  renewed_ends : (claim : Claim) (o : Outcome) → is_skip o ≡ false → (turn_of r c (entry s n kind.Close o m) (Renewed claim) o).stage ≡ Finished
  renewed_ends claim outcome.Stands is = completed r.position r.state claim (claim_checked r.state.warehouse r.state.machine r.position claim)
  renewed_ends claim outcome.Memory is = refl
  renewed_ends claim outcome.ReadFault is = refl
  renewed_ends claim outcome.WriteFault is = refl
  renewed_ends claim outcome.Damaged is = refl
  renewed_ends claim outcome.Skipped is = cc

  granted_ends : (claim : Claim) (o : Outcome) → is_skip o ≡ false → (turn_of r c (entry s n kind.Close o m) (Granted claim) o).stage ≡ Finished
  granted_ends claim outcome.Stands is = completed r.position r.state claim (claim_checked r.state.warehouse r.state.machine r.position claim)
  granted_ends claim outcome.Memory is = refl
  granted_ends claim outcome.ReadFault is = refl
  granted_ends claim outcome.WriteFault is = refl
  granted_ends claim outcome.Damaged is = refl
  granted_ends claim outcome.Skipped is = cc

  -- a decided turn that doesn't stand
  refused_ends : (stage : Stage) (o : Outcome) → is_skip o ≡ false → ((o ≡ outcome.Stands) → (turn_of r c (entry s n kind.Decide outcome.Stands m) stage outcome.Stands).stage ≡ Finished) → (turn_of r c (entry s n kind.Decide o m) stage o).stage ≡ Finished
  refused_ends stage outcome.Stands is stands = stands refl
  refused_ends stage outcome.Memory is stands = refl
  refused_ends stage outcome.ReadFault is stands = refl
  refused_ends stage outcome.WriteFault is stands = refl
  refused_ends stage outcome.Damaged is stands = refl
  refused_ends stage outcome.Skipped is stands = cc

-- a load's deciding turn, and the one turn of a command that has no other
loaded_ends : (r : Run) (c : Command) (stage : Stage) (s n m : ℕ) → IsTrue (is_load c) → (turn_of r c (entry s n kind.Decide outcome.Stands m) stage outcome.Stands).stage ≡ Finished
loaded_ends r (command.Load rows) stage s n m is = refl
loaded_ends r (command.Table words) stage s n m is = absurd cc
loaded_ends r (command.View words) stage s n m is = absurd cc
loaded_ends r (command.Alter words) stage s n m is = absurd cc
loaded_ends r (command.Query words) stage s n m is = absurd cc
loaded_ends r (command.Explain words) stage s n m is = absurd cc
loaded_ends r (command.Pin version) stage s n m is = absurd cc
loaded_ends r (command.Release token) stage s n m is = absurd cc
loaded_ends r (command.Expire table version) stage s n m is = absurd cc
loaded_ends r (command.Work words) stage s n m is = absurd cc
loaded_ends r (command.Recast words) stage s n m is = absurd cc

simple_ends : (r : Run) (c : Command) (stage : Stage) (s n m : ℕ) → IsTrue (is_simple c) → (turn_of r c (entry s n kind.Decide outcome.Stands m) stage outcome.Stands).stage ≡ Finished
simple_ends r (command.Load rows) stage s n m is = absurd cc
simple_ends r (command.Table words) stage s n m is = refl
simple_ends r (command.View words) stage s n m is = refl
simple_ends r (command.Alter words) stage s n m is = refl
simple_ends r (command.Query words) stage s n m is = absurd cc
simple_ends r (command.Explain words) stage s n m is = told_plan r.position r.state (explained r.state.warehouse r.state.machine words)
simple_ends r (command.Pin version) stage s n m is = refl
simple_ends r (command.Release token) stage s n m is = refl
simple_ends r (command.Expire table version) stage s n m is = refl
simple_ends r (command.Work words) stage s n m is = absurd cc
simple_ends r (command.Recast words) stage s n m is = absurd cc

-- ---- one turn

module _ (script : Script) (start : State) (old new : Shown) (s n : ℕ) where
  -- Where every turn that isn't skipped leaves one stage, the turn alone says where its session is.
  pub takes : (c : Command) (stage : Stage) (k : Kind) (to : Stage) → IsDue script (run_at script start old.history) s n c stage
      → ((o : Outcome) → is_skip o ≡ false → (turn_of (run_at script start old.history) c (entry s n k o new.clock) stage o).stage ≡ to) → IsTurn old new s n k → IsSeen script start new → Takes script start old new s n k to
  takes c stage k to due ends turn seen = record {
    turn = turn;
    place = ap (λ l. place_of (run_at script start l) s) turn.grew
        ∙ turn_goes script (begins start) old.history (entry s n k turn.outcome new.clock) c stage due to (ends turn.outcome)
        ∙ ap (λ b. place_then b n to) turn.skipped;
    seen = seen;
  }

  pub look_takes : Asks script (run_at script start old.history) s n First is_load → IsTurn old new s n kind.Look → IsSeen script start new → Takes script start old new s n kind.Look Looked
  look_takes asks turn seen = takes asks.asked First kind.Look Looked asks.due (look_ends (run_at script start old.history) asks.asked s n new.clock) turn seen

  pub publish_takes : Asks script (run_at script start old.history) s n Looked is_load → IsTurn old new s n kind.Decide → IsSeen script start new → Takes script start old new s n kind.Decide Finished
  publish_takes asks turn seen =
      takes asks.asked Looked kind.Decide Finished asks.due
      (λ o is. refused_ends (run_at script start old.history) asks.asked s n new.clock Looked o is (λ stands. loaded_ends (run_at script start old.history) asks.asked Looked s n new.clock asks.is)) turn seen

  pub simple_takes : Asks script (run_at script start old.history) s n First is_simple → IsTurn old new s n kind.Decide → IsSeen script start new → Takes script start old new s n kind.Decide Finished
  simple_takes asks turn seen =
      takes asks.asked First kind.Decide Finished asks.due
      (λ o is. refused_ends (run_at script start old.history) asks.asked s n new.clock First o is (λ stands. simple_ends (run_at script start old.history) asks.asked First s n new.clock asks.is)) turn seen

  pub close_takes : (c : Command) (at : ℕ) (answer : Answer) → IsDue script (run_at script start old.history) s n c (Answered at answer) → IsTurn old new s n kind.Close → IsSeen script start new → Takes script start old new s n kind.Close Finished
  close_takes c at answer due turn seen = takes c (Answered at answer) kind.Close Finished due (answered_ends (run_at script start old.history) c s n new.clock at answer) turn seen

  pub complete_takes : (c : Command) (claim : Claim) → IsDue script (run_at script start old.history) s n c (Renewed claim) → IsTurn old new s n kind.Close → IsSeen script start new → Takes script start old new s n kind.Close Finished
  complete_takes c claim due turn seen = takes c (Renewed claim) kind.Close Finished due (renewed_ends (run_at script start old.history) c s n new.clock claim) turn seen

  pub unmerged_takes : (c : Command) (early : Bool) (claim : Claim) → IsDue script (run_at script start old.history) s n c (closing_stage early claim) → IsTurn old new s n kind.Close → IsSeen script start new → Takes script start old new s n kind.Close Finished
  unmerged_takes c true claim due turn seen = takes c (Granted claim) kind.Close Finished due (granted_ends (run_at script start old.history) c s n new.clock claim) turn seen
  unmerged_takes c false claim due turn seen = complete_takes c claim due turn seen

  -- Where the turn's outcome is known, what it leaves says where its session is.
  pub takes_as : (c : Command) (stage : Stage) (k : Kind) (to : Stage) → IsDue script (run_at script start old.history) s n c stage → (out : Outcome) → (turn_of (run_at script start old.history) c (entry s n k out new.clock) stage out).stage ≡ to
      → new.history ≡ old.history ++ entry s n k out new.clock ∷ [] → is_skip out ≡ not old.running → (new.running ≡ true → old.running ≡ true) → IsSeen script start new → Takes script start old new s n k to
  takes_as c stage k to due out ends grew skipped still seen = record {
    turn = record { outcome = out; grew = grew; skipped = skipped; still = still };
    place = ap (λ l. place_of (run_at script start l) s) grew ∙ turn_goes script (begins start) old.history (entry s n k out new.clock) c stage due to (λ is. ends) ∙ ap (λ b. place_then b n to) skipped;
    seen = seen;
  }
