-- Which turns answer a draft that failed, and which causes a fault of the disk.
use Rattle.std.proofs.Common.{◌≡◌, ℕ, ◌<◌, List, [], ◌∷◌, ◌++◌, Bool, true, false, ◌&&◌, ◌==◌, refl, sym, ◌∙◌, subst, IsTrue}
use Rattle.std.proofs.lemmas.List.{append_cancel_left}
use Rattle.mesa_io.specs.Causes.{last}
use Rattle.mesa_model.specs.declared.commands.Script.{Script}
use Rattle.mesa_model.specs.declared.entries.Entry.{Entry}
use Rattle.mesa_invariant_spec.specs.mesa_history_spec.Counting.{answers_bench, answers_disk, is_bench_fault}
use Rattle.mesa_invariant_spec.specs.mesa_history_spec.Replay.{closes}
use Rattle.mesa_invariant_spec.specs.mesa_history_spec.Run.{State}
use Rattle.mesa_invariant_spec.specs.Causes.{Cause, Replies, Unread, Damaged, Unwritten, NoMemory, outcome_of}
use Rattle.mesa_invariant_spec.specs.Turns.{AnswersDraft, Shown}
use Rattle.mesa_invariant_spec.specs.Invariant.{run_at}
use Rattle.mesa_engine.specs.Failing.{is_of_device}

right_true : (a b : Bool) → IsTrue (a && b) → IsTrue b
right_true true b is = is
right_true false b is = absurd cc

-- two entries that were added to one history are one
one_entry : (h : List Entry) (a b : Entry) → h ++ a ∷ [] ≡ h ++ b ∷ [] → a ≡ b
one_entry h a b same = let ends : a ∷ [] ≡ b ∷ [] = append_cancel_left h (a ∷ []) (b ∷ []) same in cc

-- A turn answers a draft that failed only where its entry does.
pub answers_where : (script : Script) (start : State) (old new : Shown) (session : ℕ) (e : Entry) (Failed : Type 0) → new.history ≡ old.history ++ e ∷ []
    → (new.clock < last → IsTrue (answers_bench (closes (run_at script start old.history).moment e) e.outcome) → Failed) → AnswersDraft script start old new session Failed
answers_where script start old new session e Failed grew failed low other is answers =
    let same : other ≡ e = one_entry old.history other e (sym is ∙ grew) in
    failed low (right_true (e.session == session) _ (subst (λ x. IsTrue (is_bench_fault session (run_at script start old.history) x)) same answers))

-- It doesn't where its entry is no fault of a file that was being built.
pub answers_none : (script : Script) (start : State) (old new : Shown) (session : ℕ) (e : Entry) → new.history ≡ old.history ++ e ∷ []
    → answers_bench (closes (run_at script start old.history).moment e) e.outcome ≡ false → AnswersDraft script start old new session ⊥
answers_none script start old new session e grew none = answers_where script start old new session e ⊥ grew (λ low is. absurd (let never : false ≡ true = sym none ∙ is in cc))

-- a cause for which no device has to have failed is no such fault
pub quiet_cause : (closing : Bool) (cause : Cause) → is_of_device cause ≡ false → answers_bench closing (outcome_of cause) ≡ false
quiet_cause closing (Replies r) is = refl
quiet_cause closing Unread is = refl
quiet_cause closing (Damaged d) is = refl
quiet_cause closing Unwritten is = absurd cc
quiet_cause closing NoMemory is = refl

-- nor is it a fault of the disk
pub quiet_disk : (closing : Bool) (cause : Cause) → is_of_device cause ≡ false → answers_disk closing (outcome_of cause) ≡ false
quiet_disk closing (Replies r) is = refl
quiet_disk closing Unread is = absurd cc
quiet_disk closing (Damaged d) is = refl
quiet_disk closing Unwritten is = absurd cc
quiet_disk closing NoMemory is = refl
