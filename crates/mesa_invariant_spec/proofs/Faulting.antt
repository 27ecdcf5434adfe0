-- Which turns answer a fault of the disk.
use Rattle.std.proofs.Common.{◌≡◌, inl, inr, ◌<◌, List, [], ◌∷◌, ◌++◌, Bool, true, false, sym, ◌∙◌, ap, refl, subst, arith}
use Rattle.std.specs.Prelude.{IsTrue}
use Rattle.std.proofs.lemmas.List.{append_cancel_left}
use Rattle.mesa_disk.specs.mesa_io.Causes.{last}
use Rattle.mesa_disk.specs.Story.{Story}
use Rattle.mesa_history_spec.specs.mesa_model.declared.commands.Script.{Script}
use Rattle.mesa_history_spec.specs.mesa_model.declared.entries.Entry.{Entry}
use Rattle.mesa_history_spec.specs.Counting.{answers_disk, is_disk_fault}
use Rattle.mesa_history_spec.specs.Replay.{closes}
use Rattle.mesa_history_spec.specs.Run.{State}
use Rattle.mesa_invariant_spec.specs.Causes.{Cause, Replies, Unread, Damaged, Unwritten, NoMemory, is_read_fault, outcome_of}
use Rattle.mesa_invariant_spec.specs.Turns.{AnswersDisk, Faults, NoneFell, Shown, SomeRose, faults_of}
use Rattle.mesa_invariant_spec.specs.Invariant.{Counts, run_at}

-- two entries that were added to one history are one
one_entry : (h : List Entry) (a b : Entry) → h ++ a ∷ [] ≡ h ++ b ∷ [] → a ≡ b
one_entry h a b same = let ends : a ∷ [] ≡ b ∷ [] = append_cancel_left h (a ∷ []) (b ∷ []) same in cc

is_so : (b : Bool) → IsTrue b → b ≡ true
is_so true is = refl
is_so false is = absurd cc

-- where nothing closes, the outcome of a cause answers a fault of the disk exactly where the cause is one
disk_cause : (closing : Bool) (cause : Cause) → (cause ≡ Unwritten → closing ≡ false) → answers_disk closing (outcome_of cause) ≡ is_read_fault cause
disk_cause closing (Replies r) quiet = refl
disk_cause closing Unread quiet = refl
disk_cause closing (Damaged damage) quiet = refl
disk_cause closing Unwritten quiet = quiet refl
disk_cause closing NoMemory quiet = refl

module _ (script : Script) (start : State) (old new : Shown) (e : Entry) (grew : new.history ≡ old.history ++ e ∷ []) where
  -- A turn answers a fault of the disk only where its entry does.
  pub disk_where : (Failed : Type 0) → (new.clock < last → IsTrue (is_disk_fault (run_at script start old.history) e) → Failed) → AnswersDisk script start old new Failed
  disk_where Failed failed low other is answers =
      let same : other ≡ e = one_entry old.history other e (sym is ∙ grew) in
      failed low (subst (λ x. IsTrue (is_disk_fault (run_at script start old.history) x)) same answers)

  -- It doesn't where its entry is no such fault.
  pub disk_never : is_disk_fault (run_at script start old.history) e ≡ false → AnswersDisk script start old new ⊥
  disk_never none = disk_where ⊥ (λ low is. absurd (let never : false ≡ true = sym none ∙ is_so _ is in cc))

  -- What a turn's work did to the counts tells why its entry answers a fault.
  pub disk_counted : (before now : Story) → new.clock ≡ now.moment → Counts before now (is_disk_fault (run_at script start old.history) e) → AnswersDisk script start old new (SomeRose (faults_of before) (faults_of now))
  disk_counted before now clock counts = disk_where (SomeRose (faults_of before) (faults_of now)) (λ low is. counts.rose (subst (λ n. n < last) clock low) (is_so _ is))

  -- The same of a turn with a cause: of a write fault it is to be known that it doesn't close.
  pub disk_caused : (before now : Story) → new.clock ≡ now.moment → (cause : Cause) → e.outcome ≡ outcome_of cause → Counts before now (is_read_fault cause) → (now.moment < last → cause ≡ Unwritten → closes (run_at script start old.history).moment e ≡ false)
      → AnswersDisk script start old new (SomeRose (faults_of before) (faults_of now))
  disk_caused before now clock cause ends counts quiet = disk_where (SomeRose (faults_of before) (faults_of now)) (λ low is.
      let below : now.moment < last = subst (λ n. n < last) clock low in
      let closing = closes (run_at script start old.history).moment e in
      let same : answers_disk closing e.outcome ≡ is_read_fault cause = ap (answers_disk closing) ends ∙ disk_cause closing cause (quiet below) in
      counts.rose below (sym same ∙ is_so _ is))

-- A turn that answers a fault of the disk only where one thing is so does it only where another is that follows.
pub disk_also : (script : Script) (start : State) (old new : Shown) {Failed Also : Type 0} → (Failed → Also) → AnswersDisk script start old new Failed → AnswersDisk script start old new Also
disk_also script start old new also told low e is answers = also (told low e is answers)

-- What rose before rose still.
pub rose_still : (a b c : Faults) → SomeRose a b → NoneFell b c → SomeRose a c
rose_still a b c (inl rose) still = inl (omega (arith, rose, still.calls))
rose_still a b c (inr rose) still = inr (omega (arith, rose, still.reads))
