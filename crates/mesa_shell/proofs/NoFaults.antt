-- Entries of a run in which nothing failed.
use Rattle.std.proofs.Common.{◌≡◌, ⊎_elim, ◌≤◌, ◌<◌, ◌+◌, ◌&&◌, ◌==◌, ℕ, zero, suc, List, [], ◌∷◌, length, Bool, true, false, refl, sym, ◌∙◌, ap, arith, Option, Some, None, IsTrue}
use Rattle.std.specs.Prelude.{slice_get, slice_index_or}
use Rattle.std.proofs.lemmas.Bool.{cases_lt}
use Rattle.std.proofs.Math.Nat.{min-le_left, min-le_right}
use Rattle.std.specs.List.{AllByRecursion}
use Rattle.mesa_io.specs.Causes.{Rose, last}
use Rattle.mesa_model.specs.declared.commands.Command.{Command}
use Rattle.mesa_model.specs.declared.commands.Script.{Script}
use Rattle.mesa_model.specs.declared.entries.Entry.{Entry}
use Rattle.mesa_model.specs.declared.entries.Outcome.{Outcome}
use Rattle.mesa_model.specs.declared.entries.Outcome.TheVariants as outcome
use Rattle.mesa_session.specs.mesa_history_spec.Counting.{count_in, is_disk_fault, is_bench_fault, answers_disk, answers_bench, one_if}
use Rattle.mesa_session.specs.mesa_history_spec.Legal.{AllFit, is_due, is_due_of}
use Rattle.mesa_session.specs.mesa_history_spec.Replay.{is_skip, is_skipped, closes, go}
use Rattle.mesa_session.specs.mesa_history_spec.Run.{Place, Run, command_of, numbered, place_of}
use Rattle.mesa_session.proofs.mesa_history_spec.Places.{same_is}
use Rattle.mesa_shell.specs.Completing.{is_quiet, AllQuiet}
use Rattle.mesa_session.specs.mesa_invariant_spec.Undamaged.{is_damaged, NoneDamaged}

-- ---- each entry is of a session that is there

beyond : (sessions : List (List Command)) (n : ℕ) → length sessions ≤ n → slice_index_or sessions n [] ≡ []
beyond [] n le = refl
beyond (x ∷ xs) zero le = absurd (omega (arith, le))
beyond (x ∷ xs) (suc n) le = beyond xs n (omega (arith, le))

nothing_at : (n : ℕ) → ◌≡◌ {A = Option Command} (slice_get [] n) None
nothing_at zero = refl
nothing_at (suc n) = refl

none_numbered : (n : ℕ) → numbered [] n ≡ None
none_numbered zero = refl
none_numbered (suc n) = nothing_at n

none_due : (o : Option Command) (p : Place) (e : Entry) → o ≡ None → IsTrue (is_due_of o p e) → ⊥
none_due None p e is due = absurd (let no : false ≡ true = due in cc no)
none_due (Some c) p e is due = absurd (let no : Some c ≡ None = is in cc no)

there : (script : Script) (r : Run) (e : Entry) → IsTrue (is_due script r e) → e.session < length script.sessions
there script r e due = ⊎_elim (λ lt. lt)
    (λ ge. absurd (none_due (command_of script e) (place_of r e.session) e (ap (λ cs. numbered cs e.command) (beyond script.sessions e.session ge) ∙ none_numbered e.command) due))
    (cases_lt e.session (length script.sessions))

pub sessions_there : (script : Script) (r : Run) (h : List Entry) → AllFit script r h → AllByRecursion (λ (e : Entry). e.session < length script.sessions) h
unfolding AllFit
sessions_there script r [] fit = tt
sessions_there script r (e ∷ h) fit = (there script r e fit.0.due, sessions_there script (go script r e) h fit.1)

-- ---- no fault is answered where none happened

zero_parts : (a b : ℕ) → a + b ≡ 0 → (a ≡ 0) × (b ≡ 0)
zero_parts a b is = (omega (arith, is), omega (arith, is))

none_if : (b : Bool) → one_if b ≡ 0 → b ≡ false
none_if true is = absurd (omega (arith, is))
none_if false is = refl

mine : (b : Bool) (s : Bool) → s ≡ true → (s && b) ≡ false → b ≡ false
mine b true is isnt = isnt
mine b false is isnt = absurd (cc is)

outcome_quiet : (closing : Bool) (o : Outcome) → answers_disk closing o ≡ false → answers_bench closing o ≡ false → is_damaged o ≡ false → is_skip o ≡ false → is_quiet o ≡ true
outcome_quiet closing outcome.Stands a b c d = refl
outcome_quiet closing outcome.Memory a b c d = refl
outcome_quiet closing outcome.ReadFault a b c d = sym a
outcome_quiet true outcome.WriteFault a b c d = sym a
outcome_quiet false outcome.WriteFault a b c d = sym b
outcome_quiet closing outcome.Damaged a b c d = sym c
outcome_quiet closing outcome.Skipped a b c d = sym d

pub all_quiet : (script : Script) (r : Run) (h : List Entry) → AllByRecursion (λ (e : Entry). e.session < length script.sessions) h → count_in is_disk_fault script r h ≡ 0
    → ((s : ℕ) → s < length script.sessions → count_in (is_bench_fault s) script r h ≡ 0) → NoneDamaged h → AllByRecursion (λ (e : Entry). is_skipped e ≡ false) h → AllQuiet h
unfolding count_in
all_quiet script r [] few disk benches whole ran = tt
all_quiet script r (e ∷ h) few disk benches whole ran = (
  outcome_quiet (closes r.moment e) e.outcome
      (none_if (is_disk_fault r e) (zero_parts (one_if (is_disk_fault r e)) (count_in is_disk_fault script (go script r e) h) disk).0)
      (mine (answers_bench (closes r.moment e) e.outcome) (e.session == e.session) (same_is e.session) (none_if (is_bench_fault e.session r e) (zero_parts (one_if (is_bench_fault e.session r e)) (count_in (is_bench_fault e.session) script (go script r e) h) (benches e.session few.0)).0))
      whole.0 ran.0,
  all_quiet script (go script r e) h few.1 (zero_parts (one_if (is_disk_fault r e)) (count_in is_disk_fault script (go script r e) h) disk).1
      (λ s lt. (zero_parts (one_if (is_bench_fault s r e)) (count_in (is_bench_fault s) script (go script r e) h) (benches s lt)).1) whole.1 ran.1,
)

-- ---- counts that didn't rise

pub not_risen : (a b : ℕ) → (Rose a b → ⊥) → (b ≤ a) × (b < last)
not_risen a b still = ⊎_elim (λ lt. absurd (still (below a b lt))) (λ le. (le, least a b still le)) (cases_lt a b)
  where
    below : (a b : ℕ) → a < b → Rose a b
    below a b lt = let l = min-le_left (a + 1) last in omega (arith, l, lt)

    least : (a b : ℕ) → (Rose a b → ⊥) → b ≤ a → b < last
    least a b still le = ⊎_elim (λ lt. lt) (λ ge. absurd (still (let l = min-le_right (a + 1) last in omega (arith, l, ge)))) (cases_lt b last)
