-- How a script runs of whose sessions one alone has commands.
use Rattle.std.proofs.Common.{◌≡◌, ◌⊎◌, inl, inr, ⊎_elim, ℕ, zero, suc, ◌+◌, ◌*◌, ◌<◌, ◌≤◌, ◌&&◌, List, [], ◌∷◌, map, length, Bool, true, false, IsTrue, refl, sym, ap, ◌∙◌, subst, arith, None, Some, slice_index_or}
use Rattle.std.specs.Prelude.{◌≢◌}
use Rattle.std.specs.List.{list_all, range_with_len}
use Rattle.mesa_history_spec.specs.mesa_model.declared.commands.Command.{Command}
use Rattle.mesa_history_spec.specs.mesa_model.declared.commands.Script.{Script}
use Rattle.mesa_history_spec.specs.mesa_model.declared.entries.Entry.{Entry}
use Rattle.mesa_history_spec.specs.Alone.{SoFar, history_alone, session_alone, sessions_alone}
use Rattle.mesa_history_spec.specs.Legal.{AllFit, IsLegal, is_complete, sessions_of}
use Rattle.mesa_history_spec.specs.Replay.{runs}
use Rattle.mesa_history_spec.specs.Run.{State, Run, command_at, commands_of, numbered, begins, place_of}
use Rattle.mesa_history_spec.proofs.Due.{due_turn}
use Rattle.mesa_history_laws.specs.Alone.{IsAlone, undated}
use Rattle.mesa_history_laws.proofs.Settled.{AllSettled}
use Rattle.mesa_history_laws.proofs.Standing.{turns_to}
use Rattle.mesa_history_laws.proofs.Walking.{walks_alone}

-- ---- lists

pub right_of : (a b : Bool) → IsTrue (a && b) → IsTrue b
right_of true b is = is
right_of false b is = absurd cc

all_at : (p : ℕ → Bool) (from n i : ℕ) → IsTrue (list_all p (range_with_len from n)) → i < n → IsTrue (p (from + i))
all_at p from zero i all lt = absurd (omega (arith, lt))
all_at p from (suc n) zero all lt = let same : from ≡ from + 0 = omega arith in subst (λ x. IsTrue (p x)) same (left (p from) _ all)
  where
    left : (a b : Bool) → IsTrue (a && b) → IsTrue a
    left true b is = refl
    left false b is = absurd cc
all_at p from (suc n) (suc i) all lt = let same : from + 1 + i ≡ from + suc i = omega arith in subst (λ x. IsTrue (p x)) same (all_at p (from + 1) n i (right_of (p from) _ all) (omega (arith, lt)))

-- where a script is complete, each session is
pub complete_at : (script : Script) (r : Run) (s : ℕ) → IsTrue (list_all (is_complete script r) (sessions_of script)) → s < length script.sessions → IsTrue (is_complete script r s)
complete_at script r s all lt = let same : 0 + s ≡ s = omega arith in subst (λ x. IsTrue (is_complete script r x)) same (all_at (is_complete script r) 0 (length script.sessions) s all lt)

empty_or : (cs : List Command) → (cs ≢ [] → ⊥) → cs ≡ []
empty_or [] it = refl
empty_or (c ∷ cs) it = absurd (it (λ is. absurd cc))

none_numbered : (cs : List Command) (n : ℕ) (c : Command) → cs ≡ [] → numbered cs n ≡ Some c → ⊥
none_numbered [] zero c empty is = absurd cc
none_numbered [] (suc n) c empty is = absurd cc
none_numbered (x ∷ cs) n c empty is = absurd cc

either : (t k : ℕ) → (t < k) ⊎ ((j : ℕ) × (t ≡ k + j))
either t zero = inr (t, omega arith)
either zero (suc k) = inl (omega arith)
either (suc t) (suc k) = ⊎_elim (λ (lt : t < k). inl (omega (arith, lt))) (λ (more : (j : ℕ) × (t ≡ k + j)). inr (more.0, (let same = more.1 in omega (arith, same)))) (either t k)

begun_place : (start : State) (s : ℕ) → turns_to (place_of (begins start) s) ≡ 3
unfolding place_of
begun_place start s = refl

-- ---- sessions without commands

quiet : (script : Script) (k : ℕ) (cs : List (List Command)) (past : SoFar) → ((j : ℕ) → slice_index_or cs j [] ≡ []) → sessions_alone script k cs past ≡ past
quiet script k [] past all = refl
quiet script k (c ∷ cs) past all =
    ap (λ (x : List Command). sessions_alone script (k + 1) cs (session_alone (3 * length x) script k past)) (all zero)
    ∙ quiet script (k + 1) cs past (λ j. all (suc j))

-- ---- a script's sessions

module _ (script : Script) (start : State) (h : List Entry) (alone : IsAlone script) (fit : AllFit script (begins start) h) (stand : AllSettled h) (none : start.warehouse.closed ≡ None)
    (ends : IsTrue (list_all (is_complete script (runs script (begins start) h)) (sessions_of script))) where
  abbrev first : SoFar
  first = record { run = begins start; history = [] }

  no_entries : (g : List Entry) → AllFit script (begins start) g → ((t : ℕ) → commands_of script t ≡ []) → [] ≡ map undated g
  unfolding AllFit
  no_entries [] fits empty = refl
  no_entries (e ∷ g) fits empty =
      let turn = due_turn script (begins start) e fits.0.due in
      absurd (none_numbered (commands_of script e.session) e.command turn.command (empty e.session) turn.known)

  pub sessions_run : (k : ℕ) (cs : List (List Command)) → ((j : ℕ) → slice_index_or cs j [] ≡ commands_of script (k + j)) → ((t : ℕ) → t < k → commands_of script t ≡ []) → length script.sessions ≡ k + length cs
      → map undated (sessions_alone script k cs first).history ≡ map undated h
  sessions_run k [] at before all = no_entries h fit empty
    where
      empty : (t : ℕ) → commands_of script t ≡ []
      empty t = ⊎_elim (λ (lt : t < k). before t lt) (λ (more : (j : ℕ) × (t ≡ k + j)). ap (commands_of script) more.1 ∙ sym (at more.0)) (either t k)
  sessions_run k ([] ∷ cs) at before all = sessions_run (k + 1) cs (λ j. let same : k + suc j ≡ k + 1 + j = omega arith in at (suc j) ∙ ap (commands_of script) same) earlier (omega (arith, all))
    where
      earlier : (t : ℕ) → t < k + 1 → commands_of script t ≡ []
      earlier t lt = ⊎_elim (λ (less : t < k). before t less) (λ (more : (j : ℕ) × (t ≡ k + j)). (let it = more.1 in let same : t ≡ k + 0 = omega (arith, it, lt) in ap (commands_of script) same ∙ sym (at zero))) (either t k)
  sessions_run k ((c ∷ more) ∷ cs) at before all =
      ap (λ (x : SoFar). map undated x.history) (quiet script (k + 1) cs (session_alone (3 * length (c ∷ more)) script k first) (λ j. at (suc j) ∙ others (k + suc j) (omega arith)))
      ∙ walks_alone script k only h (begins start) (begins start) (3 * length (c ∷ more)) [] refl fit stand none (complete_at script (runs script (begins start) h) k ends (omega (arith, all))) room
    where
      is : c ∷ more ≡ commands_of script k
      is = let same : k + 0 ≡ k = omega arith in at zero ∙ ap (commands_of script) same

      some : commands_of script k ≢ []
      some empty = let never : c ∷ more ≡ [] = is ∙ empty in absurd cc

      only : (t number : ℕ) (d : Command) → command_at script t number ≡ Some d → t ≡ k
      only t number d known = alone t k (λ empty. none_numbered (commands_of script t) number d empty known) some

      others : (t : ℕ) → k < t → commands_of script t ≡ []
      others t lt = empty_or (commands_of script t) (λ it. let same = alone t k it some in omega (arith, same, lt))

      room : 3 * length (commands_of script k) + 3 ≤ 3 * length (c ∷ more) + turns_to (place_of (begins start) k)
      room = let long = ap length is in let begun = begun_place start k in omega (arith, long, begun)

-- Its history is the one without faults, but for its moments and the outcomes of looks.
pub sessions_run_alone : (start : State) (script : Script) (h : List Entry) → IsAlone script → start.warehouse.closed ≡ None → IsLegal start script h false → AllSettled h → map undated h ≡ map undated (history_alone start script)
sessions_run_alone start script h alone none legal stand =
    sym (sessions_run script start h alone legal.each stand none (right_of _ _ legal.ends) 0 script.sessions (λ j. let same : j ≡ 0 + j = omega arith in ap (commands_of script) same) (λ t lt. absurd (omega (arith, lt))) (omega arith))
