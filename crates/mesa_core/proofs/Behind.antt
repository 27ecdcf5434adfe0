-- What a session knows across the turns of others.
use Rattle.std.proofs.Common.{◌≡◌, ℕ, ◌<◌, ◌==◌, eq-eqb, ne_eqb, true, false, cond, ◌||◌, ◌&&◌, not, Bool, IsTrue, List, [], ◌∷◌, ◌++◌, length, append-nil, refl, sym, ap, ◌∙◌, subst, arith, true≢false}
use Rattle.std.specs.List.{AllByRecursion}
use Rattle.std.proofs.lemmas.List.{map-append}
use mathlib.Core.Logic.{dite}
use native.Mathlib.Decide.{ℕ_discrete}
use Rattle.mesa_turn.specs.History.{name_of, has, Within, entries_of}
use Rattle.mesa_turn.specs.Passes.{Known, Finds, IsExact, Joins}
use Rattle.mesa_turn.proofs.Names.{has_one}
use Rattle.mesa_turn.proofs.Laws.{none_behind, others_found, others_first, others_second}
use Rattle.mesa_model.specs.declared.commands.Script.{Script}
use Rattle.mesa_model.specs.declared.entries.Entry.{Entry}
use Rattle.mesa_model.specs.Entry.{entry_of, history_of}
use Rattle.mesa_recast_turns.specs.mesa_history_spec.Run.{State, Run, place_of, begins}
use Rattle.mesa_recast_turns.specs.mesa_history_spec.Replay.{runs}
use Rattle.mesa_engine.proofs.mesa_history_spec.More.{runs-append}
use Rattle.mesa_engine.proofs.mesa_history_spec.Places.{others_keep}
use Rattle.mesa_core.specs.Passes.{run_seen}

-- no entry of these numbers is a session's
abbrev pub Others : ℕ → List ℕ → Type 0
Others session numbers = AllByRecursion (λ (e : Entry). (session == e.session) ≡ false) (history_of numbers)

cons_none : (x : ℕ) (xs : List ℕ) → x ∷ xs ≡ [] → ⊥
cons_none x xs same = let one : length (x ∷ xs) ≡ 0 = ap (λ l. length l) same in omega (arith, one)

pub none_others : (session : ℕ) (rest : List ℕ) → entries_of (session ∷ []) rest ≡ [] → Others session rest
none_others session [] none = tt
none_others session (x ∷ rest) none = dite (ℕ_discrete session (name_of x))
    (λ same. absurd (cons_none x (entries_of (session ∷ []) rest) (ap (λ b. cond (b || false) (x ∷ entries_of (session ∷ []) rest) (entries_of (session ∷ []) rest)) (sym (eq-eqb session (name_of x) same)) ∙ none)))
    (λ other. (ne_eqb session (name_of x) other, none_others session rest (ap (λ b. cond (b || false) (x ∷ entries_of (session ∷ []) rest) (entries_of (session ∷ []) rest)) (sym (ne_eqb session (name_of x) other)) ∙ none)))

pub within_one : (session : ℕ) (names : List ℕ) → has names session ≡ true → Within (session ∷ []) names
within_one session names held n h = ap (has names) (sym (has_one session n h)) ∙ held

-- what stands behind a beginning that has all entries of a name is others'
pub behind_others : (session : ℕ) (seen rest : List ℕ) → entries_of (session ∷ []) (seen ++ rest) ≡ entries_of (session ∷ []) seen → Others session rest
behind_others session seen rest same = none_others session rest (none_behind (session ∷ []) seen rest (seen ++ rest) refl same)

-- A turn finds what the pass had seen, and then others' entries.
pub found_behind : (p : Known) (ticket session : ℕ) (list : List ℕ) (finds : Finds p ticket list) → IsExact p → has p.names session ≡ true → Others session finds.seen.0
found_behind p ticket session list finds exact held = none_others session finds.seen.0 (others_found p ticket list finds.seen.0 (session ∷ []) finds exact (within_one session p.names held) finds.seen.1)

-- ---- a session's place

-- a session stays where it is while others have their turns
pub place_keeps : (script : Script) (start : State) (session : ℕ) (seen rest : List ℕ) → Others session rest → place_of (run_seen script start (seen ++ rest)) session ≡ place_of (run_seen script start seen) session
place_keeps script start session seen rest others =
    ap (λ h. place_of (runs script (begins start) h) session) (map-append entry_of seen rest)
    ∙ (ap (λ (r : Run). place_of r session) (runs-append script (begins start) (history_of seen) (history_of rest))
    ∙ others_keep script (run_seen script start seen) (history_of rest) session others)

-- A session's place outlasts the turns between two of its own.
pub place_found : (script : Script) (start : State) (p : Known) (ticket session : ℕ) (list : List ℕ) → Finds p ticket list → IsExact p → has p.names session ≡ true
    → place_of (run_seen script start list) session ≡ place_of (run_seen script start p.seen) session
place_found script start p ticket session list finds exact held =
    ap (λ l. place_of (run_seen script start l) session) (sym finds.seen.1) ∙ place_keeps script start session p.seen finds.seen.0 (found_behind p ticket session list finds exact held)

-- It outlasts a join too.
pub place_first : (script : Script) (start : State) (a b p : Known) (session : ℕ) → Joins a b p → has a.names session ≡ true → place_of (run_seen script start p.seen) session ≡ place_of (run_seen script start a.seen) session
place_first script start a b p session joins held = ap (λ l. place_of (run_seen script start l) session) (sym joins.first_seen.1)
    ∙ place_keeps script start session a.seen joins.first_seen.0 (none_others session joins.first_seen.0 (others_first a b p joins.first_seen.0 (session ∷ []) joins (within_one session a.names held) joins.first_seen.1))

pub place_second : (script : Script) (start : State) (a b p : Known) (session : ℕ) → Joins a b p → has b.names session ≡ true → place_of (run_seen script start p.seen) session ≡ place_of (run_seen script start b.seen) session
place_second script start a b p session joins held = ap (λ l. place_of (run_seen script start l) session) (sym joins.second_seen.1)
    ∙ place_keeps script start session b.seen joins.second_seen.0 (none_others session joins.second_seen.0 (others_second a b p joins.second_seen.0 (session ∷ []) joins (within_one session b.names held) joins.second_seen.1))

-- ---- the prologue

pub all_behind : (P : Entry → Type 0) (xs ys : List Entry) → AllByRecursion P (xs ++ ys) → AllByRecursion P ys
all_behind P [] ys all = all
all_behind P (x ∷ xs) ys all = all_behind P xs ys all.1

none_found : (rest : List ℕ) → ((n : ℕ) → n < 8 → Others n rest) → AllByRecursion (λ (e : Entry). e.session < 8) (history_of rest) → rest ≡ []
none_found [] others below = refl
none_found (x ∷ rest) others below = absurd (true≢false (sym (eq-eqb (name_of x) (name_of x) refl) ∙ (others (name_of x) below.0).0))

-- A pass that holds all names has seen all that its turn finds.
pub whole_found : (p : Known) (ticket : ℕ) (list : List ℕ) → Finds p ticket list → IsExact p → ((n : ℕ) → n < 8 → has p.names n ≡ true) → AllByRecursion (λ (e : Entry). e.session < 8) (history_of list) → list ≡ p.seen
whole_found p ticket list finds exact whole below =
    let rest = finds.seen.0 in
    let none : rest ≡ [] = none_found rest (λ n lt. found_behind p ticket n list finds exact (whole n lt))
    (all_behind (λ (e : Entry). e.session < 8) (history_of p.seen) (history_of rest) (subst (AllByRecursion (λ (e : Entry). e.session < 8)) (map-append entry_of p.seen rest) (subst (λ l. AllByRecursion (λ (e : Entry). e.session < 8) (history_of l)) (sym finds.seen.1) below))) in
    sym finds.seen.1 ∙ (ap (λ l. p.seen ++ l) none ∙ append-nil p.seen)

-- A session's turn comes after the prologue's, or is one of the prologue's while no other session had a turn.
pub comes_in_time : (over : Bool) (session : ℕ) → (session ≡ 0 → over ≡ false) → IsTrue (not (over && (session == 0)))
comes_in_time true session first = dite (ℕ_discrete session 0) (λ zeroth. absurd (true≢false (first zeroth))) (λ other. ap not (ne_eqb session 0 other))
comes_in_time false session first = refl
