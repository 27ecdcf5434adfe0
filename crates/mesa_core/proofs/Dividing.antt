-- Passes that are split and joined.
use Rattle.std.proofs.Common.{◌≡◌, ℕ, zero, suc, ◌+◌, ◌*◌, ◌<◌, ◌≤◌, ◌||◌, true, false, Bool, List, [], ◌∷◌, ◌++◌, length, refl, sym, ap, ◌∙◌, subst, arith, add-one, Option, Some, None, true≢false, nat_lt, cond, ◌==◌, eq-eqb, ◌⊎◌, inl, inr, ⊎_elim}
use Rattle.std.specs.Prelude.{slice_get, is_none, slice_index_or, drop}
use Rattle.std.specs.List.{AllByRecursion}
use mathlib.Core.Logic.{dite}
use native.Mathlib.Decide.{ℕ_discrete}
use Rattle.mesa_turn.specs.History.{name_of, has, has_at, entries_of, longer_of}
use Rattle.mesa_turn.specs.Passes.{Known, IsExact, Joins, HasNone, left_of, part_of}
use Rattle.mesa_turn.proofs.Names.{has_itself, has_without, has_first, has_second}
use Rattle.mesa_model.specs.declared.commands.Command.{Command}
use Rattle.mesa_model.specs.declared.commands.Script.{Script}
use Rattle.mesa_model.specs.declared.entries.Entry.{Entry}
use Rattle.mesa_model.specs.Entry.{entry_of, history_of}
use Rattle.mesa_recast_turns.specs.mesa_history_spec.Run.{State, First, Place, place_of, command_at, begins}
use Rattle.mesa_recast_turns.specs.mesa_history_spec.Replay.{runs}
use Rattle.mesa_recast_turns.specs.mesa_history_spec.Legal.{AllFit, is_cut_off_at}
use Rattle.mesa_engine.proofs.mesa_history_spec.Due.{fit_below}
use Rattle.mesa_core.specs.Passes.{run_seen, at_stage, Mine, Took, Gains, HasEnded, Waits, HaveEnded, turns_of}
use Rattle.mesa_core.proofs.Behind.{Others, behind_others, place_keeps, place_first, place_second}

-- ---- before a session's first turn

place_begins : (script : Script) (start : State) (session : ℕ) → place_of (run_seen script start []) session ≡ at_stage 1 First
unfolding place_of runs
place_begins script start session = refl

over_begins : (script : Script) (start : State) → (run_seen script start []).prologue_over ≡ false
unfolding runs
over_begins script start = refl

fits_begins : (script : Script) (start : State) → AllFit script (begins start) (history_of [])
unfolding AllFit
fits_begins script start = tt

pub fresh_place : (script : Script) (start : State) (session : ℕ) (seen : List ℕ) → entries_of (session ∷ []) seen ≡ [] → place_of (run_seen script start seen) session ≡ at_stage 1 First
fresh_place script start session seen none = place_keeps script start session [] seen (behind_others session [] seen none) ∙ place_begins script start session

-- the prologue begins
pub mine_whole : (script : Script) (start : State) (p : Known) → p.seen ≡ [] → IsExact p → ((n : ℕ) → n < 8 → has p.names n ≡ true) → Mine script start p 0 (at_stage 1 First)
mine_whole script start p none exact names = record {
  holds = record {
    held = names 0 (omega arith);
    exact = exact;
    fits = subst (λ l. AllFit script (begins start) (history_of l)) (sym none) (fits_begins script start);
    first = λ zeroth. ap (λ l. (run_seen script start l).prologue_over) none ∙ over_begins script start;
    whole = λ zeroth. names;
  };
  at = ap (λ l. place_of (run_seen script start l) 0) none ∙ place_begins script start 0;
}

-- the other sessions wait
pub waits_first : (script : Script) (start : State) (p q : Known) (turns : ℕ) → p.seen ≡ [] → ((n : ℕ) → n < 8 → has p.names n ≡ true) → Took 0 p q turns → HasEnded script start q 0 → Waits script start q 1
waits_first script start p q turns none names took ended = record {
  first = ap (λ l. has l 0) took.names ∙ names 0 (omega arith);
  later = λ n le lt. ap (λ l. has l n) took.names ∙ names n lt;
  none = λ n le lt. took.others n (names n lt) (λ is. omega (arith, is, le)) ∙ ap (entries_of (n ∷ [])) none;
  prologue = ended;
}

-- ---- a split

none_at : (names list : List ℕ) → entries_of names list ≡ [] → (k : ℕ) → has_at names (slice_get list k) ≡ false
none_at names [] none k = refl
none_at names (x ∷ list) none k = elim (has names (name_of x)) as (λ b. has names (name_of x) ≡ b → cond b (x ∷ entries_of names list) (entries_of names list) ≡ [] → has_at names (slice_get (x ∷ list) k) ≡ false) [
  | true ↦ λ is same. absurd (let one : length (x ∷ entries_of names list) ≡ 0 = ap (λ l. length l) same in omega arith)
  | false ↦ λ is same. elim k as (λ j. has_at names (slice_get (x ∷ list) j) ≡ false) [ zero ↦ is | suc j ↦ none_at names list same j ]
] refl none

module _ (script : Script) (start : State) (p : Known) (next room : ℕ) (waits : Waits script start p next) (lt : next < 8) (above : 0 < next) where
  pub none_own : HasNone next p
  none_own k own = none_at (next ∷ []) p.seen (waits.none next (omega arith) lt) k

  pub mine_part : IsExact (part_of next room p) → Mine script start (part_of next room p) next (at_stage 1 First)
  mine_part exact = record {
    holds = record {
      held = has_itself next;
      exact = exact;
      fits = waits.prologue.fits;
      first = λ zeroth. absurd (omega (arith, zeroth, above));
      whole = λ zeroth. absurd (omega (arith, zeroth, above));
    };
    at = fresh_place script start next p.seen (waits.none next (omega arith) lt);
  }

  pub waits_left : IsExact (left_of next room p) → Waits script start (left_of next room p) (next + 1)
  waits_left exact = record {
    first = has_without next p.names 0 (λ is. omega (arith, is, above)) ∙ waits.first;
    later = λ n le small. has_without next p.names n (λ is. omega (arith, is, le)) ∙ waits.later n (omega (arith, le)) small;
    none = λ n le small. waits.none n (omega (arith, le)) small;
    prologue = record { exact = exact; fits = waits.prologue.fits; ended = waits.prologue.ended };
  }

-- ---- a join

abbrev ended_at : Script → ℕ → Place → Bool
ended_at script session place = is_none (command_at script session place.number) || is_cut_off_at place.stage

longer_either : (P : List ℕ → Type 0) (xs ys : List ℕ) → P xs → P ys → P (longer_of xs ys)
longer_either P xs ys x y = elim (nat_lt (length xs) (length ys)) as (λ b. P (cond b ys xs)) [ true ↦ y | false ↦ x ]

module _ (script : Script) (start : State) (a b p : Known) (joins : Joins a b p) where
  fits_joined : AllFit script (begins start) (history_of a.seen) → AllFit script (begins start) (history_of b.seen) → AllFit script (begins start) (history_of p.seen)
  fits_joined x y = subst (λ (z : Known). AllFit script (begins start) (history_of z.seen)) (sym joins.is) (longer_either (λ l. AllFit script (begins start) (history_of l)) a.seen b.seen x y)

  pub ended_first : (s t : ℕ) → has a.names s ≡ true → HasEnded script start a s → HasEnded script start b t → HasEnded script start p s
  ended_first s t held one other = record { exact = joins.exact; fits = fits_joined one.fits other.fits; ended = ap (ended_at script s) (place_first script start a b p s joins held) ∙ one.ended }

  pub ended_second : (s t : ℕ) → has b.names t ≡ true → HasEnded script start a s → HasEnded script start b t → HasEnded script start p t
  ended_second s t held one other = record { exact = joins.exact; fits = fits_joined one.fits other.fits; ended = ap (ended_at script t) (place_second script start a b p t joins held) ∙ other.ended }

  pub have_ended : (next : ℕ) → b.names ≡ next ∷ [] → length script.sessions ≤ 8 → HaveEnded script start a (next + 1) → HasEnded script start b next → HaveEnded script start p next
  have_ended next one few rest mine =
      let held : has b.names next ≡ true = ap (λ l. has l next) one ∙ has_itself next in
      record {
        first = ap (λ (z : Known). has z.names 0) joins.is ∙ has_first a.names b.names 0 rest.first;
        later = λ n le small. ap (λ (z : Known). has z.names n) joins.is ∙ dite (ℕ_discrete n next)
            (λ is. has_second a.names b.names n (ap (has b.names) is ∙ held))
            (λ other. has_first a.names b.names n (rest.later n (omega (arith, le, other)) small));
        prologue = ended_first 0 next rest.first rest.prologue mine;
        ended = λ s le there. dite (ℕ_discrete s next)
            (λ is. subst (HasEnded script start p) (sym is) (ended_second 0 next held rest.prologue mine))
            (λ other. ended_first s next (rest.later s (omega (arith, le, other)) (omega (arith, there, few))) (rest.ended s (omega (arith, le, other)) there) mine);
      }

-- none is left
pub none_left : (script : Script) (start : State) (p : Known) (next : ℕ) → next ≡ length script.sessions → Waits script start p next → HaveEnded script start p next
none_left script start p next last waits = record { first = waits.first; later = waits.later; prologue = waits.prologue; ended = λ s le lt. absurd (omega (arith, le, lt, last)) }

-- all have ended
pub all_ended : (script : Script) (start : State) (p : Known) → HaveEnded script start p 1 → (s : ℕ) → s < length script.sessions → HasEnded script start p s
all_ended script start p have s lt = dite (ℕ_discrete s 0) (λ is. subst (HasEnded script start p) (sym is) have.prologue) (λ other. have.ended s (omega (arith, other)) lt)

pub all_names : (script : Script) (start : State) (p : Known) → HaveEnded script start p 1 → (n : ℕ) → n < 8 → has p.names n ≡ true
all_names script start p have n lt = dite (ℕ_discrete n 0) (λ is. ap (has p.names) is ∙ have.first) (λ other. have.later n (omega (arith, other)) lt)

named_all : (names seen : List ℕ) → AllByRecursion (λ (e : Entry). e.session < 8) (history_of seen) → ((n : ℕ) → n < 8 → has names n ≡ true) → (k : ℕ) → k < length seen → has_at names (slice_get seen k) ≡ true
named_all names [] below whole k lt = absurd (omega arith)
named_all names (x ∷ seen) below whole zero lt = whole (name_of x) below.0
named_all names (x ∷ seen) below whole (suc k) lt = named_all names seen below.1 whole k (omega arith)

-- every position is the pass's own
pub all_own : (script : Script) (start : State) (p : Known) → length script.sessions ≤ 8 → HaveEnded script start p 1 → (k : ℕ) → k < length p.seen → has p.own k ≡ true
all_own script start p few have k lt = have.prologue.exact k ∙ named_all p.names p.seen (fit_below script (begins start) (history_of p.seen) 8 few have.prologue.fits) (all_names script start p have) k lt

-- ---- room

turns_suc : (sessions : List (List Command)) (next : ℕ) → next < length sessions → turns_of (drop next sessions) ≡ 3 * length (slice_index_or sessions next []) + turns_of (drop (suc next) sessions)
turns_suc [] next lt = absurd (omega arith)
turns_suc (x ∷ xs) zero lt = refl
turns_suc (x ∷ xs) (suc n) lt = turns_suc xs n (omega arith)

pub turns_next : (sessions : List (List Command)) (next : ℕ) → next < length sessions → turns_of (drop next sessions) ≡ 3 * length (slice_index_or sessions next []) + turns_of (drop (next + 1) sessions)
turns_next sessions next lt = turns_suc sessions next lt ∙ ap (λ n. 3 * length (slice_index_or sessions next []) + turns_of (drop n sessions)) (sym (add-one next))

-- ---- the positions that became a session's own

at_of : (P : Entry → Type 0) (list : List ℕ) (k x : ℕ) → AllByRecursion P (history_of list) → slice_get list k ≡ Some x → P (entry_of x)
at_of P [] k x all is = absurd cc
at_of P (y ∷ list) zero x all is = let same : y ≡ x = ap (λ (o : Option ℕ). elim o [ None ↦ 0 | Some z ↦ z ]) is in subst (λ z. P (entry_of z)) same all.0
at_of P (y ∷ list) (suc k) x all is = at_of P list k x all.1 is

get_append : (xs ys : List ℕ) (k x : ℕ) → slice_get (xs ++ ys) k ≡ Some x → (slice_get xs k ≡ Some x) ⊎ ((j : ℕ) × (slice_get ys j ≡ Some x))
get_append [] ys k x is = inr (k, is)
get_append (y ∷ xs) ys zero x is = inl is
get_append (y ∷ xs) ys (suc k) x is = get_append xs ys k x is

became_at : (session : ℕ) (p q : Known) (turns : ℕ) → Took session p q turns → IsExact p → (k x : ℕ) → slice_get q.seen k ≡ Some x → has q.names (name_of x) ≡ true → (has p.own k ≡ true) ⊎ (name_of x ≡ session)
became_at session p q turns took exact k x is named = dite (ℕ_discrete (name_of x) session)
    (λ mine. inr mine)
    (λ other.
    let held : has p.names (name_of x) ≡ true = ap (λ l. has l (name_of x)) (sym took.names) ∙ named in
    let rest = took.seen.0 in
    let behind : Others (name_of x) rest = behind_others (name_of x) p.seen rest (ap (entries_of (name_of x ∷ [])) took.seen.1 ∙ took.others (name_of x) held other) in
    ⊎_elim
    (λ (before : slice_get p.seen k ≡ Some x). inl (exact k ∙ (ap (has_at p.names) before ∙ held)))
    (λ (later : (j : ℕ) × (slice_get rest j ≡ Some x)). absurd (true≢false (sym (eq-eqb (name_of x) (name_of x) refl) ∙ at_of (λ (e : Entry). (name_of x == e.session) ≡ false) rest later.0 x behind later.1)))
    (get_append p.seen rest k x (ap (λ l. slice_get l k) took.seen.1 ∙ is)))

-- A position of a pass that took turns of a session was its own before, or is that of an entry of the session.
pub gains : (session : ℕ) (p q : Known) (turns : ℕ) → Took session p q turns → IsExact p → IsExact q → Gains session p q
gains session p q turns took exact left k own = elim (slice_get q.seen k) as (λ o. slice_get q.seen k ≡ o → has_at q.names o ≡ true → (has p.own k ≡ true) ⊎ (has_at (session ∷ []) o ≡ true)) [
  | None ↦ λ is named. absurd (true≢false (sym named))
  | Some x ↦ λ is named. ⊎_elim (λ (before : has p.own k ≡ true). inl before) (λ (mine : name_of x ≡ session). inr (ap (has (session ∷ [])) mine ∙ has_itself session)) (became_at session p q turns took exact k x is named)
] refl (sym (left k) ∙ own)
