-- A turn of a session.
use Rattle.std.proofs.Common.{◌≡◌, ◌≢◌, ℕ, ◌+◌, ◌<◌, ◌≤◌, ◌==◌, eqb, ne_eqb, true, false, cond, ◌||◌, Bool, IsTrue, List, [], ◌∷◌, ◌++◌, length, append-nil, refl, sym, ap, ◌∙◌, subst, arith}
use Rattle.std.specs.Prelude.{not}
use Rattle.std.specs.List.{AllByRecursion}
use Rattle.std.proofs.lemmas.List.{map-append}
use Rattle.std.proofs.lemmas.Bool.{or_right}
use mathlib.Core.List.{IsPrefix}
use Rattle.mesa_turn.specs.History.{name_of, has, entries_of}
use Rattle.mesa_turn.specs.Passes.{Known, Finds, IsExact, after, during}
use Rattle.mesa_turn.proofs.Lists.{prefix_self, prefix_more, prefix_trans}
use Rattle.mesa_turn.proofs.Laws.{entries_append, entries_found}
use Rattle.mesa_model.specs.declared.commands.Command.{Command}
use Rattle.mesa_model.specs.declared.commands.Script.{Script}
use Rattle.mesa_model.specs.declared.entries.Entry.{Entry}
use Rattle.mesa_model.specs.declared.entries.Kind.{Kind}
use Rattle.mesa_model.specs.Entry.{IsShort, entry_of, history_of, number_of, numbers_of}
use Rattle.mesa_model.proofs.Numbers.{session_told, history_told}
use Rattle.mesa_recast_turns.specs.mesa_history_spec.Run.{State, Stage, Place, Run, place_of, begins}
use Rattle.mesa_recast_turns.specs.mesa_history_spec.Legal.{AllFit}
use Rattle.mesa_engine.proofs.mesa_history_spec.Due.{fit_below}
use Rattle.mesa_engine.proofs.mesa_history_spec.More.{runs_more}
use Rattle.mesa_engine.proofs.mesa_history_spec.Turns.{prologue_is}
use Rattle.mesa_recast_turns.specs.mesa_invariant_spec.Turns.{Shown, entry, IsTurn, IsSeen, Asks}
use Rattle.mesa_recast_turns.specs.mesa_invariant_spec.Invariant.{run_at}
use Rattle.mesa_core.specs.Passes.{run_seen, at_stage, HasSort, Holds, Mine, Took}
use Rattle.mesa_core.proofs.Behind.{all_behind, comes_in_time, place_found, whole_found, within_one}

-- ---- a turn

module _ (script : Script) (start : State) (few : length script.sessions ≤ 8) (p : Known) (ticket : ℕ) (old : Shown) (seen : IsSeen script start old)
    (finds : Finds p ticket (numbers_of old.history)) (exact : IsExact p) (session : ℕ) (holds : Holds script start p session) where
  -- the history is the one that its numbers tell
  told : history_of (numbers_of old.history) ≡ old.history
  told = history_told old.history seen.short

  pub place_is : (place : Place) → place_of (run_seen script start p.seen) session ≡ place → place_of (run_at script start old.history) session ≡ place
  place_is place at = ap (λ h. place_of (run_at script start h) session) (sym told) ∙ (place_found script start p ticket session (numbers_of old.history) finds exact holds.held ∙ at)

  pub first_is : session ≡ 0 → (run_at script start old.history).prologue_over ≡ false
  first_is zeroth =
      let same : numbers_of old.history ≡ p.seen = whole_found p ticket (numbers_of old.history) finds exact (holds.whole zeroth) (subst (AllByRecursion (λ (e : Entry). e.session < 8)) (sym told) (fit_below script (begins start) old.history 8 few seen.fits)) in
      ap (λ h. (run_at script start h).prologue_over) (sym told) ∙ (ap (λ l. (run_seen script start l).prologue_over) same ∙ holds.first zeroth)

  -- what a call asks
  pub asked : (number : ℕ) (stage : Stage) (sort : Command → Bool) → place_of (run_seen script start p.seen) session ≡ at_stage number stage → HasSort script session number sort → Asks script (run_at script start old.history) session number stage sort
  asked number stage sort at has = record {
    asked = has.asked;
    is = has.is;
    due = record { known = has.known; place = place_is (at_stage number stage) at; prologue = comes_in_time (run_at script start old.history).prologue_over session first_is };
  }

  module _ (room : 0 < p.room) (number : ℕ) (k : Kind) (new : Shown) (turn : IsTurn old new session number k) (stands : IsSeen script start new) where
    abbrev e : Entry
    e = entry session number k turn.outcome new.clock

    pub grew : numbers_of new.history ≡ numbers_of old.history ++ number_of e ∷ []
    grew = ap numbers_of turn.grew ∙ map-append number_of old.history (e ∷ [])

    short : IsShort e
    short = (all_behind IsShort old.history (e ∷ []) (subst (AllByRecursion IsShort) turn.grew stands.short)).0

    pub named : has p.names (name_of (number_of e)) ≡ true
    named = ap (has p.names) (session_told e short) ∙ holds.held

    -- the value that is left has one entry more
    pub one_more : (q : Known) → q ≡ during (numbers_of old.history) p → (x : ℕ) × (numbers_of new.history ≡ q.seen ++ x ∷ []) × IsTrue (has q.names (name_of x))
    one_more q is = (number_of e, grew ∙ ap (λ (z : Known). z.seen ++ number_of e ∷ []) (sym is), ap (λ (z : Known). has z.names (name_of (number_of e))) is ∙ named)

    abbrev q : Known
    q = after (numbers_of new.history) (during (numbers_of old.history) p)

    others : (n : ℕ) → has p.names n ≡ true → n ≢ session → entries_of (n ∷ []) q.seen ≡ entries_of (n ∷ []) p.seen
    others n held other = ap (entries_of (n ∷ [])) grew ∙ (entries_append (n ∷ []) (numbers_of old.history) (number_of e ∷ [])
        ∙ (ap (λ b. entries_of (n ∷ []) (numbers_of old.history) ++ cond (b || false) (number_of e ∷ []) []) (ne_eqb n (name_of (number_of e)) (λ same. other (same ∙ session_told e short)))
        ∙ (append-nil _ ∙ entries_found p ticket (numbers_of old.history) (n ∷ []) finds exact (within_one n p.names held))))

    pub took_one : Took session p q 1
    took_one = record {
      lock = refl;
      names = refl;
      limit = refl;
      room = omega (arith, room);
      seen = prefix_trans p.seen (numbers_of old.history) (numbers_of new.history) finds.seen (subst (IsPrefix (numbers_of old.history)) (sym grew) (prefix_more (numbers_of old.history) (numbers_of old.history) (number_of e ∷ []) (prefix_self (numbers_of old.history))));
      own = λ k h. or_right (eqb (length (numbers_of old.history)) k) (has p.own k) h;
      others = others;
    }

    told_then : history_of (numbers_of new.history) ≡ new.history
    told_then = history_told new.history stands.short

    pub holds_then : IsExact q → Holds script start q session
    holds_then left = record {
      held = holds.held;
      exact = left;
      fits = subst (AllFit script (begins start)) (sym told_then) stands.fits;
      first = λ zeroth. ap (λ h. (run_at script start h).prologue_over) told_then ∙ (ap (λ h. (run_at script start h).prologue_over) turn.grew
          ∙ (ap (λ (r : Run). r.prologue_over) (runs_more script (begins start) old.history e) ∙ (prologue_is script (run_at script start old.history) e
          ∙ (λ i. first_is zeroth i || not (zeroth i == 0)))));
      whole = holds.whole;
    }

-- A whole turn, from one pass to the next.
pub record Step (script : Script) (start : State) (p q : Known) (old new : Shown) (session number : ℕ) (k : Kind) : Type 0 where
  pub few : length script.sessions ≤ 8
  pub seen : IsSeen script start old
  pub ticket : ℕ
  pub finds : Finds p ticket (numbers_of old.history)
  pub exact : IsExact p
  pub holds : Holds script start p session
  pub room : 0 < p.room
  pub turn : IsTurn old new session number k
  pub stands : IsSeen script start new
  pub is : q ≡ after (numbers_of new.history) (during (numbers_of old.history) p)
  pub left : IsExact q

module _ {script : Script} {start : State} {p q : Known} {old new : Shown} {session number : ℕ} {k : Kind} (s : Step script start p q old new session number k) where
  pub step_took : Took session p q 1
  step_took = subst (λ (z : Known). Took session p z 1) (sym s.is) (took_one script start s.few p s.ticket old s.seen s.finds s.exact session s.holds s.room number k new s.turn s.stands)

  pub step_holds : Holds script start q session
  step_holds = subst (λ (z : Known). Holds script start z session) (sym s.is) (holds_then script start s.few p s.ticket old s.seen s.finds s.exact session s.holds s.room number k new s.turn s.stands (subst IsExact s.is s.left))

  -- the history is what the pass has seen
  pub step_seen : history_of q.seen ≡ new.history
  step_seen = ap (λ (z : Known). history_of z.seen) s.is ∙ history_told new.history s.stands.short

  pub step_mine : (place : Place) → place_of (run_at script start new.history) session ≡ place → Mine script start q session place
  step_mine place at = record { holds = step_holds; at = ap (λ h. place_of (run_at script start h) session) step_seen ∙ at }

-- ---- several turns

pub took_none : (session : ℕ) (p : Known) → Took session p p 0
took_none session p = record { lock = refl; names = refl; limit = refl; room = omega arith; seen = prefix_self p.seen; own = λ k h. h; others = λ n held other. refl }

pub took_both : (session : ℕ) (p q r : Known) (a b : ℕ) → Took session p q a → Took session q r b → Took session p r (a + b)
took_both session p q r a b first second = record {
  lock = second.lock ∙ first.lock;
  names = second.names ∙ first.names;
  limit = second.limit ∙ first.limit;
  room = let x = first.room in let y = second.room in omega (arith, x, y);
  seen = prefix_trans p.seen q.seen r.seen first.seen second.seen;
  own = λ k h. second.own k (first.own k h);
  others = λ n held other. second.others n (ap (λ l. has l n) first.names ∙ held) other ∙ first.others n held other;
}

pub took_fewer : (session : ℕ) (p q : Known) (a b : ℕ) → a ≤ b → Took session p q a → Took session p q b
took_fewer session p q a b le took = record {
  lock = took.lock;
  names = took.names;
  limit = took.limit;
  room = let x = took.room in omega (arith, x, le);
  seen = took.seen;
  own = took.own;
  others = took.others;
}

-- a turn finds the history that the pass has seen, and more
pub found_history : (p : Known) (ticket : ℕ) (old : List Entry) (finds : Finds p ticket (numbers_of old)) → AllByRecursion IsShort old → history_of p.seen ++ history_of finds.seen.0 ≡ old
found_history p ticket old finds short = sym (map-append entry_of p.seen finds.seen.0) ∙ (ap history_of finds.seen.1 ∙ history_told old short)
