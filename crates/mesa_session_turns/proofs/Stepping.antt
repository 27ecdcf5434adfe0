-- A turn as its calls tell it: what entering finds, what the call makes of it, and what leaving gives.
use Rattle.std.proofs.Common.{◌≡◌, ℕ, ◌<◌, ◌≤◌, Bool, not, IsTrue, List, [], ◌∷◌, ◌++◌, length, sym, ap, ◌∙◌, subst}
use Rattle.std.specs.Prelude.{Option, None, Some, IfNone}
use Rattle.mesa_turn.specs.History.{name_of, has}
use Rattle.mesa_turn.specs.Passes.{Known, Finds, IsExact, after, during}
use Rattle.mesa_model.specs.declared.commands.Command.{Command}
use Rattle.mesa_model.specs.declared.commands.Script.{Script}
use Rattle.mesa_model.specs.declared.entries.Kind.{Kind}
use Rattle.mesa_model.specs.Entry.{numbers_of}
use Rattle.mesa_core.specs.mesa_history_spec.Run.{State, Stage, place_of}
use Rattle.mesa_core.specs.mesa_history_spec.Turns.{place_then}
use Rattle.mesa_core.specs.mesa_invariant_spec.Turns.{Shown, Asks, IsTurn, IsSeen, Takes}
use Rattle.mesa_core.specs.mesa_invariant_spec.Invariant.{run_at}
use Rattle.mesa_core.specs.Vault.{Stand}
use Rattle.mesa_core.specs.Passes.{HasSort, Holds, Mine, at_stage}
use Rattle.mesa_core.proofs.Turning.{Step, asked, one_more, step_mine}
use Rattle.mesa_session_turns.proofs.Found.{room_left}

-- What entering a turn finds: a history that is a run's, as a session relies on it.
pub record Enters (script : Script) (start : State) (p : Known) (session : ℕ) (found : List ℕ) (held : Known) (old : Shown) : Type 0 where
  pub few : length script.sessions ≤ 8
  pub holds : Holds script start p session
  pub room : 0 < p.room
  pub ticket : ℕ
  pub finds : Finds p ticket found
  pub exact : IsExact p
  pub took : held ≡ during found p
  pub numbers : found ≡ numbers_of old.history
  pub seen : IsSeen script start old

-- it is what entering tells, the value that it lends, and what this tells of itself
pub entered : {script : Script} {start : State} {p held : Known} {session ticket : ℕ} {was now : Stand} → length script.sessions ≤ 8 → Holds script start p session → 0 < p.room → Finds p ticket (numbers_of was.shown.history) → IsExact p → held ≡ during (numbers_of was.shown.history) p
    → now ≡ was → IsSeen script start now.shown → Enters script start p session (numbers_of was.shown.history) held now.shown
entered {ticket = ticket} few holds room finds exact took same seen = record {
  few = few;
  holds = holds;
  room = room;
  ticket = ticket;
  finds = finds;
  exact = exact;
  took = took;
  numbers = ap (λ (v : Stand). numbers_of v.shown.history) (sym same);
  seen = seen;
}

module _ {script : Script} {start : State} {p : Known} {session : ℕ} {found : List ℕ} {held : Known} {old : Shown} (e : Enters script start p session found held old) where
  pub finds_numbers : Finds p e.ticket (numbers_of old.history)
  finds_numbers = subst (Finds p e.ticket) e.numbers e.finds

  pub asks : (number : ℕ) (stage : Stage) (sort : Command → Bool) → Mine script start p session (at_stage number stage) → HasSort script session number sort → Asks script (run_at script start old.history) session number stage sort
  asks number stage sort mine has = asked script start e.few p e.ticket old e.seen finds_numbers e.exact session e.holds number stage sort mine.at has

  pub room_for : (room : ℕ) → p.limit ≤ room → length old.history < room
  room_for room le = room_left p e.ticket old.history finds_numbers e.seen.short room le

  held_is : held ≡ during (numbers_of old.history) p
  held_is = e.took ∙ ap (λ l. during l p) e.numbers

  module _ (number : ℕ) (k : Kind) (new : Shown) (left : List ℕ) (told : left ≡ numbers_of new.history) (turn : IsTurn old new session number k) (stands : IsSeen script start new) where
    pub one : (x : ℕ) × (left ≡ held.seen ++ x ∷ []) × IsTrue (has held.names (name_of x))
    one = let more = one_more script start e.few p e.ticket old e.seen finds_numbers e.exact session e.holds e.room number k new turn stands held held_is in (more.0, told ∙ more.1, more.2)

    pub step : (q : Known) → q ≡ after left held → IsExact q → Step script start p q old new session number k
    step q is exact = record {
      few = e.few;
      seen = e.seen;
      ticket = e.ticket;
      finds = finds_numbers;
      exact = e.exact;
      holds = e.holds;
      room = e.room;
      turn = turn;
      stands = stands;
      is = is ∙ (λ i. after (told i) (held_is i));
      left = exact;
    }

-- where a session is after a turn that goes on unless the sink had failed
pub goes_on : {script : Script} {start : State} {p q : Known} {old new : Shown} {session number : ℕ} {k : Kind} (s : Step script start p q old new session number k) (stage : Stage) (ran : Bool) → Takes script start old new session number k stage → ran ≡ old.running → Mine script start q session (place_then (not ran) number stage)
goes_on {script = script} {start = start} {q = q} {session = session} {number = number} s stage ran takes is = subst (λ (b : Bool). Mine script start q session (place_then (not b) number stage)) (sym is) (step_mine s _ takes.place)

-- the same where the command is over unless something was handed out
pub ends_unless : {script : Script} {start : State} {p q : Known} {old new : Shown} {session number : ℕ} {k : Kind} (s : Step script start p q old new session number k) {A : Type 0} (stage : Stage) (ran : Bool) (r : Option A) → IfNone r (place_of (run_at script start new.history) session ≡ place_then (not old.running) number stage) → ran ≡ old.running
    → IfNone r (Mine script start q session (place_then (not ran) number stage))
ends_unless s stage ran (Some a) over is = tt
ends_unless {script = script} {start = start} {q = q} {session = session} {number = number} s stage ran None over is = subst (λ (b : Bool). Mine script start q session (place_then (not b) number stage)) (sym is) (step_mine s _ over)
