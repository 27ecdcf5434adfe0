-- One turn of a session's command at a history's end.
use Rattle.std.proofs.Common.{◌≡◌, ℕ, ◌==◌, ◌&&◌, ◌||◌, List, [], ◌∷◌, ◌++◌, Bool, true, false, not, IsTrue, refl, sym, ap, ◌∙◌, subst, arith, Option}
use Rattle.std.specs.Prelude.{is_some, is_none}
use Rattle.mesa_script.specs.mesa_model.declared.commands.Command.{Command}
use Rattle.mesa_script.specs.mesa_model.declared.commands.Script.{Script}
use Rattle.mesa_script.specs.mesa_model.declared.entries.Entry.{Entry}
use Rattle.mesa_script.specs.mesa_model.declared.entries.Kind.{Kind}
use Rattle.mesa_script.specs.mesa_model.declared.entries.Kind.TheVariants as kind
use Rattle.mesa_script.specs.mesa_model.declared.entries.Outcome.{Outcome}
use Rattle.mesa_script.specs.mesa_model.declared.entries.Outcome.TheVariants as ends
use Rattle.mesa_history_spec.specs.Run.{Stage, Place, Told, Run, place_of}
use Rattle.mesa_history_spec.specs.Replay.{Turned, turned, turn_of, told_by, is_skip, is_skipped, closes, stood, place_after, go, runs}
use Rattle.mesa_history_spec.specs.Legal.{Fits, is_due_of, is_due_at, is_unrenewed, same_kind, is_stands, is_answered, outcome_fits, outcome_fits_in, is_unread, is_unwritten, wrote, is_same_moment, builds_files, builds_files_in, fits_sink, fits_moment}
use Rattle.mesa_history_spec.specs.Turns.{IsDue, would_print, place_then}
use Rattle.mesa_history_spec.proofs.More.{turned_is}
use Rattle.mesa_history_spec.proofs.Places.{place_more}

-- a warehouse is closed, or this isn't the close of a work that stands without a renewal
abbrev pub renewal_at : Option ℕ → Stage → Kind → Outcome → Bool
renewal_at closed stage k o = not (is_unrenewed stage && same_kind kind.Close k && is_stands o) || is_some closed

-- What a turn of a command that has come to a stage has to be, beside what the sink and the clock ask: each part is the test of Fits with its name.
pub record MayCome (r : Run) (c : Command) (stage : Stage) (e : Entry) : Type 0 where
  pub due : IsTrue (is_due_at c stage e.kind)
  pub renewal : IsTrue (renewal_at r.state.warehouse.closed stage e.kind e.outcome)
  pub outcome : IsTrue (outcome_fits c e.kind e.outcome)
  pub reading : IsTrue (not (is_unread e.outcome) || same_kind kind.Close e.kind || is_none (would_print r e.session c e.kind stage))
  pub writing : IsTrue (not (is_unwritten e.outcome)
      || (closes r.moment e && (renewal_at r.state.warehouse.closed stage e.kind ends.Stands && wrote (would_print r e.session c e.kind stage)))
      || (is_same_moment r.moment e.moment && builds_files r.state.warehouse.store c))
  pub closed : IsTrue (is_none r.state.warehouse.closed || is_stands e.outcome || is_skipped e || same_kind kind.Look e.kind || is_answered stage)

number_is : (n : ℕ) (b : Bool) → IsTrue b → IsTrue ((n == n) && b)
number_is n b is = grind (arith, is)

module _ (script : Script) (r : Run) (e : Entry) (c : Command) (stage : Stage) (due : IsDue script r e.session e.command c stage) where
  -- the turn is that of the command, at the stage to which it has come
  pub turned_at : turned script r e ≡ turn_of r c e stage e.outcome
  turned_at = turned_is script r e c due.known ∙ ap (λ (p : Place). turn_of r c e p.stage e.outcome) due.place

  pub told_at : told_by script r (stood e) ≡ would_print r e.session c e.kind stage
  told_at =
      ap (λ (t : Turned). t.told) (turned_is script r (stood e) c due.known)
      ∙ ap (λ (p : Place). would_print r e.session c e.kind p.stage) due.place

  -- an entry that may come is one that the run may have next, where the sink and the clock allow it
  pub fits_at : MayCome r c stage e → IsTrue (fits_sink r.last (is_skipped e)) → IsTrue (fits_moment r.moment (told_by script r e) e) → Fits script r e
  fits_at may sink moment = record {
    prologue = due.prologue;
    due =
        subst (λ (x : Option Command). IsTrue (is_due_of x (place_of r e.session) e)) (sym due.known)
        (subst (λ (p : Place). IsTrue ((e.command == p.number) && is_due_at c p.stage e.kind)) (sym due.place) (number_is e.command (is_due_at c stage e.kind) may.due));
    renewal = subst (λ (p : Place). IsTrue (renewal_at r.state.warehouse.closed p.stage e.kind e.outcome)) (sym due.place) may.renewal;
    sink = sink;
    moment = moment;
    outcome = subst (λ (x : Option Command). IsTrue (outcome_fits_in x e)) (sym due.known) may.outcome;
    reading = subst (λ (t : Option Told). IsTrue (not (is_unread e.outcome) || same_kind kind.Close e.kind || is_none t)) (sym told_at) may.reading;
    writing =
        subst (λ (x : Option Command). IsTrue (not (is_unwritten e.outcome)
        || (closes r.moment e && (renewal_at r.state.warehouse.closed (place_of r e.session).stage e.kind ends.Stands && wrote (told_by script r (stood e))))
        || (is_same_moment r.moment e.moment && builds_files_in r.state.warehouse.store x))) (sym due.known)
        (subst (λ (p : Place). IsTrue (not (is_unwritten e.outcome)
        || (closes r.moment e && (renewal_at r.state.warehouse.closed p.stage e.kind ends.Stands && wrote (told_by script r (stood e))))
        || (is_same_moment r.moment e.moment && builds_files r.state.warehouse.store c))) (sym due.place)
        (subst (λ (t : Option Told). IsTrue (not (is_unwritten e.outcome)
        || (closes r.moment e && (renewal_at r.state.warehouse.closed stage e.kind ends.Stands && wrote t))
        || (is_same_moment r.moment e.moment && builds_files r.state.warehouse.store c))) (sym told_at) may.writing));
    closed = subst (λ (p : Place). IsTrue (is_none r.state.warehouse.closed || is_stands e.outcome || is_skipped e || same_kind kind.Look e.kind || is_answered p.stage)) (sym due.place) may.closed;
  }

-- ---- where a session goes

module _ (script : Script) (start : Run) (h : List Entry) (e : Entry) (c : Command) (stage : Stage) (due : IsDue script (runs script start h) e.session e.command c stage) where
  abbrev r : Run
  r = runs script start h

  -- a turn that makes this takes its session to the stage that it leaves
  pub goes_to : (made : Turned) → turned script r e ≡ made → place_of (runs script start (h ++ e ∷ [])) e.session ≡ place_after e.command made.stage
  goes_to made is =
      place_more script start h e
      ∙ ap (λ (p : Place). place_after p.number (turned script r e).stage) due.place
      ∙ ap (λ (t : Turned). place_after e.command t.stage) is

  cut_or_on : (to : Stage) (o : Outcome) → (is_skip o ≡ false → (turn_of r c e stage o).stage ≡ to) → place_after e.command (turn_of r c e stage o).stage ≡ place_then (is_skip o) e.command to
  cut_or_on to ends.Stands on = ap (place_after e.command) (on refl)
  cut_or_on to ends.Memory on = ap (place_after e.command) (on refl)
  cut_or_on to ends.ReadFault on = ap (place_after e.command) (on refl)
  cut_or_on to ends.WriteFault on = ap (place_after e.command) (on refl)
  cut_or_on to ends.Damaged on = ap (place_after e.command) (on refl)
  cut_or_on to ends.Skipped on = refl

  -- where every turn that isn't skipped leaves one stage, the session is there, or cut off
  pub turn_goes : (to : Stage) → (is_skip e.outcome ≡ false → (turn_of r c e stage e.outcome).stage ≡ to) → place_of (runs script start (h ++ e ∷ [])) e.session ≡ place_then (is_skip e.outcome) e.command to
  turn_goes to on = goes_to (turn_of r c e stage e.outcome) (turned_at script r e c stage due) ∙ cut_or_on to e.outcome on

-- ---- the prologue and the moment

pub prologue_is : (script : Script) (r : Run) (e : Entry) → (go script r e).prologue_over ≡ (r.prologue_over || not (e.session == 0))
unfolding go
prologue_is script r e = refl

-- a session that may have a turn may have the next one
pub prologue_after : (script : Script) (r : Run) (e : Entry) → IsTrue (not (r.prologue_over && (e.session == 0))) → IsTrue (not ((go script r e).prologue_over && (e.session == 0)))
unfolding go
prologue_after script r e alone = both r.prologue_over (e.session == 0) alone
  where
    both : (a b : Bool) → IsTrue (not (a && b)) → IsTrue (not ((a || not b) && b))
    both true true is = is
    both true false is = refl
    both false true is = refl
    both false false is = refl
