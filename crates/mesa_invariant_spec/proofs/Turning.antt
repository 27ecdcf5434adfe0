-- The invariant with one turn of a session's command more.
use Rattle.std.proofs.Common.{◌≡◌, ℕ, ◌<◌, List, length, Bool, true, false, not, ◌||◌, IsTrue, refl, sym, ◌∙◌, ap, subst, arith, Option, None, Some}
use Rattle.mesa_disk.specs.mesa_io.Causes.{Rose, last}
use Rattle.mesa_disk.specs.Story.{Story, Unmoved, Spans}
use Rattle.mesa_history_spec.specs.mesa_model.declared.commands.Command.{Command}
use Rattle.mesa_history_spec.specs.mesa_model.declared.entries.Entry.{Entry}
use Rattle.mesa_history_spec.specs.mesa_model.declared.entries.Kind.{Kind}
use Rattle.mesa_history_spec.specs.mesa_model.declared.entries.Outcome.TheVariants as outcome
use Rattle.mesa_history_spec.specs.mesa_model.declared.replies.Reply.{Reply}
use Rattle.mesa_history_spec.specs.mesa_model.Entry.{IsShort}
use Rattle.mesa_history_spec.specs.mesa_model.Warehouse.{Warehouse}
use Rattle.mesa_history_spec.specs.Run.{State, Stage, CutOff, Run, begins}
use Rattle.mesa_history_spec.specs.Replay.{Turned, turned, turn_of, told_by, leaves, prints, closes, stood, is_skipped, go}
use Rattle.mesa_history_spec.specs.Legal.{is_due_at, is_written, wrote, fits_sink}
use Rattle.mesa_history_spec.specs.Found.{Kept, kept_of, kept_in}
use Rattle.mesa_history_spec.specs.Counting.{is_disk_fault}
use Rattle.mesa_history_spec.specs.Refused.{is_refusal, tells_refusal}
use Rattle.mesa_history_spec.specs.Turns.{IsDue}
use Rattle.mesa_history_spec.proofs.More.{position_is}
use Rattle.mesa_history_spec.proofs.Refusing.{or-false}
use Rattle.mesa_history_spec.proofs.Turns.{MayCome, turned_at, fits_at}
use Rattle.mesa_history_spec.specs.Output.{block}
use Rattle.mesa_invariant_spec.specs.Books.{Books, AreBooksOf}
use Rattle.mesa_invariant_spec.specs.Causes.{Cause, Replies, Unread, Damaged, Unwritten, NoMemory, outcome_of, reply_of, replayed, CanBeTold, told_at}
use Rattle.mesa_invariant_spec.specs.Printing.{IsPut, Puts, Prints}
use Rattle.mesa_invariant_spec.specs.Turns.{entry}
use Rattle.mesa_invariant_spec.specs.Invariant.{Outset, run_of, HoldsInvariant, KeepsInvariant, KeepsInvariantTelling, Counts, StandsForEither, AllStand, Passes}
use Rattle.mesa_invariant_spec.proofs.Clock.{quiet_moment, written_moment, closing_moment}
use Rattle.mesa_invariant_spec.proofs.Coming.{comes_skipped}
use Rattle.mesa_invariant_spec.proofs.Pieces.{with_rows}
use Rattle.mesa_invariant_spec.proofs.Printed.{standing_block, cause_block}
use Rattle.mesa_invariant_spec.proofs.Steps.{IsStep, quiet, wrote as wrote_step, tried}

-- a disk that no call moved
pub stays : (s : Story) → Unmoved s s
stays s = record { told = refl; len = λ a. refl; moment = refl; may_leave = λ c. (λ x. x, λ x. x); may_have_left = λ t c. (λ x. x, λ x. x) }

-- ---- faults

-- counts of a turn that answers no fault
pub counts_same : (story : Story) → Counts story story false
counts_same story = record { faults = omega arith; reads = omega arith; rose = λ low is. absurd cc }

-- counts of one that does serve any
pub counts_any : (old new : Story) (answers : Bool) → Counts old new true → Counts old new answers
counts_any old new answers c = record { faults = c.faults; reads = c.reads; rose = λ low is. c.rose low refl }

-- counts of a turn that answers none, where the clock is below its last value
pub counts_below : (old new : Story) (answers : Bool) → Counts old new false → (new.moment < last → answers ≡ false) → Counts old new answers
counts_below old new answers c none = record { faults = c.faults; reads = c.reads; rose = λ low is. (let never : true ≡ false = sym is ∙ none low in absurd cc) }

refusal_replayed : (cause : Cause) → is_refusal (replayed cause) ≡ is_refusal (reply_of cause)
refusal_replayed (Replies r) = refl
refusal_replayed Unread = refl
refusal_replayed (Damaged damage) = refl
refusal_replayed Unwritten = refl
refusal_replayed NoMemory = refl

module _ (o : Outset) (sound : Bool) (books : Books) (story : Story) (held : Option (List ℕ)) (h : List Entry) (running refused : Bool) (v : HoldsInvariant o sound books story held h running refused) where
  abbrev r : Run
  r = run_of o h

  -- the position of the next turn
  pub position_at : (at : ℕ) → at ≡ length h → at ≡ r.position
  position_at at is = let p = position_is o.script (begins o.start) h in omega (arith, p, is)

  -- what books that are open say of Replay's warehouse
  pub opened : books.bare.closed ≡ None → r.state.warehouse.closed ≡ None
  opened is = ap (λ (w : Warehouse). w.closed) v.state.projection ∙ is

  -- the block of a reply that stands
  pub puts_reply : (e : Entry) (rep : Reply) (at : ℕ) → at ≡ length h → e.outcome ≡ outcome.Stands → (now : Bool) (new_held : Option (List ℕ)) → IsPut (block e (Some (told_at at rep))) now held new_held → Puts sound e (told_at r.position rep) now held new_held
  puts_reply e rep at place stands now new_held put =
      let is = standing_block e (told_at r.position rep) _ stands (ap (λ p. block e (Some (told_at p rep))) (position_at at place)) in
      record { piece = block e (Some (told_at at rep)); anyhow = with_rows e _ _ is; block = λ ok low. is; put = put }

  -- the block of a turn that has a cause
  pub puts_cause : (e : Entry) (cause : Cause) (at : ℕ) → at ≡ length h → e.outcome ≡ outcome_of cause → CanBeTold cause → (now : Bool) (new_held : Option (List ℕ)) → IsPut (block e (Some (told_at at (reply_of cause)))) now held new_held
      → Puts sound e (told_at r.position (replayed cause)) now held new_held
  puts_cause e cause at place ends can now new_held put =
      let is = cause_block e cause r.position _ ends can (ap (λ p. block e (Some (told_at p (reply_of cause)))) (position_at at place)) in
      record { piece = block e (Some (told_at at (reply_of cause))); anyhow = with_rows e _ _ is; block = λ ok low. is; put = put }

  module _ (e : Entry) (c : Command) (stage : Stage) (due : IsDue o.script (run_of o h) e.session e.command c stage) (short : IsShort e) where
    -- ---- turns that move nothing on the disk

    module _ (moment : e.moment ≡ story.moment) (new : Story) (unmoved : Unmoved story new) (may : MayCome (run_of o h) c stage e) where
      -- Any such turn that keeps what a store keeps, whatever the books become.
      pub quiet_turn : is_skipped e ≡ not running → (made : Turned) → turn_of r c e stage e.outcome ≡ made → wrote made.told ≡ false → Counts story new (is_disk_fault r e)
          → (now : Bool) (new_held : Option (List ℕ)) → Prints sound e made.told running now held new_held → (after : Books) → AreBooksOf sound after made.state → kept_of made.state ≡ kept_of r.state
          → KeepsInvariant o sound after new new_held h e now (refused || tells_refusal made.told)
      quiet_turn skipped made is silent counts now new_held prints' after state kept =
          record { invariant = quiet o sound books story held h running refused v e made now new_held step after new unmoved counts moment state kept; silent = still_silent }
        where
          turn : turned o.script r e ≡ made
          turn = turned_at o.script r e c stage due ∙ is

          still_silent : wrote (told_by o.script r e) ≡ false
          still_silent = ap (λ (t : Turned). wrote t.told) turn ∙ silent

          step : IsStep o sound h e made running now held new_held
          step = record {
            is = turn;
            fits = fits_at o.script r e c stage due may (subst (λ b. IsTrue (fits_sink r.last b)) (sym skipped) v.sink) (quiet_moment r.moment story.moment e (told_by o.script r e) v.at moment still_silent);
            short = short;
            skipped = skipped;
            prints = prints';
          }

      -- one that prints nothing
      pub mute_turn : is_skipped e ≡ not running → (state : State) (to : Stage) → turn_of r c e stage e.outcome ≡ leaves state to → Counts story new (is_disk_fault r e) → (after : Books) → AreBooksOf sound after state → kept_of state ≡ kept_of r.state
          → KeepsInvariant o sound after new held h e running refused
      mute_turn skipped state to is counts after state_is kept =
          subst (KeepsInvariant o sound after new held h e running) (or-false refused) (quiet_turn skipped (leaves state to) is refl counts running held (refl, refl) after state_is kept)

      -- one that prints a reply without rows
      pub told_turn : running ≡ true → is_skipped e ≡ false → (state : State) (rep : Reply) → turn_of r c e stage e.outcome ≡ prints r.position state rep → is_written rep ≡ false → Counts story new (is_disk_fault r e)
          → (now : Bool) (new_held : Option (List ℕ)) → Puts sound e (told_at r.position rep) now held new_held → (after : Books) → AreBooksOf sound after state → kept_of state ≡ kept_of r.state
          → KeepsInvariant o sound after new new_held h e now (refused || is_refusal rep)
      told_turn ran done state rep is silent counts now new_held puts after state_is kept =
          quiet_turn (done ∙ ap not (sym ran)) (prints r.position state rep) is silent counts now new_held (ran, puts) after state_is kept

      -- one that prints why it didn't do what its command asks
      pub cause_turn : running ≡ true → (cause : Cause) → e.outcome ≡ outcome_of cause → CanBeTold cause → is_skipped e ≡ false → (state : State) → turn_of r c e stage e.outcome ≡ prints r.position state (replayed cause) → is_written (replayed cause) ≡ false
          → Counts story new (is_disk_fault r e) → (at : ℕ) → at ≡ length h → (now : Bool) (new_held : Option (List ℕ)) → IsPut (block e (Some (told_at at (reply_of cause)))) now held new_held → (after : Books) → AreBooksOf sound after state → kept_of state ≡ kept_of r.state
          → KeepsInvariant o sound after new new_held h e now (refused || is_refusal (reply_of cause))
      cause_turn ran cause ends can done state is silent counts at place now new_held put after state_is kept =
          subst (λ b. KeepsInvariant o sound after new new_held h e now (refused || b)) (refusal_replayed cause)
          (told_turn ran done state (replayed cause) is silent counts now new_held (puts_cause e cause at place ends can now new_held put) after state_is kept)

    -- ---- turns with device work

    module _ (new : Story) (passes : Passes story new) (moment : e.moment ≡ new.moment) (counts : Counts story new (is_disk_fault (run_of o h) e)) (had : IsTrue sound → story.moment < last → AllStand o.stands story (kept_of (run_of o h).state))
        (may : MayCome (run_of o h) c stage e) (ran : running ≡ true) (done : is_skipped e ≡ false) (state : State) (rep : Reply) (is : turn_of (run_of o h) c e stage e.outcome ≡ prints (run_of o h).position state rep)
        (now : Bool) (new_held : Option (List ℕ)) (puts : Puts sound e (told_at (run_of o h).position rep) now held new_held) where
      turn : turned o.script r e ≡ prints r.position state rep
      turn = turned_at o.script r e c stage due ∙ is

      skipped : is_skipped e ≡ not running
      skipped = done ∙ ap not (sym ran)

      sink_is : IsTrue (fits_sink r.last (is_skipped e))
      sink_is = subst (λ b. IsTrue (fits_sink r.last b)) (sym skipped) v.sink

      -- one whose device work wrote what it makes
      pub wrote_turn : is_written rep ≡ true → (after : Books) → AreBooksOf sound after state → (IsTrue sound → new.moment < last → Spans (StandsForEither o.stands (kept_of r.state) (kept_of state)) story new)
          → (IsTrue sound → new.moment < last → AllStand o.stands new (kept_of state)) → KeepsInvariantTelling o sound after new new_held h e now (refused || is_refusal rep) rep
      wrote_turn writes after state_is spans stand = record { invariant = wrote_step o sound books story held h running refused v e (prints r.position state rep) now new_held step new passes counts moment had after state_is spans stand; tells = told }
        where
          told : told_by o.script r e ≡ Some (told_at r.position rep)
          told = ap (λ (t : Turned). t.told) turn

          step : IsStep o sound h e (prints r.position state rep) running now held new_held
          step = record {
            is = turn;
            fits = fits_at o.script r e c stage due may sink_is (written_moment r.moment story.moment e (told_by o.script r e) v.at (subst (Rose story.moment) (sym moment) passes.rose) (ap wrote told ∙ writes));
            short = short;
            skipped = skipped;
            prints = (ran, puts);
          }

      -- one whose device work failed
      pub failed_turn : is_written rep ≡ false → closes r.moment e ≡ true → (aim : Kept) → (after : Books) → AreBooksOf sound after state → kept_of state ≡ kept_of r.state → (IsTrue sound → aim ≡ kept_in (go o.script r (stood e)))
          → (IsTrue sound → new.moment < last → Spans (StandsForEither o.stands (kept_of r.state) aim) story new) → KeepsInvariant o sound after new new_held h e now (refused || is_refusal rep)
      failed_turn silent closing_is aim after state_is kept aim_is spans =
          record { invariant = tried o sound books story held h running refused v e (prints r.position state rep) now new_held step new passes counts moment had after aim state_is kept closing_is aim_is spans; silent = still_silent }
        where
          still_silent : wrote (told_by o.script r e) ≡ false
          still_silent = ap (λ (t : Turned). wrote t.told) turn ∙ silent

          step : IsStep o sound h e (prints r.position state rep) running now held new_held
          step = record {
            is = turn;
            fits = fits_at o.script r e c stage due may sink_is (closing_moment r.moment story.moment e (told_by o.script r e) v.at closing_is still_silent);
            short = short;
            skipped = skipped;
            prints = (ran, puts);
          }

  -- ---- a turn that is skipped, once the sink has failed

  pub skipped_turn : (s n : ℕ) (c : Command) (stage : Stage) (k : Kind) (m : ℕ) → IsDue o.script r s n c stage → IsShort (entry s n k outcome.Skipped m) → IsTrue (is_due_at c stage k) → running ≡ false → m ≡ story.moment → (new : Story) → Unmoved story new → Counts story new false
      → KeepsInvariant o sound books new held h (entry s n k outcome.Skipped m) running refused
  skipped_turn s n c stage k m due short comes failed moment new unmoved counts =
      mute_turn (entry s n k outcome.Skipped m) c stage due short moment new unmoved (comes_skipped r c stage s n k m comes) (ap not (sym failed)) r.state CutOff refl counts books v.state refl
