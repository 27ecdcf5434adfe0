-- Commands that one turn decides: they fail, they change the books alone, or they write.
use Rattle.std.proofs.Common.{◌≡◌, ℕ, ◌<◌, ◌≤◌, ◌^◌, List, length, Bool, true, false, not, ◌||◌, ◌&&◌, IsTrue, refl, sym, ◌∙◌, ap, subst, arith, Option, Some, Ok, Err}
use Rattle.mesa_disk.specs.mesa_io.Causes.{Rose, last}
use Rattle.mesa_disk.specs.Story.{Story, Spans}
use Rattle.mesa_history_spec.specs.mesa_batch.declared.words.RowWords.{RowWords}
use Rattle.mesa_history_spec.specs.mesa_filter.declared.words.VersionWord.{VersionWord}
use Rattle.mesa_history_spec.specs.mesa_model.declared.commands.AlterWords.{AlterWords}
use Rattle.mesa_history_spec.specs.mesa_model.declared.commands.Command.{Command}
use Rattle.mesa_history_spec.specs.mesa_model.declared.commands.Command.TheVariants as command
use Rattle.mesa_history_spec.specs.mesa_model.declared.commands.TableWords.{TableWords}
use Rattle.mesa_history_spec.specs.mesa_model.declared.commands.ViewWords.{ViewWords}
use Rattle.mesa_history_spec.specs.mesa_model.declared.entries.Entry.{Entry}
use Rattle.mesa_history_spec.specs.mesa_model.declared.entries.Kind.TheVariants as kind
use Rattle.mesa_history_spec.specs.mesa_model.declared.entries.Outcome.{Outcome}
use Rattle.mesa_history_spec.specs.mesa_model.declared.entries.Outcome.TheVariants as outcome
use Rattle.mesa_history_spec.specs.mesa_model.declared.replies.Refusal.{Refusal}
use Rattle.mesa_history_spec.specs.mesa_model.declared.replies.Refusal.TheVariants as no
use Rattle.mesa_history_spec.specs.mesa_model.declared.replies.Reply.{Reply}
use Rattle.mesa_history_spec.specs.mesa_model.Entry.{IsShort}
use Rattle.mesa_history_spec.specs.mesa_model.Load.{load_batch}
use Rattle.mesa_history_spec.specs.mesa_model.Pins.{make_pin, release_pin}
use Rattle.mesa_history_spec.specs.mesa_model.Step.{done_or_refused}
use Rattle.mesa_history_spec.specs.mesa_model.Tables.{make_table, make_view, alter_table}
use Rattle.mesa_history_spec.specs.mesa_model.Versions.{expire_to}
use Rattle.mesa_history_spec.specs.mesa_model.Warehouse.{Store, Warehouse}
use Rattle.mesa_history_spec.specs.Run.{State, Stage, First, Looked, Run}
use Rattle.mesa_history_spec.specs.Replay.{Turned, decide, decided, stepped, prints, refuses, closed_if, closes, stood, turned}
use Rattle.mesa_history_spec.specs.Legal.{is_due_at, is_release, is_work, is_writing, is_written, builds_files, outcome_fits, wrote}
use Rattle.mesa_history_spec.specs.Found.{Kept, kept_of}
use Rattle.mesa_history_spec.specs.Refused.{is_refusal}
use Rattle.mesa_history_spec.specs.Turns.{IsDue}
use Rattle.mesa_history_spec.proofs.More.{kept_after}
use Rattle.mesa_history_spec.proofs.Turns.{renewal_at, turned_at}
use Rattle.mesa_history_spec.specs.Output.{block}
use Rattle.mesa_history_spec.specs.Bare.{bare_done, bare_result}
use Rattle.mesa_history_spec.proofs.BareSteps.{expire-bare, load-bare, table-bare, view-bare, alter-bare, pin-bare, release-bare}
use Rattle.mesa_invariant_spec.specs.Books.{Books, AreBooksOf, closed_books, closed_books_if}
use Rattle.mesa_invariant_spec.specs.Causes.{Cause, Replies, Unread, Damaged, Unwritten, NoMemory, outcome_of, reply_of, told_at}
use Rattle.mesa_invariant_spec.specs.Changes.{Doing, IsDecided, IsChange, HasFailed, failed_books}
use Rattle.mesa_invariant_spec.specs.Printing.{IsPut}
use Rattle.mesa_invariant_spec.specs.Turns.{entry}
use Rattle.mesa_invariant_spec.specs.Invariant.{Outset, run_of, HoldsInvariant, KeepsInvariant, KeepsInvariantTelling, Counts, AllStand, Passes, Writes, StandsForEither}
use Rattle.mesa_invariant_spec.proofs.Clock.{same_moment, not_closing, begun_moment, closing}
use Rattle.mesa_invariant_spec.proofs.Coming.{fits_open, renewal_open, comes_standing, comes_without_memory, comes_unwritten, comes_undrafted}
use Rattle.mesa_invariant_spec.proofs.Projections.{err_of, ok_of, plain_is, bare_plain, builds_is}
use Rattle.mesa_invariant_spec.proofs.Turning.{stays, counts_same, counts_any, counts_below, opened, position_at, puts_reply, puts_cause, told_turn, cause_turn, wrote_turn, failed_turn}

-- ---- the commands

pub expire_decided : (session : ℕ) (table : Option (List ℕ)) (version : ℕ) → IsDecided session (command.Expire table version) First (λ w. expire_to w table version)
expire_decided session table version = record { decides = λ position s. refl; alike = λ w. expire-bare w table version; due = refl }

pub load_decided : (session : ℕ) (rows : List RowWords) → IsDecided session (command.Load rows) Looked (λ w. load_batch w rows)
load_decided session rows = record { decides = λ position s. refl; alike = λ w. load-bare w rows; due = refl }

pub table_decided : (session : ℕ) (words : TableWords) → IsDecided session (command.Table words) First (λ w. make_table w words)
table_decided session words = record { decides = λ position s. refl; alike = λ w. table-bare w words; due = refl }

pub view_decided : (session : ℕ) (words : ViewWords) → IsDecided session (command.View words) First (λ w. make_view w words)
view_decided session words = record { decides = λ position s. refl; alike = λ w. view-bare w words; due = refl }

pub alter_decided : (session : ℕ) (words : AlterWords) → IsDecided session (command.Alter words) First (λ w. alter_table w words)
alter_decided session words = record { decides = λ position s. refl; alike = λ w. alter-bare w words; due = refl }

pub pin_decided : (session : ℕ) (asked : VersionWord) → IsDecided session (command.Pin asked) First (λ w. make_pin w session asked)
pin_decided session asked = record { decides = λ position s. refl; alike = λ w. pin-bare w session asked; due = refl }

pub release_decided : (session token : ℕ) → IsDecided session (command.Release token) First (λ w. release_pin w session token)
release_decided session token = record { decides = λ position s. refl; alike = λ w. release-bare w session token; due = refl }

-- a file that is built for a deciding turn is a load's, which has looked before
drafted_later : (c : Command) (s : Store) → is_writing c ≡ true → builds_files s c ≡ true → IsTrue (is_due_at c First kind.Decide) → ⊥
drafted_later (command.Load rows) s writes builds due = absurd cc
drafted_later (command.Table words) s writes builds due = absurd cc
drafted_later (command.View words) s writes builds due = absurd cc
drafted_later (command.Alter words) s writes builds due = absurd cc
drafted_later (command.Query words) s writes builds due = absurd cc
drafted_later (command.Explain words) s writes builds due = absurd cc
drafted_later (command.Pin version) s writes builds due = absurd cc
drafted_later (command.Release token) s writes builds due = absurd cc
drafted_later (command.Expire table version) s writes builds due = absurd cc
drafted_later (command.Work words) s writes builds due = absurd cc
drafted_later (command.Recast words) s writes builds due = absurd cc

memory_fits : (c : Command) → is_release c ≡ false → IsTrue (outcome_fits c kind.Decide outcome.Memory)
memory_fits c is = subst (λ b. IsTrue (not (b || false))) (sym is) refl

fault_fits : (c : Command) → is_writing c ≡ true → IsTrue (outcome_fits c kind.Decide outcome.WriteFault)
fault_fits c is = subst (λ b. IsTrue ((is_work c && false) || (b && true))) (sym is) (right (is_work c))
  where
    right : (a : Bool) → IsTrue ((a && false) || true)
    right true = refl
    right false = refl

module _ (o : Outset) (sound : Bool) (books : Books) (story : Story) (held : Option (List ℕ)) (h : List Entry) (running refused : Bool) (v : HoldsInvariant o sound books story held h running refused)
    (s n : ℕ) (low : s < 2 ^ 16) (few : n < 2 ^ 32) (c : Command) (stage : Stage) (f : Doing) (d : IsDecided s c stage f) (due : IsDue o.script (run_of o h) s n c stage) (m : ℕ) (ran : running ≡ true) (at : ℕ) (place : at ≡ length h) where
  abbrev r : Run
  r = run_of o h

  abbrev w : Warehouse
  w = r.state.warehouse

  abbrev turn_with : Outcome → Entry
  turn_with out = entry s n kind.Decide out m

  short : (out : Outcome) → IsShort (turn_with out)
  short out = record { session = low; command = few }

  at_is : at ≡ r.position
  at_is = position_at o sound books story held h running refused v at place

  renewal : (out : Outcome) → IsTrue (renewal_at w.closed stage kind.Decide out)
  renewal out = renewal_open w.closed stage kind.Decide out refl

  alike : bare_result bare_done (f w) ≡ bare_result bare_done (f books.bare)
  alike = d.alike w ∙ ap (λ x. bare_result bare_done (f x)) v.state.projection

  -- ---- it fails

  refused_is : (x : Refusal) → f books.bare ≡ Err x → decide r.position r.state s c ≡ refuses r.position r.state x
  refused_is x is = d.decides r.position r.state ∙ ap (λ q. decided r.position r.state (done_or_refused w q)) (err_of bare_done (f w) x (alike ∙ ap (bare_result bare_done) is))

  closed_stand : (b : Bool) → AreBooksOf sound (closed_books_if b at books) (closed_if b r.position r.state)
  closed_stand true = record {
    projection = ap (λ (x : Warehouse). record x { closed = Some r.position }) v.state.projection ∙ ap (λ p. record books.bare { closed = Some p }) (sym at_is);
    machine = v.state.machine;
    rows = v.state.rows;
    pins = v.state.pins;
  }
  closed_stand false = v.state

  closed_kept : (b : Bool) → kept_of (closed_if b r.position r.state) ≡ kept_of r.state
  closed_kept true = refl
  closed_kept false = refl

  -- a file that was built for it has failed: nothing was written, and the books close only where the clock stands at its last value
  undrafted_turn : (b : Bool) → closes r.moment (turn_with outcome.WriteFault) ≡ b → HasFailed books c f Unwritten → m ≡ story.moment → (now : Bool) (new_held : Option (List ℕ)) → IsPut (block (turn_with outcome.WriteFault) (Some (told_at at (reply_of Unwritten)))) now held new_held
      → KeepsInvariant o sound (closed_books_if b at books) story new_held h (turn_with outcome.WriteFault) now (refused || true)
  undrafted_turn b closes_is failed moment now new_held put =
      let e = turn_with outcome.WriteFault in
      let there = begun_moment o.script o.start h s n c stage due (λ first. drafted_later c books.bare.store failed.1 failed.2 (subst (λ st. IsTrue (is_due_at c st kind.Decide)) first d.due)) in
      cause_turn o sound books story held h running refused v e c stage due (short outcome.WriteFault) moment story (stays story)
      (comes_undrafted r c stage s n kind.Decide m d.due (fault_fits c failed.1) (same_moment r.moment story.moment m v.at there moment) (builds_is sound books r.state c v.state ∙ failed.2) (opened o sound books story held h running refused v failed.0))
      ran Unwritten refl tt refl (closed_if b r.position r.state) (ap (λ x. refuses r.position (closed_if x r.position r.state) no.WriteFault) closes_is) refl
      (counts_below story story (closes r.moment e) (counts_same story) (not_closing r.moment story.moment e v.at there moment)) at place now new_held put (closed_books_if b at books) (closed_stand b) (closed_kept b)

  -- It isn't done, whatever the cause.
  pub fails_turn : (cause : Cause) (b : Bool) → closes r.moment (turn_with outcome.WriteFault) ≡ b → HasFailed books c f cause → m ≡ story.moment → (now : Bool) (new_held : Option (List ℕ)) → IsPut (block (turn_with (outcome_of cause)) (Some (told_at at (reply_of cause)))) now held new_held
      → KeepsInvariant o sound (failed_books cause b at books) story new_held h (turn_with (outcome_of cause)) now (refused || is_refusal (reply_of cause))
  fails_turn (Replies rep) b closes_is failed moment now new_held put =
      cause_turn o sound books story held h running refused v (turn_with outcome.Stands) c stage due (short outcome.Stands) moment story (stays story) (comes_standing r c stage s n kind.Decide m d.due (renewal outcome.Stands))
      ran (Replies rep) refl tt refl r.state (refused_is failed.0 failed.1 ∙ ap (prints r.position r.state) (sym failed.2)) (ap is_written failed.2) (counts_same story) at place now new_held put books v.state refl
  fails_turn Unread b closes_is failed moment now new_held put = absurd failed
  fails_turn (Damaged damage) b closes_is failed moment now new_held put = absurd failed
  fails_turn Unwritten b closes_is failed moment now new_held put = undrafted_turn b closes_is failed moment now new_held put
  fails_turn NoMemory b closes_is failed moment now new_held put =
      cause_turn o sound books story held h running refused v (turn_with outcome.Memory) c stage due (short outcome.Memory) moment story (stays story)
      (comes_without_memory r c stage s n kind.Decide m d.due (memory_fits c failed.1) (fits_open w.closed false false false _ (opened o sound books story held h running refused v failed.0)))
      ran NoMemory refl tt refl r.state refl refl (counts_same story) at place now new_held put books v.state refl

  -- ---- it is done

  module _ (changed : Books) (rep : Reply) (change : IsChange sound books changed f rep) where
    found : (x : Warehouse × Reply) × (f w ≡ Ok x) × (bare_done x ≡ bare_done (change.projection.0, rep))
    found = ok_of bare_done (f w) _ (alike ∙ ap (bare_result bare_done) change.projection.1)

    abbrev after : Warehouse
    after = found.0.0

    done_is : f w ≡ Ok (after, rep)
    done_is = found.1 ∙ ap (λ x. Ok (after, x)) (plain_is found.0.1 rep change.plain (ap (λ (x : Warehouse × Reply). x.1) found.2 ∙ bare_plain rep change.plain))

    abbrev stood_state : State
    stood_state = stepped r.state after rep

    stood_books : AreBooksOf sound changed stood_state
    stood_books = change.follows r.state after v.state done_is

    decide_is : decide r.position r.state s c ≡ prints r.position stood_state rep
    decide_is = d.decides r.position r.state ∙ ap (λ q. decided r.position r.state (done_or_refused w q)) done_is

    stood_is : turned o.script r (turn_with outcome.Stands) ≡ prints r.position stood_state rep
    stood_is = turned_at o.script r (turn_with outcome.Stands) c stage due ∙ decide_is

    -- The books change, and nothing that a store keeps.
    pub changed_turn : is_written rep ≡ false → ((x : Warehouse) → f w ≡ Ok (x, rep) → kept_of (stepped r.state x rep) ≡ kept_of r.state) → m ≡ story.moment → (now : Bool) (new_held : Option (List ℕ)) → IsPut (block (turn_with outcome.Stands) (Some (told_at at rep))) now held new_held
        → KeepsInvariant o sound changed story new_held h (turn_with outcome.Stands) now (refused || is_refusal rep)
    changed_turn silent keeps moment now new_held put =
        told_turn o sound books story held h running refused v (turn_with outcome.Stands) c stage due (short outcome.Stands) moment story (stays story) (comes_standing r c stage s n kind.Decide m d.due (renewal outcome.Stands))
        ran refl stood_state rep decide_is silent (counts_same story) now new_held (puts_reply o sound books story held h running refused v (turn_with outcome.Stands) rep at place refl now new_held put) changed stood_books (keeps after done_is)

    module _ (writes_is : is_written rep ≡ true) (new : Story) (moment : m ≡ new.moment) (passes : Passes story new) (had : IsTrue sound → story.moment < last → AllStand o.stands story books.kept) (writes : IsTrue sound → Writes o.stands story new books.kept changed.kept) (now : Bool) (new_held : Option (List ℕ)) where
      had_kept : IsTrue sound → story.moment < last → AllStand o.stands story (kept_of r.state)
      had_kept ok below = subst (AllStand o.stands story) (sym (v.state.rows ok)) (had ok below)

      spans : (aim : Kept) → changed.kept ≡ aim → IsTrue sound → new.moment < last → Spans (StandsForEither o.stands (kept_of r.state) aim) story new
      spans aim is ok below =
          subst (λ x. Spans (StandsForEither o.stands x aim) story new) (sym (v.state.rows ok)) (subst (λ x. Spans (StandsForEither o.stands books.kept x) story new) is (writes ok below (had ok (below_before passes.later below))))
        where
          below_before : story.moment ≤ new.moment → new.moment < last → story.moment < last
          below_before later lt = omega (arith, later, lt)

      -- Its device work is done.
      pub written_turn : Counts story new false → (IsTrue sound → new.moment < last → AllStand o.stands new changed.kept) → IsPut (block (turn_with outcome.Stands) (Some (told_at at rep))) now held new_held
          → KeepsInvariantTelling o sound changed new new_held h (turn_with outcome.Stands) now (refused || is_refusal rep) rep
      written_turn counts stand put =
          wrote_turn o sound books story held h running refused v (turn_with outcome.Stands) c stage due (short outcome.Stands) new passes moment counts had_kept (comes_standing r c stage s n kind.Decide m d.due (renewal outcome.Stands)) ran refl stood_state rep decide_is now new_held
          (puts_reply o sound books story held h running refused v (turn_with outcome.Stands) rep at place refl now new_held put) writes_is changed stood_books (λ ok below. spans (kept_of stood_state) (sym (stood_books.rows ok)) ok below)
          (λ ok below. subst (AllStand o.stands new) (sym (stood_books.rows ok)) (stand ok below))

      -- Its device work has failed, and the books close.
      pub unwritten_turn : is_writing c ≡ true → Counts story new true → IsPut (block (turn_with outcome.WriteFault) (Some (told_at at (reply_of Unwritten)))) now held new_held
          → KeepsInvariant o sound (closed_books at books) new new_held h (turn_with outcome.WriteFault) now (refused || true)
      unwritten_turn can counts put =
          let e = turn_with outcome.WriteFault in
          let closing_is : closes r.moment e ≡ true = closing r.moment story.moment e v.at (subst (λ x. Rose story.moment x) (sym moment) passes.rose) refl in
          failed_turn o sound books story held h running refused v e c stage due (short outcome.WriteFault) new passes moment (counts_any story new (closes r.moment e) counts) had_kept
          (comes_unwritten r c stage s n kind.Decide m d.due (fault_fits c can) closing_is (renewal outcome.Stands) (ap (λ (t : Turned). wrote t.told) decide_is ∙ writes_is) (opened o sound books story held h running refused v change.opened))
          ran refl (closed_if true r.position r.state) (reply_of Unwritten) (ap (λ b. refuses r.position (closed_if b r.position r.state) no.WriteFault) closing_is) now new_held
          (puts_cause o sound books story held h running refused v e Unwritten at place refl tt now new_held put) refl closing_is changed.kept (closed_books at books) (closed_stand true) (closed_kept true)
          (λ ok. sym (stood_books.rows ok) ∙ sym (kept_after o.script r (stood e) ∙ ap (λ (t : Turned). kept_of t.state) stood_is))
          (λ ok below. spans changed.kept refl ok below)
