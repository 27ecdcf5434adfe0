-- The turns of a query.
use Rattle.std.proofs.Common.{◌≡◌, ℕ, ◌<◌, ◌^◌, List, [], ◌∷◌, ◌++◌, length, Bool, true, false, not, ◌||◌, ◌&&◌, ◌==◌, IsTrue, refl, sym, ◌∙◌, ap, subst, Option, None, Some, Ok}
use Rattle.std.specs.Prelude.{is_none, is_some}
use Rattle.mesa_disk.specs.mesa_io.Causes.{last}
use Rattle.mesa_disk.specs.Story.{Story, Unmoved}
use Rattle.mesa_history_spec.specs.mesa_filter.declared.words.QueryWords.{QueryWords}
use Rattle.mesa_history_spec.specs.mesa_model.declared.commands.Command.{Command}
use Rattle.mesa_history_spec.specs.mesa_model.declared.commands.Command.TheVariants as command
use Rattle.mesa_history_spec.specs.mesa_model.declared.entries.Entry.{Entry}
use Rattle.mesa_history_spec.specs.mesa_model.declared.entries.Kind.TheVariants as kind
use Rattle.mesa_history_spec.specs.mesa_model.declared.entries.Outcome.{Outcome}
use Rattle.mesa_history_spec.specs.mesa_model.declared.entries.Outcome.TheVariants as outcome
use Rattle.mesa_history_spec.specs.mesa_model.declared.replies.Page.{Page}
use Rattle.mesa_history_spec.specs.mesa_model.declared.replies.Refusal.TheVariants as no
use Rattle.mesa_history_spec.specs.mesa_model.declared.replies.Reply.TheVariants as reply
use Rattle.mesa_history_spec.specs.mesa_model.Entry.{IsShort}
use Rattle.mesa_history_spec.specs.mesa_model.Query.{Answer, query_answer}
use Rattle.mesa_history_spec.specs.mesa_model.Warehouse.{Warehouse}
use Rattle.mesa_history_spec.specs.Run.{First, Answered, Finished, Stage, Told, Run, begins}
use Rattle.mesa_history_spec.specs.Replay.{Turned, decided_query, leaves, prints, turn_of, some_damage}
use Rattle.mesa_history_spec.specs.Legal.{is_written}
use Rattle.mesa_history_spec.specs.Refused.{is_refusal}
use Rattle.mesa_history_spec.specs.Turns.{IsDue}
use Rattle.mesa_history_spec.proofs.More.{runs_more}
use Rattle.mesa_history_spec.proofs.Turns.{turned_at, goes_to, prologue_after}
use Rattle.mesa_history_spec.specs.Output.{block}
use Rattle.mesa_history_spec.specs.Bare.{bare_answer, bare_page, bare_result}
use Rattle.mesa_history_spec.proofs.BareSteps.{query-bare}
use Rattle.mesa_invariant_spec.specs.Books.{Books}
use Rattle.mesa_invariant_spec.specs.Causes.{Cause, Replies, Unread, Damaged, Unwritten, NoMemory, is_read_fault, outcome_of, reply_of, told_at}
use Rattle.mesa_invariant_spec.specs.Printing.{IsBlockButRows, IsPut}
use Rattle.mesa_invariant_spec.specs.Queries.{HasNoAnswer, IsPinned, IsOpenFrom, MayClose, ClosesWith, closing_outcome, closing_told, closing_fault}
use Rattle.mesa_invariant_spec.specs.Turns.{entry}
use Rattle.mesa_invariant_spec.specs.Invariant.{Outset, run_of, HoldsInvariant, KeepsInvariant, Counts}
use Rattle.mesa_invariant_spec.proofs.Coming.{or_right, fits_open, renewal_open, renewal_later, comes_standing, comes_without_memory, comes_unread, comes_damaged}
use Rattle.mesa_invariant_spec.proofs.Pieces.{with_rows}
use Rattle.mesa_invariant_spec.proofs.Projections.{err_of, ok_of}
use Rattle.mesa_invariant_spec.proofs.Turning.{opened, position_at, quiet_turn, mute_turn, cause_turn}

-- a query that is answered is answered by a warehouse that is open
answered_open : (w : Warehouse) (s : ℕ) (words : QueryWords) (answer : Answer) → query_answer w s words ≡ Ok answer → w.closed ≡ None
answered_open w s words answer is = by w.closed refl
  where
    by : (o : Option ℕ) → w.closed ≡ o → w.closed ≡ None
    by None e = e
    by (Some p) e = let never : query_answer (record w { closed = Some p }) s words ≡ Ok answer = subst (λ o. query_answer (record w { closed = o }) s words ≡ Ok answer) e is in absurd cc

module _ (o : Outset) (sound : Bool) (books : Books) (story : Story) (held : Option (List ℕ)) (h : List Entry) (running refused : Bool) (v : HoldsInvariant o sound books story held h running refused)
    (s n : ℕ) (low : s < 2 ^ 16) (few : n < 2 ^ 32) (words : QueryWords) (m : ℕ) (moment : m ≡ story.moment) (ran : running ≡ true) (new : Story) (unmoved : Unmoved story new) where
  abbrev r : Run
  r = run_of o h

  abbrev asks : Command
  asks = command.Query words

  short : (e : Entry) → e.session ≡ s → e.command ≡ n → IsShort e
  short e same_session same_command = record { session = subst (λ (x : ℕ). x < 2 ^ 16) (sym same_session) low; command = subst (λ (x : ℕ). x < 2 ^ 32) (sym same_command) few }

  -- ---- its first turn

  module _ (due : IsDue o.script (run_of o h) s n (command.Query words) First) where
    abbrev decides_with : Outcome → Entry
    decides_with out = entry s n kind.Decide out m

    same_answer : bare_result bare_answer (query_answer r.state.warehouse s words) ≡ bare_result bare_answer (query_answer books.bare s words)
    same_answer = query-bare r.state.warehouse s words ∙ ap (λ x. bare_result bare_answer (query_answer x s words)) v.state.projection

    answered : (answer : Answer) → query_answer books.bare s words ≡ Ok answer → (x : Answer) × (query_answer r.state.warehouse s words ≡ Ok x) × (bare_answer x ≡ bare_answer answer)
    answered answer is = ok_of bare_answer (query_answer r.state.warehouse s words) _ (same_answer ∙ ap (bare_result bare_answer) is)

    -- it is answered

    module _ (tells : Answer → Type 0) (pinned : IsPinned sound books s words tells) where
      abbrev given : (x : Answer) × (query_answer r.state.warehouse s words ≡ Ok x) × (bare_answer x ≡ bare_answer pinned.asked.0)
      given = answered pinned.asked.0 pinned.asked.1

      pinned_is : turn_of r asks (decides_with outcome.Stands) First outcome.Stands ≡ leaves r.state (Answered r.position given.0)
      pinned_is = ap (decided_query r.position r.state) given.1

      pub pinned_turn : Counts story new false → KeepsInvariant o sound books new held h (decides_with outcome.Stands) running refused
      pinned_turn counts =
          mute_turn o sound books story held h running refused v (decides_with outcome.Stands) asks First due (short _ refl refl) moment new unmoved
          (comes_standing r asks First s n kind.Decide m refl (renewal_open r.state.warehouse.closed First kind.Decide outcome.Stands refl)) (ap not (sym ran)) r.state (Answered r.position given.0) pinned_is counts books v.state refl

      pub pinned_open : (at : ℕ) → at ≡ length h → IsOpenFrom o.script (run_of o (h ++ decides_with outcome.Stands ∷ [])) s n words at tells
      pinned_open at place = record {
        answer = given.0;
        due = record {
          known = due.known;
          place = goes_to o.script (begins o.start) h (decides_with outcome.Stands) asks First due _ (turned_at o.script r (decides_with outcome.Stands) asks First due ∙ pinned_is)
              ∙ ap (λ q. record { number = n; stage = Answered q given.0 }) (sym (position_at o sound books story held h running refused v at place));
          prologue = subst (λ (x : Run). IsTrue (not (x.prologue_over && (s == 0)))) (sym (runs_more o.script (begins o.start) h (decides_with outcome.Stands))) (prologue_after o.script r (decides_with outcome.Stands) due.prologue);
        };
        told = pinned.answers r.state given.0 v.state given.1;
      }

    -- it isn't

    prints_none : (answer : Answer) → query_answer books.bare s words ≡ Ok answer → is_none (decided_query r.position r.state (query_answer r.state.warehouse s words)).told ≡ true
    prints_none answer is = ap (λ q. is_none (decided_query r.position r.state q).told) (answered answer is).1

    still_open : (answer : Answer) → query_answer books.bare s words ≡ Ok answer → r.state.warehouse.closed ≡ None
    still_open answer is = answered_open r.state.warehouse s words (answered answer is).0 (answered answer is).1

    pub unpinned_turn : (cause : Cause) → HasNoAnswer books s words cause → Counts story new (is_read_fault cause) → (at : ℕ) → at ≡ length h → (now : Bool) (new_held : Option (List ℕ)) → IsPut (block (decides_with (outcome_of cause)) (Some (told_at at (reply_of cause)))) now held new_held
        → KeepsInvariant o sound books new new_held h (decides_with (outcome_of cause)) now (refused || is_refusal (reply_of cause))
    unpinned_turn (Replies rep) has counts at place now new_held put =
        cause_turn o sound books story held h running refused v (decides_with outcome.Stands) asks First due (short _ refl refl) moment new unmoved
        (comes_standing r asks First s n kind.Decide m refl (renewal_open r.state.warehouse.closed First kind.Decide outcome.Stands refl)) ran (Replies rep) refl tt refl r.state
        (ap (decided_query r.position r.state) (err_of bare_answer (query_answer r.state.warehouse s words) has.0 (same_answer ∙ ap (bare_result bare_answer) has.1)) ∙ ap (prints r.position r.state) (sym has.2))
        (ap is_written has.2) counts at place now new_held put books v.state refl
    unpinned_turn Unread has counts at place now new_held put =
        cause_turn o sound books story held h running refused v (decides_with outcome.ReadFault) asks First due (short _ refl refl) moment new unmoved
        (comes_unread r asks First s n kind.Decide m refl refl (prints_none has.0 has.1) (fits_open r.state.warehouse.closed false false false false (still_open has.0 has.1))) ran Unread refl tt refl r.state refl refl counts at place now new_held put books v.state refl
    unpinned_turn (Damaged damage) has counts at place now new_held put =
        cause_turn o sound books story held h running refused v (decides_with outcome.Damaged) asks First due (short _ refl refl) moment new unmoved
        (comes_damaged r asks First s n kind.Decide m refl refl (prints_none has.0 has.1) (fits_open r.state.warehouse.closed false false false false (still_open has.0 has.1))) ran (Damaged damage) refl has.2 refl r.state refl refl counts at place now new_held put books v.state refl
    unpinned_turn Unwritten has counts at place now new_held put = absurd has
    unpinned_turn NoMemory has counts at place now new_held put =
        cause_turn o sound books story held h running refused v (decides_with outcome.Memory) asks First due (short _ refl refl) moment new unmoved
        (comes_without_memory r asks First s n kind.Decide m refl refl (fits_open r.state.warehouse.closed false false false false (opened o sound books story held h running refused v has))) ran NoMemory refl tt refl r.state refl refl counts at place now new_held put books v.state refl

    -- and is over
    pub unpinned_ends : (cause : Cause) → HasNoAnswer books s words cause → (turn_of r asks (decides_with (outcome_of cause)) First (outcome_of cause)).stage ≡ Finished
    unpinned_ends (Replies rep) has = ap (λ q. (decided_query r.position r.state q).stage) (err_of bare_answer (query_answer r.state.warehouse s words) has.0 (same_answer ∙ ap (bare_result bare_answer) has.1))
    unpinned_ends Unread has = refl
    unpinned_ends (Damaged damage) has = refl
    unpinned_ends Unwritten has = refl
    unpinned_ends NoMemory has = refl

  -- ---- its close

  module _ (at : ℕ) (tells : Answer → Type 0) (open' : IsOpenFrom o.script (run_of o h) s n words at tells) where
    abbrev stage : Stage
    stage = Answered at open'.answer

    abbrev closes_with : Outcome → Entry
    closes_with out = entry s n kind.Close out m

    -- what Replay tells
    abbrev closed_told : Option Cause → Told
    closed_told None = record { at = at; reply = reply.Page open'.answer.page; heading = open'.answer.heading }
    closed_told (Some (Replies r')) = told_at at r'
    closed_told (Some Unread) = told_at at (reply.Refused no.ReadFault)
    closed_told (Some (Damaged damage)) = told_at at (reply.Refused (no.Damaged some_damage))
    closed_told (Some Unwritten) = told_at at (reply.Refused no.WriteFault)
    closed_told (Some NoMemory) = told_at at (reply.Refused no.Memory)

    abbrev closed_turned : Option Cause → Turned
    closed_turned cause = record { state = r.state; told = Some (closed_told cause); stage = Finished }

    open_still : IsTrue (is_none r.state.warehouse.closed || false || false || false || true)
    open_still = or_right (is_none r.state.warehouse.closed || false || false || false) true refl

    -- a page with other rows is printed in the place of the answer's
    rows_alike : {piece : List ℕ} (page : Page) → bare_page page ≡ bare_page open'.answer.page → piece ≡ block (closes_with outcome.Stands) (Some (record { at = at; reply = reply.Page page; heading = open'.answer.heading }))
        → IsBlockButRows (closes_with outcome.Stands) (Some (closed_told None)) piece
    rows_alike page same is = record {
      shown = Some (record { at = at; reply = reply.Page page; heading = open'.answer.heading });
      alike = (λ i. Some (record { at = at; reply = reply.Page (same i); heading = open'.answer.heading }));
      block = is;
    }

    pub close_turn : (cause : Option Cause) → MayClose cause → Counts story new (closing_fault cause) → (now : Bool) (new_held : Option (List ℕ)) (piece : List ℕ)
        → ClosesWith (closes_with (closing_outcome cause)) at open'.answer cause piece → (IsTrue sound → m < last → piece ≡ block (closes_with (closing_outcome cause)) (Some (closing_told at open'.answer cause))) → IsPut piece now held new_held
        → KeepsInvariant o sound books new new_held h (closes_with (closing_outcome cause)) now (refused || is_some cause)
    close_turn None may counts now new_held piece shows is put =
        quiet_turn o sound books story held h running refused v (closes_with outcome.Stands) asks stage open'.due (short _ refl refl) moment new unmoved
        (comes_standing r asks stage s n kind.Close m refl (renewal_later r.state.warehouse.closed stage kind.Close outcome.Stands refl)) (ap not (sym ran)) (closed_turned None) refl refl counts now new_held
        (ran, record { piece = piece; anyhow = rows_alike shows.0 shows.1 shows.2; block = is; put = put }) books v.state refl
    close_turn (Some (Replies r')) may counts now new_held piece shows is put = absurd may
    close_turn (Some Unread) may counts now new_held piece shows is put =
        quiet_turn o sound books story held h running refused v (closes_with outcome.ReadFault) asks stage open'.due (short _ refl refl) moment new unmoved
        (comes_unread r asks stage s n kind.Close m refl refl refl open_still) (ap not (sym ran)) (closed_turned (Some Unread)) refl refl counts now new_held
        (ran, record { piece = piece; anyhow = with_rows _ _ _ shows; block = is; put = put }) books v.state refl
    close_turn (Some (Damaged damage)) may counts now new_held piece shows is put =
        quiet_turn o sound books story held h running refused v (closes_with outcome.Damaged) asks stage open'.due (short _ refl refl) moment new unmoved
        (comes_damaged r asks stage s n kind.Close m refl refl refl open_still) (ap not (sym ran)) (closed_turned (Some (Damaged damage))) refl refl counts now new_held
        (ran, record { piece = piece; anyhow = with_rows _ _ _ (record { damage = damage; is = may; same = shows }); block = λ ok low. record { damage = damage; is = may; same = is ok low }; put = put }) books v.state refl
    close_turn (Some Unwritten) may counts now new_held piece shows is put = absurd may
    close_turn (Some NoMemory) may counts now new_held piece shows is put =
        quiet_turn o sound books story held h running refused v (closes_with outcome.Memory) asks stage open'.due (short _ refl refl) moment new unmoved
        (comes_without_memory r asks stage s n kind.Close m refl refl open_still) (ap not (sym ran)) (closed_turned (Some NoMemory)) refl refl counts now new_held
        (ran, record { piece = piece; anyhow = with_rows _ _ _ shows; block = is; put = put }) books v.state refl
