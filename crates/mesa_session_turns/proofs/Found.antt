-- What a session had before its turn, in what the turn finds.
use Rattle.std.proofs.Common.{◌≡◌, ℕ, ◌<◌, ◌≤◌, ◌==◌, ◌&&◌, true, not, IsTrue, List, [], ◌++◌, length, append_assoc, append-nil, sym, ap, ◌∙◌, subst, arith}
use Rattle.std.specs.Prelude.{Option, None, Some, Result, IfNone, IfSome}
use Rattle.std.specs.List.{AllByRecursion}
use Rattle.std.proofs.lemmas.List.{length-map, map-append}
use mathlib.Core.List.{IsPrefix}
use mathlib.Core.Logic.{dite}
use native.Mathlib.Decide.{ℕ_discrete}
use Rattle.mesa_turn.specs.History.{has}
use Rattle.mesa_turn.specs.Passes.{Known, Finds, IsExact}
use Rattle.mesa_batch.specs.Glance.{Sight}
use Rattle.mesa_batch.specs.declared.words.RowWords.{RowWords}
use Rattle.mesa_filter.specs.declared.words.QueryWords.{QueryWords}
use Rattle.mesa_model.specs.declared.commands.Script.{Script}
use Rattle.mesa_model.specs.declared.entries.Entry.{Entry}
use Rattle.mesa_model.specs.declared.entries.Kind.TheVariants as kind
use Rattle.mesa_model.specs.Entry.{IsShort, entry_of, history_of, number_of, numbers_of}
use Rattle.mesa_model.specs.Query.{Answer}
use Rattle.mesa_model.proofs.Numbers.{history_told}
use Rattle.mesa_core.specs.mesa_history_spec.Run.{State, Finished, place_of, begins}
use Rattle.mesa_core.specs.mesa_history_spec.Turns.{place_then}
use Rattle.mesa_core.specs.mesa_history_spec.Legal.{AllFit}
use Rattle.mesa_core.proofs.mesa_history_spec.Due.{fit_below}
use Rattle.mesa_core.specs.mesa_history_spec.Rows.{Rows, no_rows}
use Rattle.mesa_core.specs.mesa_invariant_spec.Queries.{IsOpenFrom}
use Rattle.mesa_core.specs.mesa_invariant_spec.Turns.{Shown, IsTurn, IsSeen}
use Rattle.mesa_core.specs.mesa_invariant_spec.Invariant.{run_at}
use Rattle.mesa_open_files.specs.declared.prepared.LoadError.{LoadError}
use Rattle.mesa_open_files.specs.declared.prepared.Prepared.{Prepared}
use Rattle.mesa_open_files.specs.declared.querying.Pinned.{Pinned}
use Rattle.mesa_core.proofs.Behind.{comes_in_time, place_found, whole_found}
use Rattle.mesa_core.proofs.Turning.{found_history}
use Rattle.mesa_open_files.specs.Batches.{HasPrepared}
use Rattle.mesa_core.specs.Pins.{CanBeAnswered, IsOpenQuery, KnownPin, TakesQuery, known_pin}
use Rattle.mesa_core.specs.Works.{WasGranted}
use Rattle.mesa_session_turns.specs.Loads.{StaysPrepared}

module _ (p : Known) (ticket : ℕ) (h : List Entry) (finds : Finds p ticket (numbers_of h)) (short : AllByRecursion IsShort h) where
  -- there is room for the turn
  pub room_left : (room : ℕ) → p.limit ≤ room → length h < room
  room_left room le = let below = finds.below in let count = finds.count in let same = length-map h number_of in omega (arith, below, count, same, le)

  abbrev later : List Entry
  later = history_of finds.seen.0

  whole : history_of p.seen ++ later ≡ h
  whole = found_history p ticket h finds short

  -- what was so somewhere in what the pass had seen was so somewhere in the history
  longer : (past between : List Entry) → past ++ between ≡ history_of p.seen → past ++ (between ++ later) ≡ h
  longer past between is = sym (append_assoc past between later) ∙ (ap (λ (l : List Entry). l ++ later) is ∙ whole)

  -- a task or a recast was granted before
  pub granted_found : {K : Type 0} (granted : List Entry → K → Type 0) (t : K) → WasGranted granted (history_of p.seen) t → WasGranted granted h t
  granted_found granted t was = record {
    past = was.past;
    later = was.later ++ later;
    whole = longer was.past was.later was.whole;
    was = was.was;
  }

  -- what was prepared of a load stands, if the generation does
  pub prepared_found : {M : Type 0} (bytes : M → Option (List ℕ)) (id_of : M → ℕ) (sees : List Entry → Sight) (generation : ℕ) (rows : List RowWords) (made : Result (Prepared M) LoadError)
      → StaysPrepared bytes id_of sees (history_of p.seen) generation rows made → (sees h).generation ≡ generation → HasPrepared bytes id_of (sees h) rows made
  prepared_found bytes id_of sees generation rows made stays same =
      subst (λ (l : List Entry). HasPrepared bytes id_of (sees l) rows made) whole (stays later (ap (λ (l : List Entry). (sees l).generation) whole ∙ same))

  -- a query is open still
  module _ (exact : IsExact p) (script : Script) (few : length script.sessions ≤ 8) (from : Rows → State) (fits : AllFit script (begins (from no_rows)) h) (session : ℕ) (held : has p.names session ≡ true) (names : session ≡ 0 → (n : ℕ) → n < 8 → has p.names n ≡ true) where
    told : history_of (numbers_of h) ≡ h
    told = history_told h short

    -- the prologue's turn finds what its pass had seen
    same_found : session ≡ 0 → history_of p.seen ≡ h
    same_found zeroth =
        let same : numbers_of h ≡ p.seen = whole_found p ticket (numbers_of h) finds exact (names zeroth) (subst (AllByRecursion (λ (e : Entry). e.session < 8)) (sym told) (fit_below script (begins (from no_rows)) h 8 few fits)) in
        sym (ap history_of same) ∙ told

    opened_from : (w : Rows) (number position : ℕ) (words : QueryWords) (tells : Answer → Type 0) → IsOpenFrom script (run_at script (from w) (history_of p.seen)) session number words position tells → IsOpenFrom script (run_at script (from w) h) session number words position tells
    opened_from w number position words tells was = record {
      answer = was.answer;
      due = record {
        known = was.due.known;
        place = ap (λ (l : List Entry). place_of (run_at script (from w) l) session) (sym told) ∙ (place_found script (from w) p ticket session (numbers_of h) finds exact held ∙ was.due.place);
        prologue = dite (ℕ_discrete session 0)
            (λ zeroth. subst (λ (l : List Entry). IsTrue (not ((run_at script (from w) l).prologue_over && (session == 0)))) (same_found zeroth) was.due.prologue)
            (λ other. comes_in_time (run_at script (from w) h).prologue_over session (λ zeroth. absurd (other zeroth)));
      };
      told = was.told;
    }

    pub open_found : (number position : ℕ) (tells : List Entry → Rows → Answer → Type 0) → IsOpenQuery script from (history_of p.seen) session number position tells → IsOpenQuery script from h session number position tells
    open_found number position tells was = record {
      words = was.words;
      past = was.past;
      later = was.later ++ later;
      whole = longer was.past was.later was.whole;
      opened = λ w. opened_from w number position was.words (tells was.past w) (was.opened w);
    }

-- what was so somewhere in what a pass had seen is so somewhere in what it sees later
pub granted_later : {K : Type 0} (granted : List Entry → K → Type 0) (t : K) (old new : List ℕ) → IsPrefix old new → WasGranted granted (history_of old) t → WasGranted granted (history_of new) t
granted_later granted t old new more was = record {
  past = was.past;
  later = was.later ++ history_of more.0;
  whole = sym (append_assoc was.past was.later (history_of more.0)) ∙ (ap (λ (l : List Entry). l ++ history_of more.0) was.whole ∙ (sym (map-append entry_of old more.0) ∙ ap history_of more.1));
  was = was.was;
}

-- a task that a turn granted was granted by the end of it
pub granted_then : {T K : Type 0} (known : T → K) (granted : List Entry → K → Type 0) (r : Option T) (h now : List Entry) → h ≡ now → IfSome r (λ t. granted h (known t)) → IfSome r (λ t. WasGranted granted now (known t))
granted_then known granted (Some t) h now same is = record { past = h; later = []; whole = append-nil h ∙ same; was = is }
granted_then known granted None h now same is = is

-- ---- a query's first turn

module _ {R : Type 0} (bytes : R → Option (List ℕ)) (script : Script) (from : Rows → State) (tells : List Entry → KnownPin → Rows → Answer → Type 0) (old new : Shown) (session number : ℕ) where
  pub query_turn : (r : Option (Pinned R)) → TakesQuery bytes script from tells old new session number r → IsTurn old new session number kind.Decide
  query_turn (Some p) takes = takes.0.turn
  query_turn None takes = takes.turn

  pub query_seen : (r : Option (Pinned R)) → TakesQuery bytes script from tells old new session number r → IsSeen script (from no_rows) new
  query_seen (Some p) takes = takes.0.seen
  query_seen None takes = takes.seen

  pub query_opened : (r : Option (Pinned R)) (now : List Entry) → new.history ≡ now → TakesQuery bytes script from tells old new session number r
      → IfSome r (λ p. IsOpenQuery script from now session number p.at (λ past. tells past (known_pin bytes p)) × CanBeAnswered bytes p)
  query_opened (Some p) now same takes = (subst (λ (h : List Entry). IsOpenQuery script from h session number p.at (λ past. tells past (known_pin bytes p))) same takes.0.opened, takes.1)
  query_opened None now same takes = tt

  pub query_over : (r : Option (Pinned R)) → TakesQuery bytes script from tells old new session number r → IfNone r (place_of (run_at script (from no_rows) new.history) session ≡ place_then (not old.running) number Finished)
  query_over (Some p) takes = tt
  query_over None takes = takes.place
