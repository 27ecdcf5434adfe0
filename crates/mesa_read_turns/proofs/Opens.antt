-- How a query's first turn keeps a vault.
use Rattle.std.proofs.Common.{◌≡◌, inl, inr, ℕ, ◌+◌, ◌<◌, ◌≤◌, ◌^◌, List, [], ◌∷◌, ◌++◌, length, Bool, true, false, ◌||◌, not, refl, sym, ◌∙◌, ap, subst, arith, Option, None, Some, Ok}
use Rattle.std.specs.Prelude.{◌⊎◌, vec_capacity}
use Rattle.std.proofs.lemmas.Bool.Decides.{leb_tells}
use Rattle.mesa_engine.specs.mesa_binding.Told.{IsDue as IsRefused}
use Rattle.mesa_engine.specs.mesa_binding.declared.failure.Failure.{Failure as AskedFailure}
use Rattle.mesa_engine.specs.mesa_binding.declared.failure.Failure.TheVariants as asked
use Rattle.mesa_read_turns.specs.Closing.{cause_of}
use Rattle.mesa_read_turns.specs.Opening.{asked_state}
use Rattle.mesa_delta.specs.declared.error.FileError.{FileError}
use Rattle.mesa_delta.specs.declared.error.FileError.TheVariants as file_error
use Rattle.mesa_disk.specs.Story.{Story, Unmoved}
use Rattle.mesa_engine.proofs.Turning.{passed_engine, told_engine}
use Rattle.mesa_engine.proofs.Undone.{not_skipped}
use Rattle.mesa_engine.specs.Engine.{IsEngine}
use Rattle.mesa_io.specs.Causes.{Rose, last}
use Rattle.mesa_file.specs.declared.damage.Damage.{Damage}
use Rattle.mesa_filter.specs.declared.words.QueryWords.{QueryWords}
use Rattle.mesa_filter.specs.declared.words.VersionWord.{VersionWord}
use Rattle.mesa_filter.specs.declared.words.VersionWord.TheVariants as asks
use Rattle.mesa_engine.specs.mesa_history_spec.Refused.{is_refusal}
use Rattle.mesa_engine.specs.mesa_history_spec.Run.{First, Answered, Finished, Place}
use Rattle.mesa_engine.specs.mesa_history_spec.Turns.{IsDue}
use Rattle.mesa_engine.proofs.Staying.{queried_vault, still_vault}
use Rattle.mesa_engine.specs.EngineState.{EngineState, books_of}
use Rattle.mesa_engine.specs.Failure.{cause_in, told_as}
use Rattle.mesa_engine.specs.Vault.{Origin, Starts, IsVault, outset_of}
use Rattle.mesa_engine.specs.Printing.{PrintsBlock}
use Rattle.mesa_engine.specs.declared.log.Log.{Log}
use Rattle.mesa_engine.specs.Memory.{Memory, hold_now, with_state}
use Rattle.mesa_model.specs.Query.{Answer, query_answer}
use Rattle.mesa_model.specs.declared.commands.Command.TheVariants as command
use Rattle.mesa_model.specs.declared.entries.Entry.{Entry}
use Rattle.mesa_model.specs.declared.entries.Kind.TheVariants as kind
use Rattle.mesa_model.specs.declared.entries.Outcome.TheVariants as outcome
use Rattle.mesa_engine.specs.mesa_history_spec.Output.{block}
use Rattle.mesa_engine.specs.mesa_history_spec.Rows.{Rows, no_rows}
use Rattle.mesa_open_files.specs.Opening.{Counted}
use Rattle.mesa_engine.proofs.mesa_invariant_spec.Asking.{pinned_open, pinned_turn, unpinned_ends, unpinned_turn}
use Rattle.mesa_engine.proofs.mesa_invariant_spec.Going.{takes_as}
use Rattle.mesa_engine.specs.mesa_invariant_spec.Causes.{Cause, Replies, Unread, Damaged, Unwritten, NoMemory, is_read_fault, outcome_of, reply_of, told_at}
use Rattle.mesa_engine.specs.mesa_invariant_spec.Printing.{IsPut}
use Rattle.mesa_engine.specs.mesa_invariant_spec.Queries.{HasNoAnswer, IsOpenFrom, IsPinned, IsUnanswered}
use Rattle.mesa_engine.specs.mesa_invariant_spec.Turns.{Shown, IsSeen, Takes, entry}
use Rattle.mesa_engine.specs.mesa_invariant_spec.Undamaged.{is_damaged}
use Rattle.mesa_engine.specs.mesa_invariant_spec.Invariant.{Outset, Counts, KeepsInvariant, run_at, run_of}

-- ---- why a query isn't answered

-- The rules answer none, or memory was wanting.
pub has_no_asked : (l : EngineState) (s : ℕ) (words : QueryWords) (f : AskedFailure) → ((rows : Rows) → IsRefused (query_answer (books_of rows l).bare s words) f) → (f ≡ asked.Memory → l.closed ≡ None) → HasNoAnswer (books_of no_rows l) s words (cause_in (told_as f))
has_no_asked l s words (asked.Refused x) due was_open = (x, due no_rows, refl)
has_no_asked l s words asked.Memory due was_open = was_open refl

-- No fault is why.
pub not_unread : (f : AskedFailure) → is_read_fault (cause_in (told_as f)) ≡ false
not_unread (asked.Refused x) = refl
not_unread asked.Memory = refl

-- They answer it, and a file wasn't opened.
pub has_no_files : (l : EngineState) (s : ℕ) (words : QueryWords) (cause : Cause) → IsUnanswered cause → l.closed ≡ None → (answer : Answer) → query_answer (books_of no_rows l).bare s words ≡ Ok answer → HasNoAnswer (books_of no_rows l) s words cause
has_no_files l s words (Replies r) un was_open answer is = absurd un
has_no_files l s words Unread un was_open answer is = (answer, is)
has_no_files l s words (Damaged damage) un was_open answer is = (answer, is, un)
has_no_files l s words Unwritten un was_open answer is = absurd un
has_no_files l s words NoMemory un was_open answer is = was_open

-- It hangs on no rows.
any_rows : (rows : Rows) (l : EngineState) (s : ℕ) (words : QueryWords) (cause : Cause) → HasNoAnswer (books_of no_rows l) s words cause → HasNoAnswer (books_of rows l) s words cause
any_rows rows l s words (Replies r) has = has
any_rows rows l s words Unread has = has
any_rows rows l s words (Damaged damage) has = has
any_rows rows l s words Unwritten has = has
any_rows rows l s words NoMemory has = has

-- ---- counts of faults

-- a fault that is answered rose a count
pub fault_counts : (old new : Story) (fault : Bool) → Counted old new fault → Counts old new fault
fault_counts old new fault c = record { faults = c.faults; reads = c.read_faults; rose = λ low answers. by (subst (Counted old new) answers c) }
  where
    by : Counted old new true → Rose old.faults new.faults ⊎ Rose old.read_faults new.read_faults
    by d = elim (leb_tells last new.faults) [
      | inl full ↦ inl (let most = full.1 in omega arith)
      | inr low ↦ elim (leb_tells last new.read_faults) [
        | inl full ↦ inr (let most = full.1 in omega arith)
        | inr lower ↦
            let more : old.faults + old.read_faults + 1 ≤ new.faults + new.read_faults = d.both low.1 lower.1 in
            elim (leb_tells (old.faults + 1) new.faults) [
              | inl rose ↦ inl (let less = rose.1 in omega arith)
              | inr same ↦ inr (let less = same.1 in omega arith)
            ]
      ]
    ]

-- no fault is answered, and then readers are given back
pub counts_then : (old middle new : Story) → Counts old middle false → middle.faults ≤ new.faults → middle.read_faults ≤ new.read_faults → Counts old new false
counts_then old middle new c faults reads = record { faults = omega (arith, c.faults, faults); reads = omega (arith, c.reads, reads); rose = λ low is. absurd (let never : false ≡ true = is in cc) }

-- ---- its turn

-- the books say that it is answered
abbrev pub Answers : EngineState → ℕ → QueryWords → Type 0
Answers l s words = (answer : Answer) × (query_answer (books_of no_rows l).bare s words ≡ Ok answer)

module _ (o : Outset) (g : Origin) (sound : Bool) (l : EngineState) (story : Story) (held : Option (List ℕ)) (h : List Entry) (running refused : Bool) (v : IsVault o g sound l story held h running refused)
    (s number : ℕ) (low : s < 2 ^ 16) (few : number < 2 ^ 32) (words : QueryWords) (m : ℕ) (moment : m ≡ story.moment) (ran : running ≡ true) (new : Story) (unmoved : Unmoved story new) (due : IsDue o.script (run_of o h) s number (command.Query words) First) where
  module _ (tells : Answer → Type 0) (pinned : IsPinned sound (books_of v.rows l) s words tells) (counts : Counts story new false) (at : ℕ) (place : at ≡ length h) where
    -- It is answered, and holds the files that it is answered from, or a pin does.
    pub opened_vault : l.closed ≡ None → (asked : VersionWord) → IsVault o g sound (asked_state l s asked at) new held (h ++ entry s number kind.Decide outcome.Stands m ∷ []) running refused
    opened_vault was_open asked = by asked (pinned_turn o sound (books_of v.rows l) story held h running refused v.invariant s number low few words m moment ran new unmoved due tells pinned counts)
      where
        by : (x : VersionWord) → KeepsInvariant o sound (books_of v.rows l) new held h (entry s number kind.Decide outcome.Stands m) running refused → IsVault o g sound (asked_state l s x at) new held (h ++ entry s number kind.Decide outcome.Stands m ∷ []) running refused
        by asks.Latest on = queried_vault o g sound l story held h running refused v (entry s number kind.Decide outcome.Stands m) new held running refused unmoved was_open s (hold_now l at) (λ i. record { at = place i; next = (hold_now l at).next }) on
        by (asks.At version) on = queried_vault o g sound l story held h running refused v (entry s number kind.Decide outcome.Stands m) new held running refused unmoved was_open s (hold_now l at) (λ i. record { at = place i; next = (hold_now l at).next }) on
        by (asks.Pin token) on = still_vault o g sound l story held h running refused v (entry s number kind.Decide outcome.Stands m) new held running refused unmoved on

    pub opened_from : IsOpenFrom o.script (run_of o (h ++ entry s number kind.Decide outcome.Stands m ∷ [])) s number words at tells
    opened_from = pinned_open o sound (books_of v.rows l) story held h running refused v.invariant s number low few words m moment ran new unmoved due tells pinned at place

  -- It isn't answered.
  pub unopened_vault : (cause : Cause) → HasNoAnswer (books_of no_rows l) s words cause → Counts story new (is_read_fault cause) → (at : ℕ) → at ≡ length h → (now : Bool) (new_held : Option (List ℕ))
      → IsPut (block (entry s number kind.Decide (outcome_of cause) m) (Some (told_at at (reply_of cause)))) now held new_held → IsVault o g sound l new new_held (h ++ entry s number kind.Decide (outcome_of cause) m ∷ []) now (refused || is_refusal (reply_of cause))
  unopened_vault cause has counts at place now new_held put =
      still_vault o g sound l story held h running refused v (entry s number kind.Decide (outcome_of cause) m) new new_held now (refused || is_refusal (reply_of cause)) unmoved
      (unpinned_turn o sound (books_of v.rows l) story held h running refused v.invariant s number low few words m moment ran new unmoved due cause (any_rows v.rows l s words cause has) counts at place now new_held put)

  -- It is over then.
  pub unopened_takes : (cause : Cause) → HasNoAnswer (books_of no_rows l) s words cause → (clock : ℕ) (shown : Shown) → shown.clock ≡ m → IsSeen o.script o.start shown → shown.history ≡ h ++ entry s number kind.Decide (outcome_of cause) shown.clock ∷ []
      → Takes o.script o.start (record { history = h; running = running; clock = clock }) shown s number kind.Decide Finished
  unopened_takes cause has clock shown at seen grew =
      takes_as o.script o.start (record { history = h; running = running; clock = clock }) shown s number (command.Query words) First kind.Decide Finished due (outcome_of cause)
      (unpinned_ends o sound (books_of v.rows l) story held h running refused v.invariant s number low few words shown.clock (at ∙ moment) ran new unmoved due cause (any_rows v.rows l s words cause has))
      grew (not_skipped cause ∙ ap not (sym ran)) (λ on. ran) seen

-- two answers that a query was given at one place are one
pub one_answer : (o : Outset) (h : List Entry) (s number at : ℕ) (words : QueryWords) (P Q : Answer → Type 0) (a : IsOpenFrom o.script (run_of o h) s number words at P) (b : IsOpenFrom o.script (run_of o h) s number words at Q) → b.answer ≡ a.answer
one_answer o h s number at words P Q a b = let same : Answered at b.answer ≡ Answered at a.answer = ap (λ (x : Place). x.stage) (sym b.due.place ∙ a.due.place) in cc

-- nothing is told of it
abbrev pub Untold : Answer → Type 0
Untold answer = Unit {0}

pub pinned_untold : (sound : Bool) (rows : Rows) (l : EngineState) (s : ℕ) (words : QueryWords) → Answers l s words → IsPinned sound (books_of rows l) s words Untold
pinned_untold sound rows l s words is = record { asked = is; answers = λ state answer are q. tt }

-- ---- the engine behind it

module _ {K : Type 0} (held : K → Option (List ℕ)) (faults : K → ℕ) (n : Starts) (turns sinks : ℕ) (m : Memory) (story new : Story) (log later : Log K) (v : IsEngine held faults n turns sinks m story log) (unmoved : Unmoved story new)
    (s number : ℕ) (low : s < 2 ^ 16) (few : number < 2 ^ 32) (words : QueryWords) (mo : ℕ) (moment : mo ≡ new.moment) (ran : not log.printer.broken ≡ true) (at : ℕ) (place : at ≡ length log.history.items)
    (due : (w : Rows) → IsDue n.script (run_at n.script (n.start w) log.history.items) s number (command.Query words) First) (roomy : vec_capacity log.history ≤ vec_capacity later.history) where
  same_moment : mo ≡ story.moment
  same_moment = moment ∙ unmoved.moment

  not_earlier : story.moment ≤ new.moment
  not_earlier = let same = unmoved.moment in omega arith

  pub opened_engine : (after : Memory) → Answers m.state s words → m.state.closed ≡ None → Counts story new false → after ≡ with_state (asked_state m.state s words.version at) m
      → later.history.items ≡ log.history.items ++ entry s number kind.Decide outcome.Stands mo ∷ [] → later.printer ≡ log.printer → later.refused ≡ log.refused → IsEngine held faults n turns sinks after new later
  opened_engine after is was_open counts gives grew printer refused =
      passed_engine held faults n turns sinks m after story new log later (entry s number kind.Decide outcome.Stands mo) v grew roomy moment not_earlier (let same = ap (λ (x : Memory). x.leased) gives in let leased = v.leased in omega (arith, same, leased)) (λ w sound. refl) printer refused
      (λ w b ok. subst (λ (x : Memory). IsVault (outset_of n w) (n.origin w) b x.state new (held log.printer.sink) (log.history.items ++ entry s number kind.Decide outcome.Stands mo ∷ []) (not log.printer.broken) log.refused) (sym gives)
      (opened_vault (outset_of n w) (n.origin w) b m.state story (held log.printer.sink) log.history.items (not log.printer.broken) log.refused (v.vault w b ok) s number low few words mo same_moment ran new unmoved (due w)
      Untold (pinned_untold b (v.vault w b ok).rows m.state s words is) counts at place was_open words.version))

  pub unopened_engine : (cause : Cause) → ((w : Rows) → n.sound w → is_damaged (outcome_of cause) ≡ false) → HasNoAnswer (books_of no_rows m.state) s words cause → Counts story new (is_read_fault cause) → later.history.items ≡ log.history.items ++ entry s number kind.Decide (outcome_of cause) mo ∷ []
      → PrintsBlock held faults log.printer later.printer (entry s number kind.Decide (outcome_of cause) mo) (told_at at (reply_of cause)) → later.refused ≡ (log.refused || is_refusal (reply_of cause)) → IsEngine held faults n turns sinks m new later
  unopened_engine cause undamaged has counts grew prints refused =
      told_engine held faults n turns sinks m m story new log later (entry s number kind.Decide (outcome_of cause) mo) v grew roomy moment not_earlier (let leased = v.leased in omega arith) undamaged (told_at at (reply_of cause)) (is_refusal (reply_of cause)) prints refused
      (λ put w b ok. unopened_vault (outset_of n w) (n.origin w) b m.state story (held log.printer.sink) log.history.items (not log.printer.broken) log.refused (v.vault w b ok) s number low few words mo same_moment ran new unmoved (due w) cause has counts at place (not later.printer.broken) (held later.printer.sink) put)

-- ---- damage

-- the rules tell none
pub rules_undamaged : (f : AskedFailure) → is_damaged (outcome_of (cause_in (told_as f))) ≡ true → ⊥
rules_undamaged (asked.Refused refusal) is = absurd cc
rules_undamaged asked.Memory is = absurd cc

-- what is told of files as damage is damage of one
pub met_damage : (e : FileError) → is_damaged (outcome_of (cause_of e)) ≡ true → (d : Damage) × (e ≡ file_error.Damaged d)
met_damage file_error.Read is = absurd cc
met_damage (file_error.Damaged d) is = (d, refl)
met_damage file_error.Memory is = absurd cc
