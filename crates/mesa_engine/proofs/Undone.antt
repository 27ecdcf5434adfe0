-- How a turn that does nothing for its command keeps a vault.
use Rattle.std.proofs.Common.{◌≡◌, ℕ, ◌<◌, ◌^◌, List, [], ◌∷◌, ◌++◌, length, Bool, true, false, ◌||◌, not, refl, sym, ◌∙◌, ap, subst, Option, Some, Result, IsTrue}
use Rattle.mesa_disk.specs.Story.{Story}
use Rattle.mesa_print.specs.mesa_filter.declared.words.QueryWords.{QueryWords}
use Rattle.mesa_model.specs.declared.commands.Command.{Command}
use Rattle.mesa_model.specs.declared.commands.Command.TheVariants as command
use Rattle.mesa_model.specs.declared.commands.ExplainWords.{ExplainWords}
use Rattle.mesa_model.specs.declared.entries.Entry.{Entry}
use Rattle.mesa_model.specs.declared.entries.Kind.{Kind}
use Rattle.mesa_model.specs.declared.entries.Kind.TheVariants as kind
use Rattle.mesa_model.specs.declared.entries.Outcome.TheVariants as outcome
use Rattle.mesa_model.specs.declared.replies.Reply.{Reply}
use Rattle.mesa_invariant_spec.specs.mesa_history_spec.Legal.{is_answered, is_due_at}
use Rattle.mesa_invariant_spec.specs.mesa_history_spec.Machine.{Claim, claim_of, recast_claim_of}
use Rattle.mesa_invariant_spec.specs.mesa_history_spec.Replay.{closes, is_skip}
use Rattle.mesa_invariant_spec.specs.mesa_history_spec.Refused.{is_refusal}
use Rattle.mesa_invariant_spec.specs.mesa_history_spec.Run.{Stage, First, Looked, Finished}
use Rattle.mesa_invariant_spec.specs.mesa_history_spec.Turns.{IsDue}
use Rattle.mesa_model.specs.Load.{load_batch}
use Rattle.mesa_model.specs.Pins.{make_pin, release_pin}
use Rattle.mesa_model.specs.Tables.{alter_table, make_table, make_view}
use Rattle.mesa_model.specs.Versions.{expire_to}
use Rattle.mesa_invariant_spec.specs.mesa_history_spec.Output.{block}
use Rattle.mesa_invariant_spec.specs.mesa_history_spec.Rows.{Rows}
use Rattle.mesa_invariant_spec.specs.Books.{Books}
use Rattle.mesa_invariant_spec.specs.Causes.{Cause, Replies, Unread, Damaged, Unwritten, NoMemory, outcome_of, reply_of, told_at, is_read_fault}
use Rattle.mesa_invariant_spec.specs.Changes.{Doing, IsDecided, HasFailed, HasNoPlan, failed_books}
use Rattle.mesa_invariant_spec.specs.Printing.{IsPut}
use Rattle.mesa_invariant_spec.specs.Queries.{HasNoAnswer}
use Rattle.mesa_invariant_spec.specs.Turns.{Shown, IsSeen, Takes, entry, is_simple}
use Rattle.mesa_invariant_spec.specs.Undamaged.{is_damaged}
use Rattle.mesa_invariant_spec.specs.Invariant.{Outset, Counts, KeepsInvariant, run_of}
use Rattle.mesa_invariant_spec.specs.Works.{HasNoClaim}
use Rattle.mesa_invariant_spec.proofs.Asking.{unpinned_turn, unpinned_ends}
use Rattle.mesa_invariant_spec.proofs.Changing.{alter_decided, expire_decided, load_decided, pin_decided, release_decided, table_decided, view_decided, fails_turn}
use Rattle.mesa_invariant_spec.proofs.Going.{publish_takes, simple_takes, takes_as}
use Rattle.mesa_invariant_spec.proofs.Reading.{unexplained_turn}
use Rattle.mesa_invariant_spec.proofs.Turning.{stays, counts_same, skipped_turn}
use Rattle.mesa_invariant_spec.proofs.Working.{ungranted_turn, ungranted_ends}
use Rattle.mesa_engine.specs.EngineState.{EngineState, books_of}
use Rattle.mesa_engine.specs.Vault.{Origin, IsVault}
use Rattle.mesa_engine.proofs.Staying.{still_vault}
use Rattle.mesa_engine.specs.Failing.{HasNotDone, is_of_device, deciding_stage, deciding_kind}

-- ---- causes hang on no rows

failed_alike : (a b : Rows) (l : EngineState) (c : Command) (f : Doing) (cause : Cause) → HasFailed (books_of a l) c f cause → HasFailed (books_of b l) c f cause
failed_alike a b l c f (Replies r) has = has
failed_alike a b l c f Unread has = has
failed_alike a b l c f (Damaged damage) has = has
failed_alike a b l c f Unwritten has = has
failed_alike a b l c f NoMemory has = has

plan_alike : (a b : Rows) (l : EngineState) (words : ExplainWords) (cause : Cause) → HasNoPlan (books_of a l) words cause → HasNoPlan (books_of b l) words cause
plan_alike a b l words (Replies r) has = has
plan_alike a b l words Unread has = has
plan_alike a b l words (Damaged damage) has = has
plan_alike a b l words Unwritten has = has
plan_alike a b l words NoMemory has = has

answer_alike : (a b : Rows) (l : EngineState) (s : ℕ) (words : QueryWords) (cause : Cause) → HasNoAnswer (books_of a l) s words cause → HasNoAnswer (books_of b l) s words cause
answer_alike a b l s words (Replies r) has = has
answer_alike a b l s words Unread has = has
answer_alike a b l s words (Damaged damage) has = has
answer_alike a b l s words Unwritten has = has
answer_alike a b l s words NoMemory has = has

claim_alike : (a b : Rows) (l : EngineState) (asked : Result Claim Reply) (cause : Cause) → HasNoClaim (books_of a l) asked cause → HasNoClaim (books_of b l) asked cause
claim_alike a b l asked (Replies r) has = has
claim_alike a b l asked Unread has = has
claim_alike a b l asked (Damaged damage) has = has
claim_alike a b l asked Unwritten has = has
claim_alike a b l asked NoMemory has = has

pub undone_alike : (a b : Rows) (l : EngineState) (at s : ℕ) (c : Command) (cause : Cause) → HasNotDone (books_of a l) at s c cause → HasNotDone (books_of b l) at s c cause
undone_alike a b l at s (command.Load rows) cause has = failed_alike a b l (command.Load rows) (λ w. load_batch w rows) cause has
undone_alike a b l at s (command.Table words) cause has = failed_alike a b l (command.Table words) (λ w. make_table w words) cause has
undone_alike a b l at s (command.View words) cause has = failed_alike a b l (command.View words) (λ w. make_view w words) cause has
undone_alike a b l at s (command.Alter words) cause has = failed_alike a b l (command.Alter words) (λ w. alter_table w words) cause has
undone_alike a b l at s (command.Pin asked) cause has = failed_alike a b l (command.Pin asked) (λ w. make_pin w s asked) cause has
undone_alike a b l at s (command.Release token) cause has = failed_alike a b l (command.Release token) (λ w. release_pin w s token) cause has
undone_alike a b l at s (command.Expire table version) cause has = failed_alike a b l (command.Expire table version) (λ w. expire_to w table version) cause has
undone_alike a b l at s (command.Explain words) cause has = plan_alike a b l words cause has
undone_alike a b l at s (command.Query words) cause has = answer_alike a b l s words cause has
undone_alike a b l at s (command.Work words) cause has = claim_alike a b l (claim_of (books_of a l).bare (books_of a l).machine at words.table) cause has
undone_alike a b l at s (command.Recast words) cause has = claim_alike a b l (recast_claim_of (books_of a l).bare (books_of a l).machine at words) cause has

-- a command that is to be decided has no answer open
pub deciding_unanswered : (c : Command) → is_answered (deciding_stage c) ≡ false
deciding_unanswered (command.Load rows) = refl
deciding_unanswered (command.Table words) = refl
deciding_unanswered (command.View words) = refl
deciding_unanswered (command.Alter words) = refl
deciding_unanswered (command.Query words) = refl
deciding_unanswered (command.Explain words) = refl
deciding_unanswered (command.Pin asked) = refl
deciding_unanswered (command.Release token) = refl
deciding_unanswered (command.Expire table version) = refl
deciding_unanswered (command.Work words) = refl
deciding_unanswered (command.Recast words) = refl

-- ---- causes without a device

same_books : (cause : Cause) (b : Bool) (at : ℕ) (books : Books) → is_of_device cause ≡ false → failed_books cause b at books ≡ books
same_books (Replies r) b at books quiet = refl
same_books Unread b at books quiet = cc
same_books (Damaged damage) b at books quiet = cc
same_books Unwritten b at books quiet = cc
same_books NoMemory b at books quiet = refl

-- nor does it meet damage
pub quiet_undamaged : (cause : Cause) → is_of_device cause ≡ false → is_damaged (outcome_of cause) ≡ false
quiet_undamaged (Replies r) quiet = refl
quiet_undamaged Unread quiet = cc
quiet_undamaged (Damaged damage) quiet = cc
quiet_undamaged Unwritten quiet = cc
quiet_undamaged NoMemory quiet = refl

no_fault : (cause : Cause) → is_of_device cause ≡ false → is_read_fault cause ≡ false
no_fault (Replies r) quiet = refl
no_fault Unread quiet = cc
no_fault (Damaged damage) quiet = cc
no_fault Unwritten quiet = cc
no_fault NoMemory quiet = refl

-- a turn with a cause isn't skipped
pub not_skipped : (cause : Cause) → is_skip (outcome_of cause) ≡ false
not_skipped (Replies r) = refl
not_skipped Unread = refl
not_skipped (Damaged damage) = refl
not_skipped Unwritten = refl
not_skipped NoMemory = refl

module _ (o : Outset) (g : Origin) (sound : Bool) (l : EngineState) (story : Story) (held : Option (List ℕ)) (h : List Entry) (running refused : Bool) (v : IsVault o g sound l story held h running refused)
    (s number : ℕ) (low : s < 2 ^ 16) (few : number < 2 ^ 32) (m : ℕ) (moment : m ≡ story.moment) where
  -- A turn that is skipped.
  pub skipped_vault : (c : Command) (stage : Stage) (k : Kind) → IsDue o.script (run_of o h) s number c stage → IsTrue (is_due_at c stage k) → running ≡ false → IsVault o g sound l story held (h ++ entry s number k outcome.Skipped m ∷ []) running refused
  skipped_vault c stage k due comes failed =
      still_vault o g sound l story held h running refused v (entry s number k outcome.Skipped m) story held running refused (stays story)
      (skipped_turn o sound (books_of v.rows l) story held h running refused v.invariant s number c stage k m due (record { session = low; command = few }) comes failed moment story (stays story) (counts_same story))

  module _ (ran : running ≡ true) (at : ℕ) (place : at ≡ length h) where
    counts : (cause : Cause) → is_of_device cause ≡ false → Counts story story (is_read_fault cause)
    counts cause quiet = subst (Counts story story) (sym (no_fault cause quiet)) (counts_same story)

    decided : (c : Command) (stage : Stage) (f : Doing) → IsDecided s c stage f → IsDue o.script (run_of o h) s number c stage → (cause : Cause) → HasFailed (books_of v.rows l) c f cause → is_of_device cause ≡ false → (now : Bool) (new_held : Option (List ℕ))
        → IsPut (block (entry s number kind.Decide (outcome_of cause) m) (Some (told_at at (reply_of cause)))) now held new_held → KeepsInvariant o sound (books_of v.rows l) story new_held h (entry s number kind.Decide (outcome_of cause) m) now (refused || is_refusal (reply_of cause))
    decided c stage f d due cause has quiet now new_held put =
        let b = closes (run_of o h).moment (entry s number kind.Decide outcome.WriteFault m) in
        subst (λ x. KeepsInvariant o sound x story new_held h (entry s number kind.Decide (outcome_of cause) m) now (refused || is_refusal (reply_of cause))) (same_books cause b at (books_of v.rows l) quiet)
        (fails_turn o sound (books_of v.rows l) story held h running refused v.invariant s number low few c stage f d due m ran at place cause b refl has moment now new_held put)

    keeps : (c : Command) → IsDue o.script (run_of o h) s number c (deciding_stage c) → (cause : Cause) → HasNotDone (books_of v.rows l) at s c cause → is_of_device cause ≡ false → (now : Bool) (new_held : Option (List ℕ))
        → IsPut (block (entry s number (deciding_kind c) (outcome_of cause) m) (Some (told_at at (reply_of cause)))) now held new_held → KeepsInvariant o sound (books_of v.rows l) story new_held h (entry s number (deciding_kind c) (outcome_of cause) m) now (refused || is_refusal (reply_of cause))
    keeps (command.Load rows) due cause has quiet now new_held put = decided (command.Load rows) Looked (λ w. load_batch w rows) (load_decided s rows) due cause has quiet now new_held put
    keeps (command.Table words) due cause has quiet now new_held put = decided (command.Table words) First (λ w. make_table w words) (table_decided s words) due cause has quiet now new_held put
    keeps (command.View words) due cause has quiet now new_held put = decided (command.View words) First (λ w. make_view w words) (view_decided s words) due cause has quiet now new_held put
    keeps (command.Alter words) due cause has quiet now new_held put = decided (command.Alter words) First (λ w. alter_table w words) (alter_decided s words) due cause has quiet now new_held put
    keeps (command.Pin asked) due cause has quiet now new_held put = decided (command.Pin asked) First (λ w. make_pin w s asked) (pin_decided s asked) due cause has quiet now new_held put
    keeps (command.Release token) due cause has quiet now new_held put = decided (command.Release token) First (λ w. release_pin w s token) (release_decided s token) due cause has quiet now new_held put
    keeps (command.Expire table version) due cause has quiet now new_held put = decided (command.Expire table version) First (λ w. expire_to w table version) (expire_decided s table version) due cause has quiet now new_held put
    keeps (command.Explain words) due cause has quiet now new_held put = unexplained_turn o sound (books_of v.rows l) story held h running refused v.invariant s number low few m moment words due ran at place cause has now new_held put
    keeps (command.Query words) due cause has quiet now new_held put =
        unpinned_turn o sound (books_of v.rows l) story held h running refused v.invariant s number low few words m moment ran story (stays story) due cause has (counts cause quiet) at place now new_held put
    keeps (command.Work words) due cause has quiet now new_held put =
        ungranted_turn o sound (books_of v.rows l) story held h running refused v.invariant s number low few (command.Work words) refl m ran at place moment story (stays story) due cause has (counts cause quiet) now new_held put
    keeps (command.Recast words) due cause has quiet now new_held put =
        ungranted_turn o sound (books_of v.rows l) story held h running refused v.invariant s number low few (command.Recast words) refl m ran at place moment story (stays story) due cause has (counts cause quiet) now new_held put

    -- A turn that fails.
    pub failing_vault : (a : Rows) (c : Command) → IsDue o.script (run_of o h) s number c (deciding_stage c) → (cause : Cause) → HasNotDone (books_of a l) at s c cause → is_of_device cause ≡ false → (now : Bool) (new_held : Option (List ℕ))
        → IsPut (block (entry s number (deciding_kind c) (outcome_of cause) m) (Some (told_at at (reply_of cause)))) now held new_held → IsVault o g sound l story new_held (h ++ entry s number (deciding_kind c) (outcome_of cause) m ∷ []) now (refused || is_refusal (reply_of cause))
    failing_vault a c due cause has quiet now new_held put =
        still_vault o g sound l story held h running refused v (entry s number (deciding_kind c) (outcome_of cause) m) story new_held now (refused || is_refusal (reply_of cause)) (stays story)
        (keeps c due cause (undone_alike a v.rows l at s c cause has) quiet now new_held put)

-- Its session's command is over.
module _ (o : Outset) (g : Origin) (sound : Bool) (l : EngineState) (story : Story) (held : Option (List ℕ)) (h : List Entry) (running refused : Bool) (v : IsVault o g sound l story held h running refused)
    (s number : ℕ) (low : s < 2 ^ 16) (few : number < 2 ^ 32) (ran : running ≡ true) (at : ℕ) (place : at ≡ length h) (clock : ℕ) (new : Shown) (moment : new.clock ≡ story.moment) (seen : IsSeen o.script o.start new) (a : Rows) where
  abbrev old : Shown
  old = record { history = h; running = running; clock = clock }

  runs_on : (cause : Cause) → is_skip (outcome_of cause) ≡ not running
  runs_on cause = not_skipped cause ∙ ap not (sym ran)

  simply : (c : Command) → IsTrue (is_simple c) → IsDue o.script (run_of o h) s number c First → (cause : Cause) → new.history ≡ h ++ entry s number kind.Decide (outcome_of cause) new.clock ∷ [] → Takes o.script o.start old new s number kind.Decide Finished
  simply c is due cause grew =
      simple_takes o.script o.start old new s number (record { asked = c; is = is; due = due }) (record { outcome = outcome_of cause; grew = grew; skipped = runs_on cause; still = λ on. ran }) seen

  pub failing_takes : (c : Command) → IsDue o.script (run_of o h) s number c (deciding_stage c) → (cause : Cause) → HasNotDone (books_of a l) at s c cause → new.history ≡ h ++ entry s number (deciding_kind c) (outcome_of cause) new.clock ∷ [] → Takes o.script o.start old new s number (deciding_kind c) Finished
  failing_takes (command.Load rows) due cause has grew =
      publish_takes o.script o.start old new s number (record { asked = command.Load rows; is = refl; due = due }) (record { outcome = outcome_of cause; grew = grew; skipped = runs_on cause; still = λ on. ran }) seen
  failing_takes (command.Table words) due cause has grew = simply (command.Table words) refl due cause grew
  failing_takes (command.View words) due cause has grew = simply (command.View words) refl due cause grew
  failing_takes (command.Alter words) due cause has grew = simply (command.Alter words) refl due cause grew
  failing_takes (command.Pin asked) due cause has grew = simply (command.Pin asked) refl due cause grew
  failing_takes (command.Release token) due cause has grew = simply (command.Release token) refl due cause grew
  failing_takes (command.Expire table version) due cause has grew = simply (command.Expire table version) refl due cause grew
  failing_takes (command.Explain words) due cause has grew = simply (command.Explain words) refl due cause grew
  failing_takes (command.Query words) due cause has grew =
      takes_as o.script o.start old new s number (command.Query words) First kind.Decide Finished due (outcome_of cause)
      (unpinned_ends o sound (books_of v.rows l) story held h running refused v.invariant s number low few words new.clock moment ran story (stays story) due cause (answer_alike a v.rows l s words cause has))
      grew (runs_on cause) (λ on. ran) seen
  failing_takes (command.Work words) due cause has grew =
      takes_as o.script o.start old new s number (command.Work words) First kind.Grant Finished due (outcome_of cause)
      (ungranted_ends o sound (books_of v.rows l) story held h running refused v.invariant s number low few (command.Work words) refl new.clock ran at place moment story (stays story) due cause (claim_alike a v.rows l (claim_of (books_of a l).bare (books_of a l).machine at words.table) cause has))
      grew (runs_on cause) (λ on. ran) seen
  failing_takes (command.Recast words) due cause has grew =
      takes_as o.script o.start old new s number (command.Recast words) First kind.Grant Finished due (outcome_of cause)
      (ungranted_ends o sound (books_of v.rows l) story held h running refused v.invariant s number low few (command.Recast words) refl new.clock ran at place moment story (stays story) due cause (claim_alike a v.rows l (recast_claim_of (books_of a l).bare (books_of a l).machine at words) cause has))
      grew (runs_on cause) (λ on. ran) seen
