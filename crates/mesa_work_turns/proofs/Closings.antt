-- How the close of a work or a recast keeps a vault whose files weren't made.
use Rattle.std.proofs.Common.{◌≡◌, ℕ, ◌+◌, ◌-◌, ◌<◌, ◌^◌, ◌≤◌, List, [], ◌∷◌, ◌++◌, length, Bool, true, false, ◌||◌, not, refl, sym, ◌∙◌, ap, subst, arith, Option, None, Some, IsTrue}
use Rattle.std.specs.Prelude.{◌==◌, is_some, min, nat_le, vec_capacity}
use Rattle.std.proofs.lemmas.Bool.Decides.{nat_tests}
use Rattle.mesa_io.specs.Causes.{last}
use Rattle.mesa_delta.specs.declared.error.FileError.TheVariants as file_error
use Rattle.mesa_delta.specs.declared.input.Input.{Input}
use Rattle.mesa_disk.specs.Story.{Story, Unmoved}
use Rattle.mesa_write_turns.specs.mesa_history_spec.Counting.{answers_bench}
use Rattle.mesa_write_turns.specs.mesa_history_spec.Legal.{is_work}
use Rattle.mesa_write_turns.specs.mesa_history_spec.Machine.{Claim}
use Rattle.mesa_write_turns.specs.mesa_history_spec.Refused.{is_refusal}
use Rattle.mesa_write_turns.specs.mesa_history_spec.Replay.{closes}
use Rattle.mesa_write_turns.specs.mesa_history_spec.Run.{Finished}
use Rattle.mesa_write_turns.specs.mesa_history_spec.Turns.{IsDue}
use Rattle.mesa_lease.specs.Book.{ended}
use Rattle.mesa_model.specs.declared.commands.Command.{Command}
use Rattle.mesa_model.specs.declared.entries.Entry.{Entry}
use Rattle.mesa_model.specs.declared.entries.Kind.TheVariants as kind
use Rattle.mesa_model.specs.declared.entries.Outcome.TheVariants as outcome
use Rattle.mesa_write_turns.specs.mesa_history_spec.Output.{block}
use Rattle.mesa_write_turns.specs.mesa_history_spec.Rows.{Rows}
use Rattle.mesa_write_turns.specs.mesa_invariant_spec.Causes.{Cause, Unwritten, is_read_fault, outcome_of, reply_of, told_at}
use Rattle.mesa_write_turns.specs.mesa_invariant_spec.Printing.{IsPut}
use Rattle.mesa_write_turns.specs.mesa_invariant_spec.Turns.{Shown, IsSeen, Takes, entry}
use Rattle.mesa_write_turns.specs.mesa_invariant_spec.Undamaged.{is_damaged}
use Rattle.mesa_write_turns.specs.mesa_invariant_spec.Invariant.{Outset, Counts, IsAtClock, HoldsInvariant, run_at, run_of}
use Rattle.mesa_write_turns.specs.mesa_invariant_spec.Works.{closing_stage}
use Rattle.mesa_write_turns.proofs.mesa_invariant_spec.Clock.{begun_moment}
use Rattle.mesa_write_turns.proofs.mesa_invariant_spec.Going.{unmerged_takes}
use Rattle.mesa_write_turns.proofs.mesa_invariant_spec.Working.{close_later, shut_turn, unmerged_turn}
use Rattle.mesa_engine.specs.EngineState.{EngineState, books_of}
use Rattle.mesa_engine.specs.Vault.{Origin, Starts, IsVault, outset_of}
use Rattle.mesa_engine.proofs.Staying.{closed_vault, leased_vault, still_vault}
use Rattle.mesa_engine.proofs.Swapping.{ended_granted}
use Rattle.mesa_engine.specs.declared.log.Log.{Log}
use Rattle.mesa_engine.specs.Printing.{PrintsBlock}
use Rattle.mesa_engine.specs.Memory.{Memory, with_state}
use Rattle.mesa_open_files.specs.GivingBack.{GivesBack, SomeFailed}
use Rattle.mesa_open_files.specs.declared.merging.CompactError.{CompactError}
use Rattle.mesa_open_files.specs.declared.merging.CompactError.TheVariants as compact
use Rattle.mesa_engine.specs.Engine.{IsEngine}
use Rattle.mesa_engine.proofs.Turning.{told_engine}
use Rattle.mesa_engine.proofs.Undone.{not_skipped}
use Rattle.mesa_work_turns.specs.Unmerged.{TellsDamage, cause_of, closing_cause, closing_state, unmerged_state}
use Rattle.mesa_read_turns.proofs.Closes.{given_counts}

-- ---- the clock

at_last : (b m : ℕ) → b ≡ m → m < 2 ^ 64 → nat_le (min (b + 1) (2 ^ 64 - 1)) m ≡ (m == last)
at_last b m same low = grind (arith, nat_tests)

-- a fault of a draft closes where the clock stands at its last value
closes_last : (before : Option ℕ) (clock s n m : ℕ) → IsAtClock before clock → is_some before ≡ true → m ≡ clock → m < 2 ^ 64 → closes before (entry s n kind.Close outcome.WriteFault m) ≡ (m == last)
closes_last None clock s n m at there is low = absurd cc
closes_last (Some b) clock s n m at there is low = at_last b m (at ∙ sym is) low

-- ---- the vault behind it

module _ (o : Outset) (g : Origin) (sound : Bool) (l : EngineState) (story : Story) (held : Option (List ℕ)) (h : List Entry) (running refused : Bool) (v : IsVault o g sound l story held h running refused)
    (s number : ℕ) (low : s < 2 ^ 16) (few : number < 2 ^ 32) (c : Command) (one : is_work c ≡ true) (early : Bool) (m : ℕ) (moment : m ≡ story.moment) (fits : m < 2 ^ 64) (ran : running ≡ true) (at : ℕ) (place : at ≡ length h) (claim : Claim) (due : IsDue o.script (run_of o h) s number c (closing_stage early claim))
    (new : Story) (unmoved : Unmoved story new) (before : Story) (invariant : HoldsInvariant o sound (books_of v.rows l) before held h running refused) (same : before.moment ≡ story.moment) (apart : Unmoved before new) (now : Bool) (new_held : Option (List ℕ)) where
  abbrev turn_with : Cause → Entry
  turn_with cause = entry s number kind.Close (outcome_of cause) m

  abbrev Put : Cause → Type 0
  Put cause = IsPut (block (turn_with cause) (Some (told_at at (reply_of cause)))) now held new_held

  -- the vault, with a state that comes behind a cause
  abbrev Behind : Cause → EngineState → Type 0
  Behind cause after = IsVault o g sound after new new_held (h ++ turn_with cause ∷ []) now (refused || is_refusal (reply_of cause))

  few_granted : (ended claim.table claim.lease l.leases).granted ≤ l.leases.granted + 1
  few_granted = subst (λ q. q ≤ l.leases.granted + 1) (sym (ended_granted claim.table claim.lease l.leases)) (omega arith)

  no_more_granted : (ended claim.table claim.lease l.leases).granted ≤ l.leases.granted
  no_more_granted = subst (λ q. q ≤ l.leases.granted) (sym (ended_granted claim.table claim.lease l.leases)) (omega arith)

  closes_is : closes (run_of o h).moment (entry s number kind.Close outcome.WriteFault m) ≡ (m == last)
  closes_is = closes_last (run_of o h).moment story.moment s number m v.invariant.at (begun_moment o.script o.start h s number c (closing_stage early claim) due (close_later early claim)) moment fits

  drafted : (b : Bool) → closes (run_of o h).moment (entry s number kind.Close outcome.WriteFault m) ≡ b → l.closed ≡ None → Counts before new false → Put Unwritten → Behind Unwritten (unmerged_state compact.Draft b at claim.table claim.lease l)
  drafted true is opened counts put =
      closed_vault o g sound l story held h running refused v (turn_with Unwritten) new new_held now (refused || true) unmoved (ended claim.table claim.lease l.leases) at no_more_granted
      (unmerged_turn o sound (books_of v.rows l) before held h running refused invariant s number low few c one m ran at place (moment ∙ sym same) new apart early claim due Unwritten true is opened counts now new_held put)
  drafted false is opened counts put =
      leased_vault o g sound l story held h running refused v (turn_with Unwritten) new new_held now (refused || true) unmoved (ended claim.table claim.lease l.leases) few_granted
      (unmerged_turn o sound (books_of v.rows l) before held h running refused invariant s number low few c one m ran at place (moment ∙ sym same) new apart early claim due Unwritten false is opened counts now new_held put)

  -- the merge failed
  unmerged_vault : (error : CompactError) → l.closed ≡ None → TellsDamage (cause_of error) → Counts before new (is_read_fault (cause_of error)) → Put (cause_of error) → Behind (cause_of error) (unmerged_state error (m == last) at claim.table claim.lease l)
  unmerged_vault compact.Draft opened tells counts put = drafted (m == last) closes_is opened counts put
  unmerged_vault (compact.File file_error.Read) opened tells counts put =
      leased_vault o g sound l story held h running refused v (turn_with (cause_of (compact.File file_error.Read))) new new_held now (refused || true) unmoved (ended claim.table claim.lease l.leases) few_granted
      (unmerged_turn o sound (books_of v.rows l) before held h running refused invariant s number low few c one m ran at place (moment ∙ sym same) new apart early claim due (cause_of (compact.File file_error.Read)) (m == last) closes_is opened counts now new_held put)
  unmerged_vault (compact.File (file_error.Damaged damage)) opened tells counts put =
      leased_vault o g sound l story held h running refused v (turn_with (cause_of (compact.File (file_error.Damaged damage)))) new new_held now (refused || true) unmoved (ended claim.table claim.lease l.leases) few_granted
      (unmerged_turn o sound (books_of v.rows l) before held h running refused invariant s number low few c one m ran at place (moment ∙ sym same) new apart early claim due (cause_of (compact.File (file_error.Damaged damage))) (m == last) closes_is (opened, tells) counts now new_held put)
  unmerged_vault (compact.File file_error.Memory) opened tells counts put =
      leased_vault o g sound l story held h running refused v (turn_with (cause_of (compact.File file_error.Memory))) new new_held now (refused || true) unmoved (ended claim.table claim.lease l.leases) few_granted
      (unmerged_turn o sound (books_of v.rows l) before held h running refused invariant s number low few c one m ran at place (moment ∙ sym same) new apart early claim due (cause_of (compact.File file_error.Memory)) (m == last) closes_is opened counts now new_held put)

  -- it failed, or the vault has closed
  pub given_up_vault : (closed : Option ℕ) → l.closed ≡ closed → (error : CompactError) → TellsDamage (cause_of error) → Counts before new (is_read_fault (cause_of error)) → Counts before new false → Put (closing_cause closed error)
      → Behind (closing_cause closed error) (closing_state closed error (m == last) at claim.table claim.lease l)
  given_up_vault None is error tells counts quiet put = unmerged_vault error is tells counts put
  given_up_vault (Some p) is error tells counts quiet put =
      still_vault o g sound l story held h running refused v (turn_with (closing_cause (Some p) error)) new new_held now (refused || true) unmoved
      (shut_turn o sound (books_of v.rows l) before held h running refused invariant s number low few c one m ran at place (moment ∙ sym same) new apart early claim due p is quiet now new_held put)

-- a vault that has closed tells no damage
shut_undamaged : (closed : Option ℕ) (error : CompactError) → is_damaged (outcome_of (cause_of error)) ≡ false → is_damaged (outcome_of (closing_cause closed error)) ≡ false
shut_undamaged None error is = is
shut_undamaged (Some position) error is = refl

-- The invariant of a vault as it was, but for the counts of its faults: from there on they rose where the close answers a read that failed.
pub record IsPaid (o : Outset) (g : Origin) (sound : Bool) (l : EngineState) (story new : Story) (held : Option (List ℕ)) (h : List Entry) (running refused : Bool) (v : IsVault o g sound l story held h running refused) (answers : Bool) : Type 1 where
  pub before : Story
  pub invariant : HoldsInvariant o sound (books_of v.rows l) before held h running refused
  pub moment : before.moment ≡ story.moment
  pub unmoved : Unmoved before new
  pub counts : Counts before new answers
  pub quiet : Counts before new false

-- a read that failed is counted as its reader comes back
pub paid_back : {R : Type 0} (o : Outset) (g : Origin) (sound : Bool) (l : EngineState) (story new : Story) (held : Option (List ℕ)) (h : List Entry) (running refused : Bool) (v : IsVault o g sound l story held h running refused) (answers : Bool) → Unmoved story new
    → (failures : R → ℕ) (inputs : List (Input R)) → GivesBack failures inputs story new → (answers ≡ true → SomeFailed failures inputs) → IsPaid o g sound l story new held h running refused v answers
paid_back o g sound l story new held h running refused v answers unmoved failures inputs given read = record {
  before = story;
  invariant = v.invariant;
  moment = refl;
  unmoved = unmoved;
  counts = given_counts failures inputs story new answers given read;
  quiet = given_counts failures inputs story new false given (λ x. absurd cc);
}

-- ---- the engine behind it

module _ {K : Type 0} (held : K → Option (List ℕ)) (faults : K → ℕ) (n : Starts) (turns sinks : ℕ) (m after : Memory) (story new : Story) (log later : Log K) (v : IsEngine held faults n turns sinks m story log)
    (s number : ℕ) (low : s < 2 ^ 16) (few : number < 2 ^ 32) (c : Command) (one : is_work c ≡ true) (early : Bool) (mo : ℕ) (moment : mo ≡ story.moment) (fits : mo < 2 ^ 64) (ran : not log.printer.broken ≡ true) (at : ℕ) (place : at ≡ length log.history.items) (claim : Claim)
    (due : (w : Rows) → IsDue n.script (run_at n.script (n.start w) log.history.items) s number c (closing_stage early claim)) (unmoved : Unmoved story new)
    (error : CompactError) (paid : (w : Rows) (b : Bool) (ok : IsTrue b → n.sound w) → IsPaid (outset_of n w) (n.origin w) b m.state story new (held log.printer.sink) log.history.items (not log.printer.broken) log.refused (v.vault w b ok) (is_read_fault (cause_of error))) (tells : TellsDamage (cause_of error))
    (undamaged : (w : Rows) → n.sound w → is_damaged (outcome_of (cause_of error)) ≡ false) (cause : Cause) (cause_is : cause ≡ closing_cause m.state.closed error)
    (grew : later.history.items ≡ log.history.items ++ entry s number kind.Close (outcome_of cause) mo ∷ []) (roomy : vec_capacity log.history ≤ vec_capacity later.history)
    (is : after ≡ with_state (closing_state m.state.closed error (mo == last) at claim.table claim.lease m.state) m) where
  abbrev e : Entry
  e = entry s number kind.Close (outcome_of cause) mo

  pub given_up_engine : PrintsBlock held faults log.printer later.printer (entry s number kind.Close (outcome_of cause) mo) (told_at at (reply_of cause)) → later.refused ≡ (log.refused || is_refusal (reply_of cause)) → IsEngine held faults n turns sinks after new later
  given_up_engine prints refused =
      told_engine held faults n turns sinks m after story new log later e v grew roomy (moment ∙ sym unmoved.moment) (omega (arith, unmoved.moment)) (let same = ap (λ (x : Memory). x.leased) is in omega (arith, same, v.leased))
      (λ w sound. ap (λ k. is_damaged (outcome_of k)) cause_is ∙ shut_undamaged m.state.closed error (undamaged w sound)) (told_at at (reply_of cause)) (is_refusal (reply_of cause)) prints refused
      (λ put w b ok.
      subst (λ (x : Memory). IsVault (outset_of n w) (n.origin w) b x.state new (held later.printer.sink) (log.history.items ++ e ∷ []) (not later.printer.broken) (log.refused || is_refusal (reply_of cause))) (sym is)
      (subst (λ (x : Cause). IsPut (block (entry s number kind.Close (outcome_of x) mo) (Some (told_at at (reply_of x)))) (not later.printer.broken) (held log.printer.sink) (held later.printer.sink)
      → IsVault (outset_of n w) (n.origin w) b (closing_state m.state.closed error (mo == last) at claim.table claim.lease m.state) new (held later.printer.sink) (log.history.items ++ entry s number kind.Close (outcome_of x) mo ∷ []) (not later.printer.broken) (log.refused || is_refusal (reply_of x))) (sym cause_is)
      (let p = paid w b ok in
      given_up_vault (outset_of n w) (n.origin w) b m.state story (held log.printer.sink) log.history.items (not log.printer.broken) log.refused (v.vault w b ok) s number low few c one early mo moment fits ran at place claim (due w) new unmoved p.before p.invariant p.moment p.unmoved (not later.printer.broken) (held later.printer.sink)
      m.state.closed refl error tells p.counts p.quiet) put))

-- ---- where it takes its session

pub given_up_takes : (n : Starts) (w : Rows) (old new : Shown) (s number : ℕ) (c : Command) (one : is_work c ≡ true) (early : Bool) (claim : Claim) → IsDue n.script (run_at n.script (n.start w) old.history) s number c (closing_stage early claim) → (cause : Cause)
    → new.history ≡ old.history ++ entry s number kind.Close (outcome_of cause) new.clock ∷ [] → old.running ≡ true → IsSeen n.script (n.start w) new → Takes n.script (n.start w) old new s number kind.Close Finished
given_up_takes n w old new s number c one early claim due cause grew ran seen =
    unmerged_takes n.script (n.start w) old new s number c early claim due (record { outcome = outcome_of cause; grew = grew; skipped = not_skipped cause ∙ ap not (sym ran); still = λ on. ran }) seen

-- ---- the file that was being built

-- a close answers a file's fault only where the merge's draft failed
pub only_draft : (closed : Option ℕ) (error : CompactError) (closing : Bool) → IsTrue (answers_bench closing (outcome_of (closing_cause closed error))) → error ≡ compact.Draft
only_draft (Some position) error closing is = absurd cc
only_draft None compact.Draft closing is = refl
only_draft None (compact.File file_error.Read) closing is = absurd cc
only_draft None (compact.File (file_error.Damaged damage)) closing is = absurd cc
only_draft None (compact.File file_error.Memory) closing is = absurd cc

-- It answers a read that failed only where the merge met one.
pub closing_read : (closed : Option ℕ) (error : CompactError) → is_read_fault (closing_cause closed error) ≡ true → is_read_fault (cause_of error) ≡ true
closing_read (Some position) error is = absurd cc
closing_read None error is = is
