-- The turns of a work, and those that it shares with a recast.
use Rattle.std.proofs.Common.{◌≡◌, ℕ, ◌+◌, ◌<◌, ◌≤◌, ◌^◌, List, [], ◌∷◌, ◌++◌, length, Bool, true, false, not, ◌||◌, ◌&&◌, ◌==◌, IsTrue, refl, sym, ◌∙◌, ap, subst, arith, Option, None, Some, Result, Ok, Err, ok_or}
use Rattle.std.specs.Prelude.{is_none, is_some, nat_lt}
use Rattle.mesa_history_spec.specs.mesa_list.Checks.{◌>>=◌, ◌>>◌, refuse_if, refused_as}
use Rattle.mesa_disk.specs.mesa_io.Causes.{Rose, last}
use Rattle.mesa_disk.specs.Story.{Story, Unmoved, Spans}
use Rattle.mesa_history_spec.specs.mesa_span.declared.works.Work.{Work}
use Rattle.mesa_history_spec.specs.mesa_span.declared.works.Work.TheVariants as range
use Rattle.mesa_history_spec.specs.mesa_lease.Book.{holder}
use Rattle.mesa_history_spec.specs.mesa_span.Work.{next_work}
use Rattle.mesa_history_spec.specs.mesa_schema.Changes.{epoch_of}
use Rattle.mesa_history_spec.specs.mesa_schema.Recasts.{recast_checked}
use Rattle.mesa_history_spec.specs.mesa_model.declared.commands.Command.{Command}
use Rattle.mesa_history_spec.specs.mesa_model.declared.commands.Command.TheVariants as command
use Rattle.mesa_history_spec.specs.mesa_model.declared.commands.RecastWords.{RecastWords}
use Rattle.mesa_history_spec.specs.mesa_model.declared.commands.Script.{Script}
use Rattle.mesa_history_spec.specs.mesa_model.declared.entries.Entry.{Entry}
use Rattle.mesa_history_spec.specs.mesa_model.declared.entries.Kind.{Kind}
use Rattle.mesa_history_spec.specs.mesa_model.declared.entries.Kind.TheVariants as kind
use Rattle.mesa_history_spec.specs.mesa_model.declared.entries.Outcome.{Outcome}
use Rattle.mesa_history_spec.specs.mesa_model.declared.entries.Outcome.TheVariants as outcome
use Rattle.mesa_history_spec.specs.mesa_model.declared.replies.Refusal.{Refusal}
use Rattle.mesa_history_spec.specs.mesa_model.declared.replies.Refusal.TheVariants as no
use Rattle.mesa_history_spec.specs.mesa_model.declared.replies.Reply.{Reply}
use Rattle.mesa_history_spec.specs.mesa_model.declared.replies.Reply.TheVariants as reply
use Rattle.mesa_history_spec.specs.mesa_model.Entry.{IsShort}
use Rattle.mesa_history_spec.specs.mesa_model.Refusals.{no_such_table, recast_refusal, refuse_closed}
use Rattle.mesa_history_spec.specs.mesa_model.Relations.{table_number}
use Rattle.mesa_history_spec.specs.mesa_model.Tables.{recast_asked}
use Rattle.mesa_history_spec.specs.mesa_model.Warehouse.{Store, Warehouse, newest_of, table_at}
use Rattle.mesa_history_spec.specs.Machine.{Machine, Claim, Merges, Recasts, ranges_at, refuse_busy, claim_of, recast_claim_of, max_deltas, singletons_of, claimed, claim_checked, claim_renewed, claim_ended, claim_merged, swapped_reply}
use Rattle.mesa_history_spec.specs.Run.{State, Stage, First, Granted, Renewed, Finished, Run, begins}
use Rattle.mesa_history_spec.specs.Replay.{Turned, turn_of, leaves, place_after, prints, refuses, refused_at, refused_turn, grants, claim_asked, renews, close, completes, does, closed_off, closed_if, closes, with_machine, some_damage, stood}
use Rattle.mesa_history_spec.specs.Legal.{builds_files, is_answered, is_due_at, is_work, is_written, outcome_fits, wrote}
use Rattle.mesa_history_spec.specs.Found.{Kept, kept_of}
use Rattle.mesa_history_spec.specs.Refused.{is_refusal}
use Rattle.mesa_history_spec.specs.Turns.{IsDue, would_print}
use Rattle.mesa_history_spec.proofs.More.{kept_after, runs_more}
use Rattle.mesa_history_spec.proofs.Turns.{goes_to, prologue_after, turned_at}
use Rattle.mesa_history_spec.specs.Output.{block}
use Rattle.mesa_history_spec.proofs.BareSteps.{asked-bare}
use Rattle.mesa_invariant_spec.specs.Books.{Books, AreBooksOf, closed_books, closed_books_if, granted_books, renewed_books, ended_books, swapped_books}
use Rattle.mesa_invariant_spec.specs.Causes.{Cause, Replies, Unread, Damaged, Unwritten, NoMemory, is_read_fault, outcome_of, reply_of, told_at}
use Rattle.mesa_invariant_spec.specs.Printing.{IsPut}
use Rattle.mesa_invariant_spec.specs.Turns.{entry}
use Rattle.mesa_invariant_spec.specs.Invariant.{Outset, run_at, run_of, HoldsInvariant, KeepsInvariant, KeepsInvariantTelling, Counts, AllStand, Passes, Writes, StandsForEither}
use Rattle.mesa_invariant_spec.specs.Works.{HasNoClaim, HasNotMerged, Swaps, closing_stage, unmerged_books}
use Rattle.mesa_invariant_spec.proofs.Clock.{same_moment, not_closing, begun_moment, closing}
use Rattle.mesa_invariant_spec.proofs.Coming.{fits_open, or_right, renewal_open, comes_standing, comes_without_memory, comes_unread, comes_damaged, comes_unwritten, comes_undrafted}
use Rattle.mesa_invariant_spec.proofs.Turning.{counts_any, counts_below, opened, position_at, puts_reply, puts_cause, mute_turn, cause_turn, wrote_turn, failed_turn}

-- ---- places

-- A command goes on to the stage that its turn leaves.
pub due_after : (script : Script) (start : State) (h : List Entry) (e : Entry) (c : Command) (stage : Stage) → IsDue script (run_at script start h) e.session e.command c stage → (made : Turned) → turn_of (run_at script start h) c e stage e.outcome ≡ made → place_after e.command made.stage ≡ record { number = e.command; stage = made.stage }
    → IsDue script (run_at script start (h ++ e ∷ [])) e.session e.command c made.stage
due_after script start h e c stage due made is goes = record {
  known = due.known;
  place = goes_to script (begins start) h e c stage due made (turned_at script (run_at script start h) e c stage due ∙ is) ∙ goes;
  prologue = subst (λ (x : Run). IsTrue (not (x.prologue_over && (e.session == 0)))) (sym (runs_more script (begins start) h e)) (prologue_after script (run_at script start h) e due.prologue);
}

-- ---- claims

-- what is said of works and of recasts is said of whatever a command is granted
of_asked : (P : Result Claim Reply → Type 0) (w : Warehouse) (m : Machine) (position : ℕ) → ((name : List ℕ) → P (claim_of w m position name)) → ((words : RecastWords) → P (recast_claim_of w m position words)) → (c : Command) → P (claim_asked w m position c)
of_asked P w m position works recasts' (command.Recast words) = recasts' words
of_asked P w m position works recasts' (command.Work words) = works words.table
of_asked P w m position works recasts' (command.Table words) = works []
of_asked P w m position works recasts' (command.View words) = works []
of_asked P w m position works recasts' (command.Alter words) = works []
of_asked P w m position works recasts' (command.Load rows) = works []
of_asked P w m position works recasts' (command.Query words) = works []
of_asked P w m position works recasts' (command.Explain words) = works []
of_asked P w m position works recasts' (command.Pin asked) = works []
of_asked P w m position works recasts' (command.Release token) = works []
of_asked P w m position works recasts' (command.Expire table version) = works []

-- a claim that isn't granted is told by a reply of a turn that wrote nothing
abbrev IsSilent : Result Claim Reply → Type 0
IsSilent q = (r : Reply) → q ≡ Err r → is_written r ≡ false

refused_silent : (q : Result (Unit {0}) Refusal) (next : Result Claim Reply) → IsSilent next → IsSilent (refused_as reply.Refused q >> next)
refused_silent (Ok ok) next rest r is = rest r is
refused_silent (Err x) next rest r is = let same : reply.Refused x ≡ r = cc in ap is_written (sym same)

busy_silent : (b : Option ℕ) (next : Result Claim Reply) → IsSilent next → IsSilent (refuse_busy b >> next)
busy_silent None next rest r is = rest r is
busy_silent (Some lease) next rest r is = let same : reply.Busy lease ≡ r = cc in ap is_written (sym same)

idle_silent : (x : Option Work) (f : Work → Claim) → IsSilent (ok_or x reply.Idle >>= (λ work. Ok (f work)))
idle_silent None f r is = let same : reply.Idle ≡ r = cc in ap is_written (sym same)
idle_silent (Some work) f r is = absurd cc

many_silent : (many : Bool) (claim : Claim) → IsSilent (refuse_if many (reply.Refused (no.TooManyDeltas max_deltas)) >> Ok claim)
many_silent true claim r is = let same : reply.Refused (no.TooManyDeltas max_deltas) ≡ r = cc in ap is_written (sym same)
many_silent false claim r is = absurd cc

table_silent : (t : Option ℕ) (next : ℕ → Result Claim Reply) → ((table : ℕ) → IsSilent (next table)) → IsSilent (ok_or t (reply.Refused no_such_table) >>= next)
table_silent None next rest r is = let same : reply.Refused no_such_table ≡ r = cc in ap is_written (sym same)
table_silent (Some table) next rest r is = rest table r is

work_silent : (w : Warehouse) (m : Machine) (position : ℕ) (name : List ℕ) → IsSilent (claim_of w m position name)
work_silent w m position name =
    refused_silent (refuse_closed w.closed) _ (table_silent (table_number w.store name) _ (λ table.
    busy_silent (holder m.leases table position) _
    (idle_silent (next_work (ranges_at m table) (table_at w.store table).oldest (newest_of w)) (λ work. record { table = table; lease = m.leases.granted + 1; errand = Merges work }))))

recast_silent : (w : Warehouse) (m : Machine) (position : ℕ) (words : RecastWords) → IsSilent (recast_claim_of w m position words)
recast_silent w m position words =
    refused_silent (refuse_closed w.closed) _ (table_silent (table_number w.store words.table) _ (λ table.
    refused_silent (refused_as recast_refusal (recast_checked (table_at w.store table).lineage (recast_asked words))) _
    (busy_silent (holder m.leases table position) _
    (many_silent (nat_lt max_deltas (singletons_of w m table)) (record { table = table; lease = m.leases.granted + 1; errand = Recasts (epoch_of (table_at w.store table).lineage) (recast_asked words) })))))

-- a work or a recast that isn't granted wrote nothing
claim_silent : (w : Warehouse) (m : Machine) (position : ℕ) (c : Command) → IsSilent (claim_asked w m position c)
claim_silent w m position c = of_asked IsSilent w m position (work_silent w m position) (recast_silent w m position) c

-- a claim that is granted finds the warehouse open
abbrev IsOpenFor : Option ℕ → Result Claim Reply → Type 0
IsOpenFor closed q = (claim : Claim) → q ≡ Ok claim → closed ≡ None

open_for : (closed : Option ℕ) (next : Result Claim Reply) → IsOpenFor closed (refused_as reply.Refused (refuse_closed closed) >> next)
open_for None next claim is = refl
open_for (Some p) next claim is = absurd cc

claim_open : (w : Warehouse) (m : Machine) (position : ℕ) (c : Command) → IsOpenFor w.closed (claim_asked w m position c)
claim_open w m position c = of_asked (IsOpenFor w.closed) w m position (λ name. open_for w.closed _) (λ words. open_for w.closed _) c

-- and so does a claim whose lease holds
pub checked_open : (w : Warehouse) (m : Machine) (position : ℕ) (claim : Claim) → claim_checked w m position claim ≡ Ok tt → w.closed ≡ None
checked_open w m position claim is = by w.closed refl
  where
    by : (o : Option ℕ) → w.closed ≡ o → w.closed ≡ None
    by None e = e
    by (Some p) e = let never : claim_checked (record w { closed = Some p }) m position claim ≡ Ok tt = subst (λ o. claim_checked (record w { closed = o }) m position claim ≡ Ok tt) e is in absurd cc

swap_writes : (x : Work) → is_written (swapped_reply x) ≡ true
swap_writes (range.Base to) = refl
swap_writes (range.Cumulative from to) = refl

swap_told : (x : Work) → is_refusal (swapped_reply x) ≡ false
swap_told (range.Base to) = refl
swap_told (range.Cumulative from to) = refl

-- ---- what a work and a recast have alike

-- What may come of the turns of a command under a lease.
record IsLeased (c : Command) : Type 0 where
  grants : IsTrue (is_due_at c First kind.Grant)
  grant_unread : IsTrue (outcome_fits c kind.Grant outcome.ReadFault)
  grant_starved : IsTrue (outcome_fits c kind.Grant outcome.Memory)
  close_unread : IsTrue (outcome_fits c kind.Close outcome.ReadFault)
  close_damaged : IsTrue (outcome_fits c kind.Close outcome.Damaged)
  close_unwritten : IsTrue (outcome_fits c kind.Close outcome.WriteFault)
  close_starved : IsTrue (outcome_fits c kind.Close outcome.Memory)
  builds : (s : Store) → builds_files s c ≡ true

leased : (c : Command) → is_work c ≡ true → IsLeased c
leased (command.Work words) is = record { grants = refl; grant_unread = refl; grant_starved = refl; close_unread = refl; close_damaged = refl; close_unwritten = refl; close_starved = refl; builds = λ s. refl }
leased (command.Recast words) is = record { grants = refl; grant_unread = refl; grant_starved = refl; close_unread = refl; close_damaged = refl; close_unwritten = refl; close_starved = refl; builds = λ s. refl }
leased (command.Table words) is = absurd cc
leased (command.View words) is = absurd cc
leased (command.Alter words) is = absurd cc
leased (command.Load rows) is = absurd cc
leased (command.Query words) is = absurd cc
leased (command.Explain words) is = absurd cc
leased (command.Pin version) is = absurd cc
leased (command.Release token) is = absurd cc
leased (command.Expire table version) is = absurd cc

-- ---- the close of a claim that was only granted, and of one that was renewed

pub close_due : (early : Bool) (claim : Claim) (c : Command) → IsTrue (is_due_at c (closing_stage early claim) kind.Close)
close_due true claim c = refl
close_due false claim c = refl

close_ends : (early : Bool) (claim : Claim) (s : State) → closed_off s (closing_stage early claim) ≡ with_machine s (claim_ended s.machine claim)
close_ends true claim s = refl
close_ends false claim s = refl

close_at : (early : Bool) (claim : Claim) (position : ℕ) → refused_at position (closing_stage early claim) ≡ position
close_at true claim position = refl
close_at false claim position = refl

close_completes : (early : Bool) (claim : Claim) (position : ℕ) (s : State) → close position s (closing_stage early claim) ≡ completes position s claim (claim_checked s.warehouse s.machine position claim)
close_completes true claim position s = refl
close_completes false claim position s = refl

pub close_later : (early : Bool) (claim : Claim) → closing_stage early claim ≡ First → ⊥
close_later true claim first = absurd cc
close_later false claim first = absurd cc

-- one that is refused for a fault or for want of memory
close_refused : (early : Bool) (claim : Claim) (position : ℕ) (s : State) (x : Refusal) → refused_turn position s kind.Close (closing_stage early claim) x ≡ refuses position (with_machine s (claim_ended s.machine claim)) x
close_refused early claim position s x = λ i. refuses (close_at early claim position i) (close_ends early claim s i) x

module _ (o : Outset) (sound : Bool) (books : Books) (story : Story) (held : Option (List ℕ)) (h : List Entry) (running refused : Bool) (v : HoldsInvariant o sound books story held h running refused)
    (s n : ℕ) (low : s < 2 ^ 16) (few : n < 2 ^ 32) (works : Command) (is_one : is_work works ≡ true) (m : ℕ) (ran : running ≡ true) (at : ℕ) (place : at ≡ length h) where
  abbrev r : Run
  r = run_of o h

  abbrev w : Warehouse
  w = r.state.warehouse

  fit : IsLeased works
  fit = leased works is_one

  short : (k : Kind) (out : Outcome) → IsShort (entry s n k out m)
  short k out = record { session = low; command = few }

  at_is : at ≡ r.position
  at_is = position_at o sound books story held h running refused v at place

  -- what the books say of a claim is what Replay says
  pub claim_is : claim_asked w r.state.machine r.position works ≡ claim_asked books.bare books.machine at works
  claim_is = asked-bare w r.state.machine r.position works ∙ (λ i. claim_asked (v.state.projection i) (v.state.machine i) (sym at_is i) works)

  pub checked_is : (claim : Claim) → claim_checked w r.state.machine r.position claim ≡ claim_checked books.bare books.machine at claim
  checked_is claim = λ i. claim_checked (v.state.projection i) (v.state.machine i) (sym at_is i) claim

  -- the books with another range machine
  pub machine_stands : (a b : Machine) → a ≡ b → a.ranges ≡ r.state.machine.ranges → AreBooksOf sound (record books { machine = b }) (with_machine r.state a)
  machine_stands a b is same = record { projection = v.state.projection; machine = is; rows = λ ok. ap (λ x. record (kept_of r.state) { ranges = x }) same ∙ v.state.rows ok; pins = v.state.pins }

  -- ---- turns that move nothing on the disk

  module _ (moment : m ≡ story.moment) (new : Story) (unmoved : Unmoved story new) where
    -- -- its first turn

    module _ (due : IsDue o.script (run_of o h) s n works First) where
      grant_is : (q : Result Claim Reply) → claim_asked books.bare books.machine at works ≡ q → turn_of r works (entry s n kind.Grant outcome.Stands m) First outcome.Stands ≡ grants r.position r.state q
      grant_is q is = ap (grants r.position r.state) (claim_is ∙ is)

      -- it is granted
      pub granted_turn : (claim : Claim) → claim_asked books.bare books.machine at works ≡ Ok claim → Counts story new false
          → KeepsInvariant o sound (granted_books at claim books) new held h (entry s n kind.Grant outcome.Stands m) running refused
      granted_turn claim is counts =
          mute_turn o sound books story held h running refused v (entry s n kind.Grant outcome.Stands m) works First due (short kind.Grant outcome.Stands) moment new unmoved
          (comes_standing r works First s n kind.Grant m fit.grants (renewal_open w.closed First kind.Grant outcome.Stands refl)) (ap not (sym ran)) (with_machine r.state (claimed r.state.machine r.position claim)) (Granted claim) (grant_is (Ok claim) is) counts
          (granted_books at claim books) (machine_stands _ _ (λ i. claimed (v.state.machine i) (sym at_is i) claim) refl) refl

      -- and its lease may be renewed
      pub granted_due : (claim : Claim) → claim_asked books.bare books.machine at works ≡ Ok claim → IsDue o.script (run_of o (h ++ entry s n kind.Grant outcome.Stands m ∷ [])) s n works (Granted claim)
      granted_due claim is = due_after o.script o.start h (entry s n kind.Grant outcome.Stands m) works First due (leaves (with_machine r.state (claimed r.state.machine r.position claim)) (Granted claim)) (grant_is (Ok claim) is) refl

      prints_none : (claim : Claim) → claim_asked books.bare books.machine at works ≡ Ok claim → is_none (would_print r s works kind.Grant First) ≡ true
      prints_none claim is = ap (λ q. is_none (grants r.position r.state q).told) (claim_is ∙ is)

      still_open : (claim : Claim) → claim_asked books.bare books.machine at works ≡ Ok claim → w.closed ≡ None
      still_open claim is = claim_open w r.state.machine r.position works claim (claim_is ∙ is)

      -- it isn't
      pub ungranted_turn : (cause : Cause) → HasNoClaim books (claim_asked books.bare books.machine at works) cause → Counts story new (is_read_fault cause) → (now : Bool) (new_held : Option (List ℕ)) → IsPut (block (entry s n kind.Grant (outcome_of cause) m) (Some (told_at at (reply_of cause)))) now held new_held
          → KeepsInvariant o sound books new new_held h (entry s n kind.Grant (outcome_of cause) m) now (refused || is_refusal (reply_of cause))
      ungranted_turn (Replies rep) has counts now new_held put =
          cause_turn o sound books story held h running refused v (entry s n kind.Grant outcome.Stands m) works First due (short kind.Grant outcome.Stands) moment new unmoved
          (comes_standing r works First s n kind.Grant m fit.grants (renewal_open w.closed First kind.Grant outcome.Stands refl)) ran (Replies rep) refl tt refl r.state (grant_is (Err rep) has) (claim_silent books.bare books.machine at works rep has) counts at place now new_held put books v.state refl
      ungranted_turn Unread has counts now new_held put =
          cause_turn o sound books story held h running refused v (entry s n kind.Grant outcome.ReadFault m) works First due (short kind.Grant outcome.ReadFault) moment new unmoved
          (comes_unread r works First s n kind.Grant m fit.grants fit.grant_unread (prints_none has.0 has.1) (fits_open w.closed false false false false (still_open has.0 has.1))) ran Unread refl tt refl r.state refl refl counts at place now new_held put books v.state refl
      ungranted_turn (Damaged damage) has counts now new_held put = absurd has
      ungranted_turn Unwritten has counts now new_held put = absurd has
      ungranted_turn NoMemory has counts now new_held put =
          cause_turn o sound books story held h running refused v (entry s n kind.Grant outcome.Memory m) works First due (short kind.Grant outcome.Memory) moment new unmoved
          (comes_without_memory r works First s n kind.Grant m fit.grants fit.grant_starved (fits_open w.closed false false false false (opened o sound books story held h running refused v has))) ran NoMemory refl tt refl r.state refl refl counts at place now new_held put books v.state refl

      -- and is over
      pub ungranted_ends : (cause : Cause) → HasNoClaim books (claim_asked books.bare books.machine at works) cause → (turn_of r works (entry s n kind.Grant (outcome_of cause) m) First (outcome_of cause)).stage ≡ Finished
      ungranted_ends (Replies rep) has = ap (λ (t : Turned). t.stage) (grant_is (Err rep) has)
      ungranted_ends Unread has = refl
      ungranted_ends (Damaged damage) has = refl
      ungranted_ends Unwritten has = refl
      ungranted_ends NoMemory has = refl

    -- -- its second turn

    module _ (claim : Claim) (due : IsDue o.script (run_of o h) s n works (Granted claim)) where
      -- its lease holds anew
      pub renewed_turn : claim_checked books.bare books.machine at claim ≡ Ok tt → Counts story new false
          → KeepsInvariant o sound (renewed_books at claim books) new held h (entry s n kind.Renew outcome.Stands m) running refused
      renewed_turn holds counts =
          mute_turn o sound books story held h running refused v (entry s n kind.Renew outcome.Stands m) works (Granted claim) due (short kind.Renew outcome.Stands) moment new unmoved
          (comes_standing r works (Granted claim) s n kind.Renew m refl refl) (ap not (sym ran)) (with_machine r.state (claim_renewed r.state.machine r.position claim)) (Renewed claim) (ap (renews r.position r.state claim) (checked_is claim ∙ holds)) counts
          (renewed_books at claim books) (machine_stands _ _ (λ i. claim_renewed (v.state.machine i) (sym at_is i) claim) refl) refl

      -- and it may be closed
      pub renewed_due : claim_checked books.bare books.machine at claim ≡ Ok tt → IsDue o.script (run_of o (h ++ entry s n kind.Renew outcome.Stands m ∷ [])) s n works (Renewed claim)
      renewed_due holds = due_after o.script o.start h (entry s n kind.Renew outcome.Stands m) works (Granted claim) due (leaves (with_machine r.state (claim_renewed r.state.machine r.position claim)) (Renewed claim)) (ap (renews r.position r.state claim) (checked_is claim ∙ holds)) refl

      -- it is lost, or the books are closed
      pub unrenewed_turn : (x : Refusal) → claim_checked books.bare books.machine at claim ≡ Err x → Counts story new false → (now : Bool) (new_held : Option (List ℕ)) → IsPut (block (entry s n kind.Renew outcome.Stands m) (Some (told_at at (reply.Refused x)))) now held new_held
          → KeepsInvariant o sound books new new_held h (entry s n kind.Renew outcome.Stands m) now (refused || true)
      unrenewed_turn x lost counts now new_held put =
          cause_turn o sound books story held h running refused v (entry s n kind.Renew outcome.Stands m) works (Granted claim) due (short kind.Renew outcome.Stands) moment new unmoved
          (comes_standing r works (Granted claim) s n kind.Renew m refl refl) ran (Replies (reply.Refused x)) refl tt refl r.state (ap (renews r.position r.state claim) (checked_is claim ∙ lost)) refl counts at place now new_held put books v.state refl

      -- and is over
      pub unrenewed_ends : (x : Refusal) → claim_checked books.bare books.machine at claim ≡ Err x → (turn_of r works (entry s n kind.Renew outcome.Stands m) (Granted claim) outcome.Stands).stage ≡ Finished
      unrenewed_ends x lost = ap (λ q. (renews r.position r.state claim q).stage) (checked_is claim ∙ lost)

    -- -- its close where its files weren't made, after a renewal or without one

    module _ (early : Bool) (claim : Claim) (due : IsDue o.script (run_of o h) s n works (closing_stage early claim)) where
      abbrev stage : Stage
      stage = closing_stage early claim

      comes_open : books.bare.closed ≡ None → IsTrue (is_none w.closed || false || false || false || is_answered stage)
      comes_open is = fits_open w.closed false false false (is_answered stage) (opened o sound books story held h running refused v is)

      -- the books are closed: nothing changes
      pub shut_turn : (p : ℕ) → books.bare.closed ≡ Some p → Counts story new false → (now : Bool) (new_held : Option (List ℕ)) → IsPut (block (entry s n kind.Close outcome.Stands m) (Some (told_at at (reply.Refused (no.Closed p))))) now held new_held
          → KeepsInvariant o sound books new new_held h (entry s n kind.Close outcome.Stands m) now (refused || true)
      shut_turn p shut counts now new_held put =
          let shut_is : w.closed ≡ Some p = ap (λ (x : Warehouse). x.closed) v.state.projection ∙ shut in
          let checked : claim_checked w r.state.machine r.position claim ≡ Err (no.Closed p) = λ i. claim_checked (record w { closed = shut_is i }) r.state.machine r.position claim in
          cause_turn o sound books story held h running refused v (entry s n kind.Close outcome.Stands m) works stage due (short kind.Close outcome.Stands) moment new unmoved
          (comes_standing r works stage s n kind.Close m (close_due early claim works) (or_right _ _ (subst (λ x. IsTrue (is_some x)) (sym shut_is) refl))) ran (Replies (reply.Refused (no.Closed p))) refl tt refl r.state
          (close_completes early claim r.position r.state ∙ ap (completes r.position r.state claim) checked) refl counts at place now new_held put books v.state refl

      abbrev closed_state : Bool → State
      closed_state b = with_machine (closed_if b r.position r.state) (claim_ended (closed_if b r.position r.state).machine claim)

      closed_stand : (b : Bool) → AreBooksOf sound (closed_books_if b at (ended_books claim books)) (closed_state b)
      closed_stand true = record {
        projection = ap (λ (x : Warehouse). record x { closed = Some r.position }) v.state.projection ∙ ap (λ p. record books.bare { closed = Some p }) (sym at_is);
        machine = λ i. claim_ended (v.state.machine i) claim;
        rows = v.state.rows;
        pins = v.state.pins;
      }
      closed_stand false = machine_stands _ _ (λ i. claim_ended (v.state.machine i) claim) refl

      closed_kept : (b : Bool) → kept_of (closed_state b) ≡ kept_of r.state
      closed_kept true = refl
      closed_kept false = refl

      ended_stand : AreBooksOf sound (ended_books claim books) (with_machine r.state (claim_ended r.state.machine claim))
      ended_stand = machine_stands _ _ (λ i. claim_ended (v.state.machine i) claim) refl

      -- for whatever cause: the lease ends
      pub unmerged_turn : (cause : Cause) (b : Bool) → closes r.moment (entry s n kind.Close outcome.WriteFault m) ≡ b → HasNotMerged books cause → Counts story new (is_read_fault cause) → (now : Bool) (new_held : Option (List ℕ)) → IsPut (block (entry s n kind.Close (outcome_of cause) m) (Some (told_at at (reply_of cause)))) now held new_held
          → KeepsInvariant o sound (unmerged_books cause b at claim books) new new_held h (entry s n kind.Close (outcome_of cause) m) now (refused || is_refusal (reply_of cause))
      unmerged_turn (Replies rep) b closes_is has counts now new_held put = absurd has
      unmerged_turn Unread b closes_is has counts now new_held put =
          cause_turn o sound books story held h running refused v (entry s n kind.Close outcome.ReadFault m) works stage due (short kind.Close outcome.ReadFault) moment new unmoved
          (comes_unread r works stage s n kind.Close m (close_due early claim works) fit.close_unread refl (comes_open has)) ran Unread refl tt refl (with_machine r.state (claim_ended r.state.machine claim))
          (close_refused early claim r.position r.state no.ReadFault) refl counts at place now new_held put (ended_books claim books) ended_stand refl
      unmerged_turn (Damaged damage) b closes_is has counts now new_held put =
          cause_turn o sound books story held h running refused v (entry s n kind.Close outcome.Damaged m) works stage due (short kind.Close outcome.Damaged) moment new unmoved
          (comes_damaged r works stage s n kind.Close m (close_due early claim works) fit.close_damaged refl (comes_open has.0)) ran (Damaged damage) refl has.1 refl (with_machine r.state (claim_ended r.state.machine claim))
          (close_refused early claim r.position r.state (no.Damaged some_damage)) refl counts at place now new_held put (ended_books claim books) ended_stand refl
      unmerged_turn Unwritten b closes_is has counts now new_held put =
          let e = entry s n kind.Close outcome.WriteFault m in
          let there = begun_moment o.script o.start h s n works stage due (close_later early claim) in
          cause_turn o sound books story held h running refused v e works stage due (short kind.Close outcome.WriteFault) moment new unmoved
          (comes_undrafted r works stage s n kind.Close m (close_due early claim works) fit.close_unwritten (same_moment r.moment story.moment m v.at there moment) (fit.builds w.store) (opened o sound books story held h running refused v has)) ran Unwritten refl tt refl (closed_state b)
          (ap (λ x. refused_turn r.position (closed_if x r.position r.state) kind.Close stage no.WriteFault) closes_is ∙ close_refused early claim r.position (closed_if b r.position r.state) no.WriteFault) refl
          (counts_below story new (closes r.moment e) counts (λ below. not_closing r.moment story.moment e v.at there moment (subst (λ x. x < last) unmoved.moment below))) at place now new_held put (closed_books_if b at (ended_books claim books)) (closed_stand b) (closed_kept b)
      unmerged_turn NoMemory b closes_is has counts now new_held put =
          cause_turn o sound books story held h running refused v (entry s n kind.Close outcome.Memory m) works stage due (short kind.Close outcome.Memory) moment new unmoved
          (comes_without_memory r works stage s n kind.Close m (close_due early claim works) fit.close_starved (comes_open has)) ran NoMemory refl tt refl (with_machine r.state (claim_ended r.state.machine claim))
          (close_refused early claim r.position r.state no.Memory) refl counts at place now new_held put (ended_books claim books) ended_stand refl

    -- -- its close once its lease was renewed

    module _ (claim : Claim) (due : IsDue o.script (run_of o h) s n works (Renewed claim)) where
      -- the lease is lost, or the books are closed: nothing changes
      pub lost_turn : (x : Refusal) → claim_checked books.bare books.machine at claim ≡ Err x → Counts story new false → (now : Bool) (new_held : Option (List ℕ)) → IsPut (block (entry s n kind.Close outcome.Stands m) (Some (told_at at (reply.Refused x)))) now held new_held
          → KeepsInvariant o sound books new new_held h (entry s n kind.Close outcome.Stands m) now (refused || true)
      lost_turn x lost counts now new_held put =
          cause_turn o sound books story held h running refused v (entry s n kind.Close outcome.Stands m) works (Renewed claim) due (short kind.Close outcome.Stands) moment new unmoved
          (comes_standing r works (Renewed claim) s n kind.Close m refl refl) ran (Replies (reply.Refused x)) refl tt refl r.state (ap (completes r.position r.state claim) (checked_is claim ∙ lost)) refl counts at place now new_held put books v.state refl

      -- the lease holds, and its errand is refused: the lease ends
      pub unfit_turn : (x : Refusal) → completes r.position r.state claim (claim_checked w r.state.machine r.position claim) ≡ refuses r.position (with_machine r.state (claim_ended r.state.machine claim)) x → Counts story new false → (now : Bool) (new_held : Option (List ℕ))
          → IsPut (block (entry s n kind.Close outcome.Stands m) (Some (told_at at (reply.Refused x)))) now held new_held → KeepsInvariant o sound (ended_books claim books) new new_held h (entry s n kind.Close outcome.Stands m) now (refused || true)
      unfit_turn x unfit counts now new_held put =
          cause_turn o sound books story held h running refused v (entry s n kind.Close outcome.Stands m) works (Renewed claim) due (short kind.Close outcome.Stands) moment new unmoved
          (comes_standing r works (Renewed claim) s n kind.Close m refl refl) ran (Replies (reply.Refused x)) refl tt refl (with_machine r.state (claim_ended r.state.machine claim)) unfit refl counts at place now new_held put
          (ended_books claim books) (machine_stands _ _ (λ i. claim_ended (v.state.machine i) claim) refl) refl

      -- there is no memory for what it does: the lease ends
      pub starved_turn : books.bare.closed ≡ None → Counts story new false → (now : Bool) (new_held : Option (List ℕ)) → IsPut (block (entry s n kind.Close outcome.Memory m) (Some (told_at at (reply.Refused no.Memory)))) now held new_held
          → KeepsInvariant o sound (ended_books claim books) new new_held h (entry s n kind.Close outcome.Memory m) now (refused || true)
      starved_turn is counts now new_held put =
          cause_turn o sound books story held h running refused v (entry s n kind.Close outcome.Memory m) works (Renewed claim) due (short kind.Close outcome.Memory) moment new unmoved
          (comes_without_memory r works (Renewed claim) s n kind.Close m refl fit.close_starved (fits_open w.closed false false false false (opened o sound books story held h running refused v is))) ran NoMemory refl tt refl (with_machine r.state (claim_ended r.state.machine claim)) refl refl counts at place now new_held put
          (ended_books claim books) (machine_stands _ _ (λ i. claim_ended (v.state.machine i) claim) refl) refl

  -- ---- a close that does what its claim is for, and makes this state with this reply

  module _ (claim : Claim) (due : IsDue o.script (run_of o h) s n works (Renewed claim)) (holds : claim_checked books.bare books.machine at claim ≡ Ok tt) (new : Story) (moment : m ≡ new.moment) (passes : Passes story new)
      (had : IsTrue sound → story.moment < last → AllStand o.stands story books.kept) (state : State) (rep : Reply) (is : does r.position r.state claim claim.errand ≡ prints r.position state rep) (writing : is_written rep ≡ true) (told : is_refusal rep ≡ false)
      (kept : Kept) (kept_is : IsTrue sound → kept_of state ≡ kept) (writes : IsTrue sound → Writes o.stands story new books.kept kept) (now : Bool) (new_held : Option (List ℕ)) where
    done_is : turn_of r works (entry s n kind.Close outcome.Stands m) (Renewed claim) outcome.Stands ≡ prints r.position state rep
    done_is = ap (completes r.position r.state claim) (checked_is claim ∙ holds) ∙ is

    had_kept : IsTrue sound → story.moment < last → AllStand o.stands story (kept_of r.state)
    had_kept ok below = subst (AllStand o.stands story) (sym (v.state.rows ok)) (had ok below)

    spans : (aim : Kept) → kept ≡ aim → IsTrue sound → new.moment < last → Spans (StandsForEither o.stands (kept_of r.state) aim) story new
    spans aim is ok below =
        subst (λ x. Spans (StandsForEither o.stands x aim) story new) (sym (v.state.rows ok)) (subst (λ x. Spans (StandsForEither o.stands books.kept x) story new) is (writes ok below (had ok (below_before passes.later below))))
      where
        below_before : story.moment ≤ new.moment → new.moment < last → story.moment < last
        below_before later lt = omega (arith, later, lt)

    -- its device work is done
    pub done_turn : (after : Books) → AreBooksOf sound after state → Counts story new false → (IsTrue sound → new.moment < last → AllStand o.stands new kept) → IsPut (block (entry s n kind.Close outcome.Stands m) (Some (told_at at rep))) now held new_held
        → KeepsInvariantTelling o sound after new new_held h (entry s n kind.Close outcome.Stands m) now (refused || false) rep
    done_turn after stands counts stand put =
        subst (λ b. KeepsInvariantTelling o sound after new new_held h (entry s n kind.Close outcome.Stands m) now (refused || b) rep) told
        (wrote_turn o sound books story held h running refused v (entry s n kind.Close outcome.Stands m) works (Renewed claim) due (short kind.Close outcome.Stands) new passes moment counts had_kept
        (comes_standing r works (Renewed claim) s n kind.Close m refl refl) ran refl state rep done_is now new_held
        (puts_reply o sound books story held h running refused v (entry s n kind.Close outcome.Stands m) rep at place refl now new_held put) writing after stands
        (λ ok below. spans (kept_of state) (sym (kept_is ok)) ok below) (λ ok below. subst (AllStand o.stands new) (sym (kept_is ok)) (stand ok below)))

    -- its device work has failed: the books close, and the lease has ended
    pub undone_turn : Counts story new true → IsPut (block (entry s n kind.Close outcome.WriteFault m) (Some (told_at at (reply_of Unwritten)))) now held new_held
        → KeepsInvariant o sound (closed_books at (ended_books claim books)) new new_held h (entry s n kind.Close outcome.WriteFault m) now (refused || true)
    undone_turn counts put =
        let e = entry s n kind.Close outcome.WriteFault m in
        let shut : State = closed_off (closed_if true r.position r.state) (Renewed claim) in
        let closing_is : closes r.moment e ≡ true = closing r.moment story.moment e v.at (subst (λ x. Rose story.moment x) (sym moment) passes.rose) refl in
        failed_turn o sound books story held h running refused v e works (Renewed claim) due (short kind.Close outcome.WriteFault) new passes moment (counts_any story new (closes r.moment e) counts) had_kept
        (comes_unwritten r works (Renewed claim) s n kind.Close m refl fit.close_unwritten closing_is refl (ap (λ (t : Turned). wrote t.told) done_is ∙ writing) (opened o sound books story held h running refused v (checked_open books.bare books.machine at claim holds)))
        ran refl shut (reply_of Unwritten) (ap (λ b. refuses r.position (closed_off (closed_if b r.position r.state) (Renewed claim)) no.WriteFault) closing_is) now new_held
        (puts_cause o sound books story held h running refused v e Unwritten at place refl tt now new_held put) refl closing_is kept (closed_books at (ended_books claim books))
        (record {
          projection = ap (λ (x : Warehouse). record x { closed = Some r.position }) v.state.projection ∙ ap (λ p. record books.bare { closed = Some p }) (sym at_is);
          machine = λ i. claim_ended (v.state.machine i) claim;
          rows = v.state.rows;
          pins = v.state.pins;
        })
        refl (λ ok. sym (kept_is ok) ∙ sym (kept_after o.script r (stood e) ∙ ap (λ (t : Turned). kept_of t.state) (turned_at o.script r (entry s n kind.Close outcome.Stands m) works (Renewed claim) due ∙ done_is)))
        (λ ok below. spans kept refl ok below)

  -- ---- the swap

  module _ (claim : Claim) (work : Work) (errand : claim.errand ≡ Merges work) (due : IsDue o.script (run_of o h) s n works (Renewed claim)) (holds : claim_checked books.bare books.machine at claim ≡ Ok tt) (new : Story) (moment : m ≡ new.moment) (passes : Passes story new)
      (had : IsTrue sound → story.moment < last → AllStand o.stands story books.kept) (kept : Kept) (swaps : Swaps sound books claim work kept) (writes : IsTrue sound → Writes o.stands story new books.kept kept) (now : Bool) (new_held : Option (List ℕ)) where
    abbrev swapped_state : State
    swapped_state = with_machine r.state (claim_merged r.state.machine claim work)

    swapped_is : does r.position r.state claim claim.errand ≡ prints r.position swapped_state (swapped_reply work)
    swapped_is = ap (does r.position r.state claim) errand

    -- its device work is done: the books have its range, and the lease has ended
    pub swapped_turn : Counts story new false → (IsTrue sound → new.moment < last → AllStand o.stands new kept) → IsPut (block (entry s n kind.Close outcome.Stands m) (Some (told_at at (swapped_reply work)))) now held new_held
        → KeepsInvariantTelling o sound (swapped_books claim work kept books) new new_held h (entry s n kind.Close outcome.Stands m) now (refused || false) (swapped_reply work)
    swapped_turn counts stand put =
        done_turn claim due holds new moment passes had swapped_state (swapped_reply work) swapped_is (swap_writes work) (swap_told work) kept (λ ok. swaps r.state v.state ok) writes now new_held (swapped_books claim work kept books)
        (record { projection = v.state.projection; machine = λ i. claim_merged (v.state.machine i) claim work; rows = λ ok. swaps r.state v.state ok; pins = v.state.pins }) counts stand put

    -- its device work has failed
    pub unswapped_turn : Counts story new true → IsPut (block (entry s n kind.Close outcome.WriteFault m) (Some (told_at at (reply_of Unwritten)))) now held new_held
        → KeepsInvariant o sound (closed_books at (ended_books claim books)) new new_held h (entry s n kind.Close outcome.WriteFault m) now (refused || true)
    unswapped_turn counts put =
        undone_turn claim due holds new moment passes had swapped_state (swapped_reply work) swapped_is (swap_writes work) (swap_told work) kept (λ ok. swaps r.state v.state ok) writes now new_held counts put
