-- What an entry of a history makes of the tables and the number of versions, and what it does to the rows that are written.
use Rattle.std.proofs.Common.{◌≡◌, ℕ, ◌==◌, List, [], Bool, true, false, Option, Some, None, Result, Ok, Err, is_ok, nat_lt, ok_or, refl, subst, sym}
use Rattle.mesa_history_spec.specs.mesa_list.Checks.{◌>>=◌, ◌>>◌, refuse_if, refused_as}
use Rattle.mesa_history_spec.specs.mesa_span.Work.{next_work}
use Rattle.mesa_history_spec.specs.mesa_span.declared.works.Work.{Work}
use Rattle.mesa_history_spec.specs.mesa_span.declared.works.Work.TheVariants as work
use Rattle.mesa_history_spec.specs.mesa_model.declared.commands.Command.{Command}
use Rattle.mesa_history_spec.specs.mesa_model.declared.commands.Command.TheVariants as command
use Rattle.mesa_history_spec.specs.mesa_lease.Book.{holder}
use Rattle.mesa_history_spec.specs.mesa_schema.declared.recasts.RecastError.{RecastError}
use Rattle.mesa_history_spec.specs.mesa_schema.Changes.{Lineage, epoch_of}
use Rattle.mesa_history_spec.specs.mesa_schema.Recasts.{Recast, recast_checked}
use Rattle.mesa_history_spec.proofs.mesa_schema.Passing.{passed_unless}
use Rattle.mesa_history_spec.specs.mesa_model.declared.commands.ExplainWords.{ExplainWords}
use Rattle.mesa_history_spec.specs.mesa_model.declared.commands.RecastWords.{RecastWords}
use Rattle.mesa_history_spec.specs.mesa_model.declared.commands.Script.{Script}
use Rattle.mesa_history_spec.specs.mesa_model.declared.entries.Entry.{Entry}
use Rattle.mesa_history_spec.specs.mesa_model.declared.entries.Kind.{Kind}
use Rattle.mesa_history_spec.specs.mesa_model.declared.entries.Kind.TheVariants as kind
use Rattle.mesa_history_spec.specs.mesa_model.declared.entries.Outcome.{Outcome}
use Rattle.mesa_history_spec.specs.mesa_model.declared.entries.Outcome.TheVariants as outcome
use Rattle.mesa_history_spec.specs.mesa_model.declared.replies.Refusal.{Refusal}
use Rattle.mesa_history_spec.specs.mesa_model.declared.replies.Refusal.TheVariants as no
use Rattle.mesa_history_spec.specs.mesa_model.declared.replies.Reply.{Reply}
use Rattle.mesa_history_spec.specs.mesa_model.declared.replies.Reply.TheVariants as reply
use Rattle.mesa_history_spec.specs.mesa_model.Warehouse.{Store, newest_of, table_at}
use Rattle.mesa_history_spec.specs.mesa_model.Query.{Answer, query_answer}
use Rattle.mesa_history_spec.specs.mesa_model.Orders.{order_asked}
use Rattle.mesa_history_spec.specs.mesa_model.Refusals.{recast_refusal, refuse_closed}
use Rattle.mesa_history_spec.specs.mesa_model.Relations.{relation_of, table_number}
use Rattle.mesa_history_spec.specs.mesa_model.Tables.{recast_asked, with_recast}
use Rattle.mesa_history_spec.specs.mesa_model.Versions.{version_asked}
use Rattle.mesa_history_spec.specs.Law.{Writing, Leaves, recast_at, recast_for, regroups, writing_by, writing_if_told}
use Rattle.mesa_history_spec.specs.Machine.{Claim, Errand, Machine, Merges, Recasts, claim_checked, claim_ended, claim_merged, claim_of, explained, max_deltas, ranges_at, recast_claim_of, refuse_busy, singletons_of, still_checked, swapped_reply}
use Rattle.mesa_history_spec.specs.Run.{Answered, CutOff, Finished, First, Granted, Looked, Renewed, Run, Stage, State, command_of, place_of}
use Rattle.mesa_history_spec.specs.Replay.{Turned, close, closed_if, closes, completes, decide, decided_explain, decided_query, does, go, grant, grants, prints, recasts, refused_turn, refuses, renew, renews, some_damage, standing, turn_as, turn_of, turned, with_machine}
use Rattle.mesa_history_laws.proofs.Checks.{after_check, after_some, after_value}
use Rattle.mesa_history_laws.proofs.Moves.{Moves, alter_moves, expire_moves, load_moves, nothing_moves, pin_moves, release_moves, table_moves, view_moves}

-- It holds after a turn of a command that has come to a stage, whatever the turn was.
record Turns (s : Store) (P : Store → ℕ → Writing → Type 0) (stage : Stage) (c : Command) (t : Turned) : Type 0 where
  holds : P t.state.warehouse.store t.state.warehouse.next (writing_if_told s (Some c) stage t.told)

-- ---- a claim's checks

module _ (P : Result Claim Reply → Type 0) where
  not_granted_checked : (r : Result (Unit {0}) Refusal) (next : Result Claim Reply) → ((e : Refusal) → P (Err (reply.Refused e))) → P next → P (refused_as reply.Refused r >> next)
  not_granted_checked (Ok ok) next bad good = good
  not_granted_checked (Err e) next bad good = bad e

  not_there : {A : Type 0} (o : Option A) (e : Reply) (f : A → Result Claim Reply) → P (Err e) → ((x : A) → P (f x)) → P (ok_or o e >>= f)
  not_there None e f bad good = bad
  not_there (Some x) e f bad good = good x

  not_free : (o : Option ℕ) (next : Result Claim Reply) → ((lease : ℕ) → P (Err (reply.Busy lease))) → P next → P (refuse_busy o >> next)
  not_free None next bad good = good
  not_free (Some lease) next bad good = bad lease

  not_many : (t : Bool) (e : Reply) (next : Result Claim Reply) → P (Err e) → P next → P (refuse_if t e >> next)
  not_many true e next bad good = bad
  not_many false e next bad good = good

-- ---- turns

-- It holds after an explain that was told this, and after a grant.
record Explains (before : Store) (P : Store → ℕ → Writing → Type 0) (stage : Stage) (c : Command) (position : ℕ) (s : State) (r : Result Reply Refusal) : Type 0 where
  holds : Turns before P stage c (decided_explain position s r)

record Grants (before : Store) (P : Store → ℕ → Writing → Type 0) (stage : Stage) (c : Command) (position : ℕ) (s : State) (r : Result Claim Reply) : Type 0 where
  holds : Turns before P stage c (grants position s r)

-- ---- turns that leave the tables as they are

module _ (before : Store) (s : State) (at : Stage) (c : Command) (P : Store → ℕ → Writing → Type 0) (same : P s.warehouse.store s.warehouse.next Leaves) where
  abbrev T : Turned → Type 0
  T = Turns before P at c

  query_turns : (position : ℕ) (r : Result Answer Refusal) → T (decided_query position s r)
  query_turns position (Ok answer) = record { holds = same }
  query_turns position (Err refusal) = record { holds = same }

  explain_turns : (position : ℕ) (words : ExplainWords) → T (decided_explain position s (explained s.warehouse s.machine words))
  explain_turns position words =
      let w = s.warehouse in
      let D = Explains before P at c position s in
      let stays : (e : Refusal) → D (Err e) = λ e. record { holds = record { holds = same } } in
      let all : D (explained w s.machine words) =
      after_check D stays (refuse_closed w.closed) _ (λ open'. after_some D stays (relation_of w.store words.relation) _ _ (λ relation is. after_value D stays (order_asked relation words.filter) _ (λ by told. after_value D stays (version_asked w relation.table.oldest words.version) _ (λ version there.
      record { holds = record { holds = same } })))) in
      all.holds

  grant_turns : (position : ℕ) (name : List ℕ) → T (grants position s (claim_of s.warehouse s.machine position name))
  grant_turns position name =
      let w = s.warehouse in
      let D = Grants before P at c position s in
      let all : D (claim_of w s.machine position name) =
      not_granted_checked D (refuse_closed w.closed) _ (λ e. record { holds = record { holds = same } }) (
      not_there D (table_number w.store name) _ _ (record { holds = record { holds = same } }) (λ table.
      not_free D (holder s.machine.leases table position) _ (λ lease. record { holds = record { holds = same } }) (
      not_there D (next_work (ranges_at s.machine table) (table_at w.store table).oldest (newest_of w)) _ _ (record { holds = record { holds = same } }) (λ work. record { holds = record { holds = same } })))) in
      all.holds

  recast_grant_turns : (position : ℕ) (words : RecastWords) → T (grants position s (recast_claim_of s.warehouse s.machine position words))
  recast_grant_turns position words =
      let w = s.warehouse in
      let D = Grants before P at c position s in
      let all : D (recast_claim_of w s.machine position words) =
      not_granted_checked D (refuse_closed w.closed) _ (λ e. record { holds = record { holds = same } }) (
      not_there D (table_number w.store words.table) _ _ (record { holds = record { holds = same } }) (λ table.
      not_granted_checked D (refused_as recast_refusal (recast_checked (table_at w.store table).lineage (recast_asked words))) _ (λ e. record { holds = record { holds = same } }) (
      not_free D (holder s.machine.leases table position) _ (λ lease. record { holds = record { holds = same } }) (
      not_many D (nat_lt max_deltas (singletons_of w s.machine table)) _ _ (record { holds = record { holds = same } }) (record { holds = record { holds = same } }))))) in
      all.holds

  renews_turns : (position : ℕ) (claim : Claim) (r : Result (Unit {0}) Refusal) → T (renews position s claim r)
  renews_turns position claim (Ok ok) = record { holds = same }
  renews_turns position claim (Err refusal) = record { holds = same }

  refusal_turns : (position : ℕ) (m : Machine) (refusal : Refusal) → T (refuses position (with_machine s m) refusal)
  refusal_turns position m refusal = record { holds = same }

  swap_turns : (position : ℕ) (m : Machine) (w : Work) → T (prints position (with_machine s m) (swapped_reply w))
  swap_turns position m (work.Base to) = record { holds = same }
  swap_turns position m (work.Cumulative from to) = record { holds = same }

  renew_turns : (position : ℕ) (stage : Stage) → T (renew position s stage)
  renew_turns position First = record { holds = same }
  renew_turns position Looked = record { holds = same }
  renew_turns position (Answered at answer) = record { holds = same }
  renew_turns position (Granted claim) = renews_turns position claim (claim_checked s.warehouse s.machine position claim)
  renew_turns position (Renewed claim) = record { holds = same }
  renew_turns position Finished = record { holds = same }
  renew_turns position CutOff = record { holds = same }

  -- a turn that is refused for a fault or for want of memory
  refused_close : (position : ℕ) (stage : Stage) (refusal : Refusal) → T (refused_turn position s kind.Close stage refusal)
  refused_close position First refusal = record { holds = same }
  refused_close position Looked refusal = record { holds = same }
  refused_close position (Answered at answer) refusal = record { holds = same }
  refused_close position (Granted claim) refusal = record { holds = same }
  refused_close position (Renewed claim) refusal = record { holds = same }
  refused_close position Finished refusal = record { holds = same }
  refused_close position CutOff refusal = record { holds = same }

  refused_turns : (position : ℕ) (k : Kind) (stage : Stage) (refusal : Refusal) → T (refused_turn position s k stage refusal)
  refused_turns position kind.Look stage refusal = record { holds = same }
  refused_turns position kind.Decide stage refusal = record { holds = same }
  refused_turns position kind.Close stage refusal = refused_close position stage refusal
  refused_turns position kind.Grant stage refusal = record { holds = same }
  refused_turns position kind.Renew stage refusal = record { holds = same }

-- ---- the close of a work or a recast

-- a recast whose close stands is allowed
still_allowed : (l : Lineage) (epoch : ℕ) (r : Recast) → is_ok (still_checked l epoch r) ≡ true → is_ok (recast_checked l r) ≡ true
still_allowed l epoch r h = as_ok (recast_checked l r) (passed_unless (epoch_of l == epoch) _ _ h).1
  where
    as_ok : (c : Result (Unit {0}) RecastError) → is_ok (refused_as recast_refusal c) ≡ true → is_ok c ≡ true
    as_ok (Ok x) ok = refl
    as_ok (Err e) ok = cc

module _ (s : State) (c : Command) (P : Store → ℕ → Writing → Type 0) (moves : Moves s.warehouse P) (position : ℕ) where
  abbrev now : Store
  now = s.warehouse.store

  recasts_turns : (at : Stage) (claim : Claim) (r : Recast) (o : Result (Unit {0}) Refusal) → recast_at at ≡ Some (record { table = claim.table; recast = r })
      → (is_ok o ≡ true → is_ok (recast_checked (table_at s.warehouse.store claim.table).lineage r) ≡ true) → Turns now P at c (recasts position s claim r o)
  recasts_turns at claim r (Err refusal) is allowed = refusal_turns now s at c P moves.same position (claim_ended s.machine claim) refusal
  recasts_turns at claim r (Ok ok) is allowed = record { holds = subst (λ o. P (with_recast s.warehouse claim.table r).store s.warehouse.next (regroups o)) (sym is) (moves.recasts claim.table r (allowed refl)) }

  does_turns : (at : Stage) (claim : Claim) (errand : Errand) → recast_at at ≡ recast_for claim.table errand → Turns now P at c (does position s claim errand)
  does_turns at claim (Merges work) is = swap_turns now s at c P moves.same position (claim_merged s.machine claim work) work
  does_turns at claim (Recasts epoch r) is = recasts_turns at claim r (still_checked (table_at s.warehouse.store claim.table).lineage epoch r) is (still_allowed (table_at s.warehouse.store claim.table).lineage epoch r)

  completes_turns : (at : Stage) (claim : Claim) (o : Result (Unit {0}) Refusal) → recast_at at ≡ recast_for claim.table claim.errand → Turns now P at c (completes position s claim o)
  completes_turns at claim (Err refusal) is = record { holds = moves.same }
  completes_turns at claim (Ok ok) is = does_turns at claim claim.errand is

  close_turns : (at : Stage) → Turns now P at c (close position s at)
  close_turns First = record { holds = moves.same }
  close_turns Looked = record { holds = moves.same }
  close_turns (Answered at answer) = record { holds = moves.same }
  close_turns (Granted claim) = completes_turns (Granted claim) claim (claim_checked s.warehouse s.machine position claim) refl
  close_turns (Renewed claim) = completes_turns (Renewed claim) claim (claim_checked s.warehouse s.machine position claim) refl
  close_turns Finished = record { holds = moves.same }
  close_turns CutOff = record { holds = moves.same }

-- ---- any turn

module _ (r : Run) (e : Entry) (P : Store → ℕ → Writing → Type 0) (moves : Moves r.state.warehouse P) where
  abbrev before : Store
  before = r.state.warehouse.store

  decide_turns : (c : Command) → Turns before P (place_of r e.session).stage c (decide r.position r.state e.session c)
  decide_turns (command.Table words) = record { holds = (table_moves r.state.warehouse P moves (place_of r e.session).stage words).holds }
  decide_turns (command.View words) = record { holds = (view_moves r.state.warehouse P moves (place_of r e.session).stage words).holds }
  decide_turns (command.Alter words) = record { holds = (alter_moves r.state.warehouse P moves (place_of r e.session).stage words).holds }
  decide_turns (command.Load rows) = record { holds = (load_moves r.state.warehouse P moves (place_of r e.session).stage rows).holds }
  decide_turns (command.Query words) = query_turns before r.state (place_of r e.session).stage (command.Query words) P moves.same r.position (query_answer r.state.warehouse e.session words)
  decide_turns (command.Explain words) = explain_turns before r.state (place_of r e.session).stage (command.Explain words) P moves.same r.position words
  decide_turns (command.Pin asked) = record { holds = (pin_moves r.state.warehouse P moves (place_of r e.session).stage e.session asked).holds }
  decide_turns (command.Release token) = record { holds = (release_moves r.state.warehouse P moves (place_of r e.session).stage e.session token).holds }
  decide_turns (command.Expire table version) = record { holds = (expire_moves r.state.warehouse P moves (place_of r e.session).stage table version).holds }
  decide_turns (command.Work words) = record { holds = (nothing_moves r.state.warehouse P moves (place_of r e.session).stage (command.Work words)).holds }
  decide_turns (command.Recast words) = record { holds = (nothing_moves r.state.warehouse P moves (place_of r e.session).stage (command.Recast words)).holds }

  grants_turns : (c : Command) → Turns before P (place_of r e.session).stage c (grant r.position r.state c)
  grants_turns (command.Recast words) = recast_grant_turns before r.state (place_of r e.session).stage (command.Recast words) P moves.same r.position words
  grants_turns (command.Table words) = grant_turns before r.state (place_of r e.session).stage (command.Table words) P moves.same r.position []
  grants_turns (command.View words) = grant_turns before r.state (place_of r e.session).stage (command.View words) P moves.same r.position []
  grants_turns (command.Alter words) = grant_turns before r.state (place_of r e.session).stage (command.Alter words) P moves.same r.position []
  grants_turns (command.Load rows) = grant_turns before r.state (place_of r e.session).stage (command.Load rows) P moves.same r.position []
  grants_turns (command.Query words) = grant_turns before r.state (place_of r e.session).stage (command.Query words) P moves.same r.position []
  grants_turns (command.Explain words) = grant_turns before r.state (place_of r e.session).stage (command.Explain words) P moves.same r.position []
  grants_turns (command.Pin asked) = grant_turns before r.state (place_of r e.session).stage (command.Pin asked) P moves.same r.position []
  grants_turns (command.Release token) = grant_turns before r.state (place_of r e.session).stage (command.Release token) P moves.same r.position []
  grants_turns (command.Expire table version) = grant_turns before r.state (place_of r e.session).stage (command.Expire table version) P moves.same r.position []
  grants_turns (command.Work words) = grant_turns before r.state (place_of r e.session).stage (command.Work words) P moves.same r.position words.table

  standing_turns : (c : Command) (k : Kind) → Turns before P (place_of r e.session).stage c (standing r.position r.state e.session c k (place_of r e.session).stage)
  standing_turns c kind.Look = record { holds = moves.same }
  standing_turns c kind.Decide = decide_turns c
  standing_turns c kind.Close = close_turns r.state c P moves r.position (place_of r e.session).stage
  standing_turns c kind.Grant = grants_turns c
  standing_turns c kind.Renew = renew_turns before r.state (place_of r e.session).stage c P moves.same r.position (place_of r e.session).stage

  -- a write fault, whether it closes the warehouse or not
  fault_turns : (c : Command) (k : Kind) (closing : Bool) → Turns before P (place_of r e.session).stage c (refused_turn r.position (closed_if closing r.position r.state) k (place_of r e.session).stage no.WriteFault)
  fault_turns c k true = refused_turns before (closed_if true r.position r.state) (place_of r e.session).stage c P moves.same r.position k (place_of r e.session).stage no.WriteFault
  fault_turns c k false = refused_turns before r.state (place_of r e.session).stage c P moves.same r.position k (place_of r e.session).stage no.WriteFault

  turn_turns : (c : Command) (o : Outcome) → Turns before P (place_of r e.session).stage c (turn_of r c e (place_of r e.session).stage o)
  turn_turns c outcome.Stands = standing_turns c e.kind
  turn_turns c outcome.Memory = refused_turns before r.state (place_of r e.session).stage c P moves.same r.position e.kind (place_of r e.session).stage no.Memory
  turn_turns c outcome.ReadFault = refused_turns before r.state (place_of r e.session).stage c P moves.same r.position e.kind (place_of r e.session).stage no.ReadFault
  turn_turns c outcome.WriteFault = fault_turns c e.kind (closes r.moment e)
  turn_turns c outcome.Damaged = refused_turns before r.state (place_of r e.session).stage c P moves.same r.position e.kind (place_of r e.session).stage (no.Damaged some_damage)
  turn_turns c outcome.Skipped = record { holds = moves.same }

  -- the turn of a command that may not be there
  as_moves : (o : Option Command) → P (turn_as r e o).state.warehouse.store (turn_as r e o).state.warehouse.next (writing_if_told before o (place_of r e.session).stage (turn_as r e o).told)
  as_moves None = moves.same
  as_moves (Some c) = (turn_turns c e.outcome).holds

-- What an entry makes of a run's warehouse.
pub go_moves : (script : Script) (r : Run) (e : Entry) (P : Store → ℕ → Writing → Type 0) → Moves r.state.warehouse P
    → P (go script r e).state.warehouse.store (go script r e).state.warehouse.next (writing_by script r e)
unfolding go turned
go_moves script r e P moves = as_moves r e P moves (command_of script e)
