-- While the lease of a claim is live, its table isn't recast.
use Rattle.std.proofs.Common.{◌≡◌, ◌∙◌, ⊎_elim, ℕ, ◌<◌, List, [], ◌∷◌, length, Bool, true, false, refl, sym, ap, subst, arith, Option, None, Some}
use Rattle.std.specs.Prelude.{Result, Ok, Err, IfOk}
use Rattle.mesa_history_spec.specs.mesa_span.declared.ranges.Ranges.{Ranges}
use Rattle.mesa_history_spec.specs.mesa_span.declared.works.Work.{Work}
use Rattle.mesa_history_spec.specs.mesa_list.Checks.{refuse_unless}
use Rattle.mesa_history_spec.specs.mesa_lease.Book.{is_held, other_holder}
use Rattle.mesa_history_spec.specs.mesa_schema.Recasts.{Recast}
use Rattle.mesa_history_spec.specs.mesa_model.declared.commands.Command.{Command}
use Rattle.mesa_history_spec.specs.mesa_model.declared.commands.Command.TheVariants as command
use Rattle.mesa_history_spec.specs.mesa_model.declared.commands.Script.{Script}
use Rattle.mesa_history_spec.specs.mesa_model.declared.entries.Entry.{Entry}
use Rattle.mesa_history_spec.specs.mesa_model.declared.entries.Kind.{Kind}
use Rattle.mesa_history_spec.specs.mesa_model.declared.entries.Kind.TheVariants as kind
use Rattle.mesa_history_spec.specs.mesa_model.declared.entries.Outcome.{Outcome}
use Rattle.mesa_history_spec.specs.mesa_model.declared.entries.Outcome.TheVariants as outcome
use Rattle.mesa_history_spec.specs.mesa_model.declared.replies.Refusal.{Refusal}
use Rattle.mesa_history_spec.specs.mesa_model.declared.replies.Refusal.TheVariants as no
use Rattle.mesa_history_spec.specs.mesa_model.declared.replies.Reply.{Reply}
use Rattle.mesa_history_spec.specs.mesa_model.declared.replies.Reply.TheVariants as reply
use Rattle.mesa_history_spec.specs.mesa_model.Load.{load_batch}
use Rattle.mesa_history_spec.specs.mesa_model.Pins.{make_pin, release_pin}
use Rattle.mesa_history_spec.specs.mesa_model.Query.{Answer, query_answer}
use Rattle.mesa_history_spec.specs.mesa_model.Refusals.{refuse_closed}
use Rattle.mesa_history_spec.specs.mesa_model.Step.{nothing_done}
use Rattle.mesa_history_spec.specs.mesa_model.Tables.{alter_table, make_table, make_view, table_recast}
use Rattle.mesa_history_spec.specs.mesa_model.Versions.{expire_to}
use Rattle.mesa_history_spec.specs.mesa_model.Warehouse.{Table, Warehouse, no_table, table_at}
use Rattle.mesa_history_spec.specs.Claims.{HasClaim, IsClaim, is_live}
use Rattle.mesa_history_spec.specs.Law.{begun_at}
use Rattle.mesa_history_spec.specs.Machine.{Claim, Errand, Machine, Merges, Recasts, claim_checked, claim_ended, claim_merged, claim_renewed, claimed, explained, still_checked}
use Rattle.mesa_history_spec.specs.Replay.{claim_asked, close, closed_if, closes, completes, decide, decided, decided_explain, decided_query, does, go, grants, machine_after, recasts, refused_turn, renew, renews, runs, some_damage, standing, turn_as, turn_of, turned, with_machine}
use Rattle.mesa_history_spec.specs.Run.{Granted, Renewed, Run, Stage, State, command_of, place_of}
use Rattle.mesa_history_spec.proofs.Checks.{ok_then}
use Rattle.mesa_history_spec.proofs.Claiming.{claimed_live, dead, ended_live, renewed_live, set_get}
use Rattle.mesa_history_spec.proofs.Claims.{HoldAll, runs_hold, turned_keeps}
use Rattle.mesa_history_spec.proofs.Growing.{Grows, alter_grows, done_grows, expire_grows, load_grows, nothing_grows, pin_grows, release_grows, table_grows, view_grows}
use Rattle.mesa_history_spec.proofs.More.{state_after}

-- What is known of a claim whose lease is live behind a turn: it was live before, and its table's columns begin where they did.
record Lives (s t : State) (claim : Claim) : Type 0 where
  live : is_live t.machine.leases claim.table claim.lease ≡ true → is_live s.machine.leases claim.table claim.lease ≡ true
  begun : is_live t.machine.leases claim.table claim.lease ≡ true → begun_at t.warehouse claim.table ≡ begun_at s.warehouse claim.table

unless_held : (b : Bool) (e : Refusal) → IfOk (refuse_unless b e) (λ ok. b ≡ true)
unless_held true e = refl
unless_held false e = tt

-- a claim that passes its check holds its lease
checked_held : (s : State) (position : ℕ) (claim : Claim) → IfOk (claim_checked s.warehouse s.machine position claim) (λ ok. is_held s.machine.leases claim.table claim.lease position ≡ true)
checked_held s position claim =
    ok_then (λ ok. is_held s.machine.leases claim.table claim.lease position ≡ true) (refuse_closed s.warehouse.closed) _ (
    unless_held (is_held s.machine.leases claim.table claim.lease position) (no.Lost claim.lease (other_holder s.machine.leases claim.table claim.lease position)))

-- a command's reply grants no lease and ends none
same_leases : (w : Warehouse) (r : Reply) (m : Machine) → (machine_after w r m).leases ≡ m.leases
same_leases w (reply.Table name) m = refl
same_leases w r m = refl

-- ---- a turn

module _ (position : ℕ) (s : State) (claim : Claim) (was : Ranges) (is : IsClaim s.machine claim was) (there : claim.table < length s.warehouse.store.tables) where
  stays : Lives s s claim
  stays = record { live = λ live. live; begun = λ live. refl }

  -- the leases move
  moves : (n : Machine) → (is_live n.leases claim.table claim.lease ≡ true → is_live s.machine.leases claim.table claim.lease ≡ true) → Lives s (with_machine s n) claim
  moves n back = record { live = back; begun = λ live. refl }

  deciding : (done : Warehouse × Reply) → Grows s.warehouse done → Lives s (decided position s done).state claim
  deciding done grows = record {
    live = λ live. ap (λ book. is_live book claim.table claim.lease) (sym (same_leases done.0 done.1 s.machine)) ∙ live;
    begun = λ live. (grows.on claim.table there).begins;
  }

  querying : (r : Result Answer Refusal) → Lives s (decided_query position s r).state claim
  querying (Ok answer) = stays
  querying (Err refusal) = stays

  explaining : (r : Result Reply Refusal) → Lives s (decided_explain position s r).state claim
  explaining (Ok r) = stays
  explaining (Err refusal) = stays

  decides : (session : ℕ) (c : Command) → Lives s (decide position s session c).state claim
  decides session (command.Query words) = querying (query_answer s.warehouse session words)
  decides session (command.Explain words) = explaining (explained s.warehouse s.machine words)
  decides session (command.Table words) = deciding _ (done_grows s.warehouse (make_table s.warehouse words) (table_grows s.warehouse words))
  decides session (command.View words) = deciding _ (done_grows s.warehouse (make_view s.warehouse words) (view_grows s.warehouse words))
  decides session (command.Alter words) = deciding _ (done_grows s.warehouse (alter_table s.warehouse words) (alter_grows s.warehouse words))
  decides session (command.Load rows) = deciding _ (done_grows s.warehouse (load_batch s.warehouse rows) (load_grows s.warehouse rows))
  decides session (command.Pin asked) = deciding _ (done_grows s.warehouse (make_pin s.warehouse session asked) (pin_grows s.warehouse session asked))
  decides session (command.Release token) = deciding _ (done_grows s.warehouse (release_pin s.warehouse session token) (release_grows s.warehouse session token))
  decides session (command.Expire table version) = deciding _ (done_grows s.warehouse (expire_to s.warehouse table version) (expire_grows s.warehouse table version))
  decides session (command.Work words) = deciding _ (done_grows s.warehouse (nothing_done s.warehouse) (nothing_grows s.warehouse))
  decides session (command.Recast words) = deciding _ (done_grows s.warehouse (nothing_done s.warehouse) (nothing_grows s.warehouse))

  granting : (r : Result Claim Reply) → Lives s (grants position s r).state claim
  granting (Err r) = stays
  granting (Ok other) = moves (claimed s.machine position other) (claimed_live s.machine claim was is position other)

  renewing : (other : Claim) (r : Result (Unit {0}) Refusal) → IfOk r (λ ok. is_held s.machine.leases other.table other.lease position ≡ true) → Lives s (renews position s other r).state claim
  renewing other (Err refusal) held = stays
  renewing other (Ok ok) held = moves (claim_renewed s.machine position other) (renewed_live s.machine claim was is position other held)

  ending : (other : Claim) → Lives s (with_machine s (claim_ended s.machine other)) claim
  ending other = moves (claim_ended s.machine other) (ended_live s.machine claim was is other)

  -- a recast ends the lease that held its table, and with it each that was live there
  recasting : (other : Claim) (r : Recast) (o : Result (Unit {0}) Refusal) → is_held s.machine.leases other.table other.lease position ≡ true → Lives s (recasts position s other r o).state claim
  recasting other r (Err refusal) held = ending other
  recasting other r (Ok ok) held = record {
    live = ended_live s.machine claim was is other;
    begun = λ live. ⊎_elim
        (λ same. ap (λ (t : Table). t.lineage.begins) same)
        (λ one. absurd (dead s.machine claim was is position other held live one.0))
        (set_get s.warehouse.store.tables other.table (table_recast (table_at s.warehouse.store other.table) r) claim.table no_table);
  }

  doing : (other : Claim) (errand : Errand) → is_held s.machine.leases other.table other.lease position ≡ true → Lives s (does position s other errand).state claim
  doing other (Merges work) held = moves (claim_merged s.machine other work) (ended_live s.machine claim was is other)
  doing other (Recasts epoch r) held = recasting other r (still_checked (table_at s.warehouse.store other.table).lineage epoch r) held

  completing : (other : Claim) (r : Result (Unit {0}) Refusal) → IfOk r (λ ok. is_held s.machine.leases other.table other.lease position ≡ true) → Lives s (completes position s other r).state claim
  completing other (Err refusal) held = stays
  completing other (Ok ok) held = doing other other.errand held

  renewals : (stage : Stage) → Lives s (renew position s stage).state claim
  renewals (Granted other) = renewing other (claim_checked s.warehouse s.machine position other) (checked_held s position other)
  renewals stage = stays

  closings : (stage : Stage) → Lives s (close position s stage).state claim
  closings (Granted other) = completing other (claim_checked s.warehouse s.machine position other) (checked_held s position other)
  closings (Renewed other) = completing other (claim_checked s.warehouse s.machine position other) (checked_held s position other)
  closings stage = stays

  standings : (session : ℕ) (c : Command) (k : Kind) (stage : Stage) → Lives s (standing position s session c k stage).state claim
  standings session c kind.Look stage = stays
  standings session c kind.Decide stage = decides session c
  standings session c kind.Close stage = closings stage
  standings session c kind.Grant stage = granting (claim_asked s.warehouse s.machine position c)
  standings session c kind.Renew stage = renewals stage

  refusals : (k : Kind) (stage : Stage) (refusal : Refusal) → Lives s (refused_turn position s k stage refusal).state claim
  refusals kind.Close (Granted other) refusal = ending other
  refusals kind.Close (Renewed other) refusal = ending other
  refusals k stage refusal = stays

-- a write fault, whether it closes the warehouse or not
faults : (position : ℕ) (s : State) (claim : Claim) (was : Ranges) → IsClaim s.machine claim was → claim.table < length s.warehouse.store.tables → (b : Bool) (k : Kind) (stage : Stage) → Lives s (refused_turn position (closed_if b position s) k stage no.WriteFault).state claim
faults position s claim was is there false k stage = refusals position s claim was is there k stage no.WriteFault
faults position s claim was is there true k stage =
    let lives = refusals position (closed_if true position s) claim was is there k stage no.WriteFault in
    record { live = lives.live; begun = lives.begun }

turns : (r : Run) (claim : Claim) (was : Ranges) → IsClaim r.state.machine claim was → claim.table < length r.state.warehouse.store.tables → (c : Command) (e : Entry) (stage : Stage) (o : Outcome) → Lives r.state (turn_of r c e stage o).state claim
turns r claim was is there c e stage outcome.Stands = standings r.position r.state claim was is there e.session c e.kind stage
turns r claim was is there c e stage outcome.Memory = refusals r.position r.state claim was is there e.kind stage no.Memory
turns r claim was is there c e stage outcome.ReadFault = refusals r.position r.state claim was is there e.kind stage no.ReadFault
turns r claim was is there c e stage outcome.WriteFault = faults r.position r.state claim was is there (closes r.moment e) e.kind stage
turns r claim was is there c e stage outcome.Damaged = refusals r.position r.state claim was is there e.kind stage (no.Damaged some_damage)
turns r claim was is there c e stage outcome.Skipped = stays r.position r.state claim was is there

turn_lives : (script : Script) (r : Run) (e : Entry) (claim : Claim) (was : Ranges) → IsClaim r.state.machine claim was → claim.table < length r.state.warehouse.store.tables → Lives r.state (turned script r e).state claim
unfolding turned
turn_lives script r e claim was is there = by (command_of script e)
  where
    by : (o : Option Command) → Lives r.state (turn_as r e o).state claim
    by None = stays r.position r.state claim was is there
    by (Some c) = turns r claim was is there c e (place_of r e.session).stage e.outcome

-- ---- a history

goes_on : (script : Script) (r : Run) (e : Entry) → HoldAll r → HoldAll (go script r e)
unfolding runs
goes_on script r e all = runs_hold script r (e ∷ []) all

lives : (script : Script) (r : Run) (h : List Entry) (claim : Claim) (work : Work) → HoldAll r → HasClaim r.state claim work → Lives r.state (runs script r h).state claim
unfolding runs
lives script r [] claim work all has = record { live = λ live. live; begun = λ live. refl }
lives script r (e ∷ h) claim work all has =
    let next : Run = go script r e in
    let same : next.state ≡ (turned script r e).state = state_after script r e in
    let kept : HasClaim next.state claim work = subst (λ (s : State). HasClaim s claim work) (sym same) ((turned_keeps script r e).claims all.ranges claim (Merges work) has) in
    let here : Lives r.state next.state claim = subst (λ (s : State). Lives r.state s claim) (sym same) (turn_lives script r e claim has.was has.is (let there = has.is.there in let ranges = all.ranges in omega (arith, there, ranges))) in
    let later : Lives next.state (runs script next h).state claim = lives script next h claim work (goes_on script r e all) kept in
    record { live = λ live. here.live (later.live live); begun = λ live. later.begun live ∙ here.begun (later.live live) }

-- A work's lease that is live after a history was live all along, so its table wasn't recast meanwhile.
pub claims_keep_begun : (script : Script) (r : Run) (h : List Entry) (claim : Claim) (work : Work) → HoldAll r → HasClaim r.state claim work → is_live (runs script r h).state.machine.leases claim.table claim.lease ≡ true
    → begun_at (runs script r h).state.warehouse claim.table ≡ begun_at r.state.warehouse claim.table
claims_keep_begun script r h claim work all has live = (lives script r h claim work all has).begun live
