-- What a claim that holds still tells of its table.
use Rattle.std.proofs.Common.{◌≡◌, ◌∙◌, ℕ, ◌<◌, ◌≤◌, List, length, Bool, true, false, refl, sym, ap, subst, arith, Option, None, Some, Ok}
use Rattle.std.proofs.lemmas.List.{length-map}
use Rattle.std.proofs.Math.ListN.{get_or-map}
use Rattle.mesa_write_turns.specs.mesa_list.Checks.{◌>>◌, refuse_unless}
use Rattle.mesa_span.specs.Ranges.{base_before}
use Rattle.mesa_span.specs.declared.works.Work.{Work}
use Rattle.mesa_span.specs.declared.works.Work.TheVariants as range_of
use Rattle.mesa_span.specs.Work.{next_work}
use Rattle.mesa_disk.specs.Story.{Story}
use Rattle.mesa_lease.specs.Book.{is_held, other_holder}
use Rattle.mesa_model.specs.Refusals.{refuse_closed}
use Rattle.mesa_model.specs.Warehouse.{Table, Warehouse, no_table, table_at}
use Rattle.mesa_model.specs.declared.commands.Command.TheVariants as command
use Rattle.mesa_model.specs.declared.commands.WorkWords.{WorkWords}
use Rattle.mesa_model.specs.declared.entries.Entry.{Entry}
use Rattle.mesa_model.specs.declared.replies.Refusal.{Refusal}
use Rattle.mesa_model.specs.declared.replies.Refusal.TheVariants as no
use Rattle.mesa_write_turns.specs.mesa_history_spec.Claims.{HasClaim, HasClaimAt, HasErrand, is_live}
use Rattle.mesa_write_turns.specs.mesa_history_spec.Machine.{Claim, Errand, Machine, Merges, claim_checked, ranges_at}
use Rattle.mesa_write_turns.specs.mesa_history_spec.Run.{Place, Renewed}
use Rattle.mesa_write_turns.specs.mesa_history_spec.Turns.{IsDue}
use Rattle.mesa_engine.proofs.mesa_history_spec.Claiming.{held_is_live}
use Rattle.mesa_engine.specs.mesa_store_spec.Catalog.{no_meta, ranges_of, meta_at}
use Rattle.mesa_write_turns.specs.mesa_history_spec.Bare.{bare_table}
use Rattle.mesa_write_turns.specs.mesa_history_spec.Rows.{no_rows}
use Rattle.mesa_write_turns.specs.mesa_invariant_spec.Invariant.{Outset, run_of}
use Rattle.mesa_write_turns.proofs.mesa_invariant_spec.Working.{checked_open}
use Rattle.mesa_engine.specs.EngineState.{EngineState, books_of, projection_of}
use Rattle.mesa_engine.specs.Vault.{Origin, IsVault}
use Rattle.mesa_engine.proofs.BeforeTurns.{vault_claims}
use Rattle.mesa_work_turns.specs.Claims.{claim_with, lease_checked}

unless_true : (b : Bool) (e : Refusal) → refuse_unless b e ≡ Ok tt → b ≡ true
unless_true true e is = refl
unless_true false e is = absurd cc

-- its lease is held
lease_held : (l : EngineState) (at table lease : ℕ) → l.closed ≡ None → lease_checked (books_of no_rows l) at table lease ≡ Ok tt → is_held l.leases table lease at ≡ true
lease_held l at table lease opened checked =
    unless_true (is_held l.leases table lease at) (no.Lost lease (other_holder l.leases table lease at))
    (sym (λ i. (refuse_closed (opened i) >> refuse_unless (is_held l.leases table lease at) (no.Lost lease (other_holder l.leases table lease at)))) ∙ checked)

checked_held : (l : EngineState) (at : ℕ) (claim : Claim) → claim_checked (books_of no_rows l).bare (books_of no_rows l).machine at claim ≡ Ok tt → is_held l.leases claim.table claim.lease at ≡ true
checked_held l at claim checked = lease_held l at claim.table claim.lease (checked_open (books_of no_rows l).bare (books_of no_rows l).machine at claim checked) checked

-- so it hasn't ended
pub checked_live : (l : EngineState) (at table lease : ℕ) → lease_checked (books_of no_rows l) at table lease ≡ Ok tt → is_live l.leases table lease ≡ true
checked_live l at table lease checked =
    let claim = claim_with table lease (Merges (range_of.Base 0)) in
    held_is_live l.leases table lease at (lease_held l at table lease (checked_open (books_of no_rows l).bare (books_of no_rows l).machine at claim checked) checked)

-- Its work was due for the ranges that its table has.
pub record IsDueStill (l : EngineState) (claim : Claim) (work : Work) : Type 0 where
  pub oldest : ℕ
  pub next : ℕ
  pub due : next_work (ranges_of (meta_at l.catalogue claim.table)) oldest (base_before next) ≡ Some work
  pub later_oldest : oldest ≤ (meta_at l.catalogue claim.table).oldest
  pub later_next : next ≤ l.catalogue.next
  pub there : claim.table < length l.catalogue.tables

pub due_still : (o : Outset) (g : Origin) (l : EngineState) (story : Story) (held : Option (List ℕ)) (h : List Entry) (running refused : Bool) → IsVault o g false l story held h running refused → (s number : ℕ) (words : WorkWords) (at : ℕ) (claim : Claim) (work : Work)
    → claim.errand ≡ Merges work → IsDue o.script (run_of o h) s number (command.Work words) (Renewed claim) → claim_checked (books_of no_rows l).bare (books_of no_rows l).machine at claim ≡ Ok tt → IsDueStill l claim work
due_still o g l story held h running refused v s number words at claim work errand due checked =
    let at_stage : HasErrand (run_of o h).state claim claim.errand = subst (λ (p : Place). HasClaimAt (run_of o h).state p.stage) due.place (vault_claims o g false l story held h running refused v s) in
    let has : HasClaim (run_of o h).state claim work = subst (λ (e : Errand). HasErrand (run_of o h).state claim e) errand at_stage in
    let live : is_live l.leases claim.table claim.lease ≡ true = held_is_live l.leases claim.table claim.lease at (checked_held l at claim checked) in
    let stays = subst (λ (m : Machine). is_live m.leases claim.table claim.lease ≡ true → ranges_at m claim.table ≡ has.was) v.invariant.state.machine has.is.stays in
    let within = subst (λ (m : Machine). claim.table < length m.ranges) v.invariant.state.machine has.is.there in
    let oldest =
    sym (ap (λ (t : Table). t.oldest) (get_or-map bare_table (run_of o h).state.warehouse.store.tables claim.table no_table))
    ∙ ap (λ (x : Warehouse). (table_at x.store claim.table).oldest) v.invariant.state.projection
    ∙ ap (λ (t : Table). t.oldest) (get_or-map projection_of l.catalogue.tables claim.table no_meta) in
    let next = ap (λ (x : Warehouse). x.next) v.invariant.state.projection in
    record {
      oldest = has.oldest;
      next = has.versions;
      due = ap (λ r. next_work r has.oldest (base_before has.versions)) (sym (get_or-map ranges_of l.catalogue.tables claim.table no_meta) ∙ stays live) ∙ has.next;
      later_oldest = subst (λ q. has.oldest ≤ q) oldest has.later_oldest;
      later_next = subst (λ q. has.versions ≤ q) next has.later_versions;
      there = omega (arith, within, length-map l.catalogue.tables ranges_of);
    }
