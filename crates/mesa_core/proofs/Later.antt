-- What stands written of a range stays, while its table isn't recast.
use Rattle.std.proofs.Common.{◌≡◌, ◌∙◌, ℕ, ◌<◌, ◌≤◌, List, [], ◌∷◌, ◌++◌, true, refl, sym, ap, subst, Option}
use Rattle.std.specs.List.{AllByRecursion}
use Rattle.mesa_recast_turns.specs.mesa_schema.Changes.{Lineage, epoch_of}
use Rattle.mesa_model.specs.declared.commands.Script.{Script}
use Rattle.mesa_model.specs.declared.entries.Entry.{Entry}
use Rattle.mesa_recast_turns.specs.mesa_history_spec.Claims.{HasClaim, HasRanges, is_live}
use Rattle.mesa_recast_turns.specs.mesa_history_spec.Law.{begun_at, writing_by, written_in, written_through}
use Rattle.mesa_recast_turns.specs.mesa_history_spec.Machine.{Claim}
use Rattle.mesa_recast_turns.specs.mesa_history_spec.Replay.{go, runs}
use Rattle.mesa_recast_turns.specs.mesa_history_spec.Run.{Run, State, begins}
use Rattle.mesa_recast_turns.specs.mesa_history_spec.Sources.{Source, Written, range_rows, sources_from}
use Rattle.mesa_engine.proofs.mesa_history_spec.Claims.{begins_hold, runs_hold}
use Rattle.mesa_history_laws.proofs.Begun.{claims_keep_begun}
use Rattle.mesa_engine.proofs.mesa_history_spec.More.{runs-append}
use Rattle.mesa_engine.specs.mesa_span.declared.works.Work.{Work}
use Rattle.mesa_engine.specs.mesa_store_spec.Moves.{last_of, first_of}
use Rattle.mesa_history_laws.proofs.Ranges.{ranges_hold}
use Rattle.mesa_engine.specs.Vault.{Origin}
use Rattle.mesa_recast_turns.specs.mesa_file_records.Finished.{HasRange, sources_in}
use Rattle.mesa_recast_turns.specs.mesa_file_records.Recasts.{HasItsRange, HasItsRanges}
use Rattle.mesa_open_files.specs.Recasts.{recast_table}
use Rattle.mesa_open_files.specs.declared.merging.Task.{Task}
use Rattle.mesa_open_files.specs.declared.recasting.Recast.{Recast}
use Rattle.mesa_open_files.specs.declared.recasting.RecastRange.{RecastRange}
use Rattle.mesa_recast_turns.specs.mesa_invariant_spec.Invariant.{run_at}
use Rattle.mesa_engine.specs.Written.{written_at}

-- ---- what is written behind a history

written_later : (script : Script) (r : Run) (h more : List Entry) (number : ℕ) (found : List Written) → written_in script r (h ++ more) number found ≡ written_in script (runs script r h) more number (written_in script r h number found)
unfolding written_in runs
written_later script r [] more number found = refl
written_later script r (e ∷ h) more number found = written_later script (go script r e) h more number (written_through r.state.warehouse.store (writing_by script r e) number found)

module _ (script : Script) (start : State) (past later : List Entry) where
  -- the run goes on from where it was
  whole : runs script (run_at script start past) later ≡ run_at script start (past ++ later)
  whole = sym (runs-append script (begins start) past later)

  -- a live lease keeps its table from being recast
  pub lease_holds : (claim : Claim) (work : Work) → HasRanges start → HasClaim (run_at script start past).state claim work → is_live (run_at script start (past ++ later)).state.machine.leases claim.table claim.lease ≡ true
      → begun_at (run_at script start (past ++ later)).state.warehouse claim.table ≡ begun_at (run_at script start past).state.warehouse claim.table
  lease_holds claim work ranges has live =
      subst (λ (r : Run). begun_at r.state.warehouse claim.table ≡ begun_at (run_at script start past).state.warehouse claim.table) whole
      (claims_keep_begun script (run_at script start past) later claim work (runs_hold script (begins start) past (begins_hold start ranges)) has
      (subst (λ (r : Run). is_live r.state.machine.leases claim.table claim.lease ≡ true) (sym whole) live))

  module _ (origin : Origin) (table : ℕ) (same : begun_at (run_at script start (past ++ later)).state.warehouse table ≡ begun_at (run_at script start past).state.warehouse table) where
    sources_later : (from to : ℕ) → to < (run_at script start past).state.warehouse.next → sources_from from to (written_at script start origin (past ++ later) table) ≡ sources_from from to (written_at script start origin past table)
    sources_later from to below =
        ap (sources_from from to) (written_later script (begins start) past later table (origin.found table))
        ∙ ranges_hold script (run_at script start past) later table from to (written_at script start origin past table) below (ap (λ (r : Run). begun_at r.state.warehouse table) whole ∙ same)

-- ---- a task

pub range_later : {R : Type 0} (read : R → Option (List ℕ)) (was : Lineage) (t : Task R) (script : Script) (start : State) (origin : Origin) (past later : List Entry) → last_of t.work < (run_at script start past).state.warehouse.next
    → begun_at (run_at script start (past ++ later)).state.warehouse t.table ≡ begun_at (run_at script start past).state.warehouse t.table
    → HasRange read was t (written_at script start origin past t.table) → HasRange read was t (written_at script start origin (past ++ later) t.table)
range_later read was t script start origin past later below begun has =
    let same : sources_in t (written_at script start origin past t.table) ≡ sources_in t (written_at script start origin (past ++ later) t.table) = sym (sources_later script start past later origin t.table begun (first_of t.work) (last_of t.work) below) in
    record {
      epochs = subst (AllByRecursion (λ (s : Source). s.epoch ≤ t.epoch)) same has.epochs;
      rows = λ its merge. has.rows its merge ∙ ap (range_rows was t.epoch) same;
    }

-- ---- a recast

module _ {R : Type 0} (read : R → Option (List ℕ)) (l : Lineage) (script : Script) (start : State) (origin : Origin) (past later : List Entry) (table : ℕ)
    (begun : begun_at (run_at script start (past ++ later)).state.warehouse table ≡ begun_at (run_at script start past).state.warehouse table) where
  one_later : (x : RecastRange R) → x.to < (run_at script start past).state.warehouse.next → HasItsRange read l (written_at script start origin past table) x → HasItsRange read l (written_at script start origin (past ++ later) table) x
  one_later x below has =
      let same : sources_from x.from x.to (written_at script start origin past table) ≡ sources_from x.from x.to (written_at script start origin (past ++ later) table) = sym (sources_later script start past later origin table begun x.from x.to below) in
      record {
        epochs = subst (AllByRecursion (λ (s : Source). s.epoch ≤ epoch_of l)) same has.epochs;
        rows = λ its merge. has.rows its merge ∙ ap (range_rows l (epoch_of l)) same;
      }

  pub all_later : (ranges : List (RecastRange R)) → AllByRecursion (λ (x : RecastRange R). x.to < (run_at script start past).state.warehouse.next) ranges → AllByRecursion (HasItsRange read l (written_at script start origin past table)) ranges
      → AllByRecursion (HasItsRange read l (written_at script start origin (past ++ later) table)) ranges
  all_later [] below has = tt
  all_later (x ∷ ranges) below has = (one_later x below.0 has.0, all_later ranges below.1 has.1)

pub recast_later : {R : Type 0} (read : R → Option (List ℕ)) (t : Recast R) (script : Script) (start : State) (origin : Origin) (past later : List Entry) → AllByRecursion (λ (x : RecastRange R). x.to < (run_at script start past).state.warehouse.next) t.ranges.items
    → begun_at (run_at script start (past ++ later)).state.warehouse t.table ≡ begun_at (run_at script start past).state.warehouse t.table
    → HasItsRanges read t (written_at script start origin past t.table) → HasItsRanges read t (written_at script start origin (past ++ later) t.table)
recast_later read t script start origin past later below begun has = all_later read (recast_table t) script start origin past later t.table begun t.ranges.items below has
