-- What a work is closed with, as its last turn asks for it.
use Rattle.std.proofs.Common.{◌≡◌, ℕ, ◌<◌, List, ◌++◌, length, true, false, refl, sym, ap, subst, ◌∙◌, Option, None, Ok}
use Rattle.mesa_recast_turns.specs.mesa_compact.Bounded.{IsBounded}
use Rattle.mesa_recast_turns.specs.mesa_work_turns.Unmerged.{MergeDiffered, cause_of}
use Rattle.mesa_delta.specs.declared.error.FileError.TheVariants as file_error
use Rattle.mesa_core.specs.Known.{IsKnownOf, lineage_in}
use Rattle.mesa_engine.proofs.mesa_history_spec.More.{runs-append}
use Rattle.mesa_recast_turns.specs.mesa_history_spec.Claims.{HasClaim, HasRanges, is_live}
use Rattle.mesa_recast_turns.specs.mesa_history_spec.Law.{begun_at}
use Rattle.mesa_recast_turns.specs.mesa_history_spec.Machine.{Claim}
use Rattle.mesa_recast_turns.specs.mesa_history_spec.Replay.{runs}
use Rattle.mesa_recast_turns.specs.mesa_history_spec.Run.{Run, State, begins}
use Rattle.mesa_engine.specs.mesa_store_spec.Catalog.{Catalog, meta_at}
use Rattle.mesa_engine.specs.mesa_store_spec.Moves.{last_of}
use Rattle.mesa_engine.specs.Vault.{Origin}
use Rattle.mesa_model.specs.declared.commands.Script.{Script}
use Rattle.mesa_model.specs.declared.entries.Entry.{Entry}
use Rattle.mesa_recast_turns.specs.mesa_schema.Changes.{Lineage}
use Rattle.mesa_recast_turns.specs.mesa_schema.Lineages.{IsLineage}
use Rattle.mesa_core.specs.Works.{HasMerged, IsUnmerged, WasGranted, known_task}
use Rattle.mesa_recast_turns.specs.mesa_history_spec.Rows.{Rows, no_rows}
use Rattle.mesa_recast_turns.specs.mesa_file_records.Finished.{HasRange, IsFinished}
use Rattle.mesa_recast_turns.specs.mesa_file_records.Grown.{GrowsWhereItBegins, HasBecome}
use Rattle.mesa_open_files.specs.GivingBack.{SomeFailed, task_inputs}
use Rattle.mesa_engine.specs.mesa_span.declared.works.Work.{Work}
use Rattle.mesa_open_files.specs.Tasks.{IsMerged, IsTask, claim_in}
use Rattle.mesa_open_files.specs.declared.merging.CompactError.{CompactError}
use Rattle.mesa_open_files.specs.declared.merging.CompactError.TheVariants as compact
use Rattle.mesa_open_files.specs.declared.merging.NewDelta.{NewDelta}
use Rattle.mesa_open_files.specs.declared.merging.Task.{Task}
use Rattle.mesa_recast_turns.specs.mesa_invariant_spec.Causes.{is_read_fault, outcome_of}
use Rattle.mesa_recast_turns.specs.mesa_invariant_spec.Turns.{AnswersDraft, Shown}
use Rattle.mesa_recast_turns.specs.mesa_invariant_spec.Undamaged.{is_damaged}
use Rattle.mesa_recast_turns.specs.mesa_invariant_spec.Invariant.{run_at}
use Rattle.mesa_engine.specs.Written.{written_at}
use Rattle.mesa_core.specs.Handing.{IsGranted, store_after}
use Rattle.mesa_core.specs.Standing.{IsCatalogAfter}
use Rattle.mesa_core.proofs.Catalogue.{lineage_is}

-- ---- a delta

module _ {M R : Type 0} (made : M → Option (List ℕ)) (id_of : M → ℕ) (read : R → Option (List ℕ)) (faults : R → ℕ) (script : Script) (start : Rows → State) (origin : Rows → Origin) (sound : Rows → Type 0) (generation : ℕ) (h : List Entry) (c : Catalog) (t : Task R) (d : NewDelta M) where
  -- As long as the work's lease is its table's last one and hasn't ended, the table isn't recast.
  pub finished_as : IsCatalogAfter script start generation h c → WasGranted (IsGranted read script start origin sound) h (known_task read t) → HasMerged made id_of read faults t (Ok d)
      → ((was l : Lineage) → IsKnownOf was (known_task read t) → IsTask read l t → IsMerged made id_of read l t d → IsTask read was t × IsMerged made id_of read was t d)
      → ((s : Script) (from : State) (past later : List Entry) (claim : Claim) (work : Work) → HasRanges from → HasClaim (run_at s from past).state claim work → is_live (run_at s from (past ++ later)).state.machine.leases claim.table claim.lease ≡ true
      → begun_at (run_at s from (past ++ later)).state.warehouse claim.table ≡ begun_at (run_at s from past).state.warehouse claim.table)
      → ((was : Lineage) (s : Script) (from : State) (o : Origin) (past later : List Entry) → last_of t.work < (run_at s from past).state.warehouse.next → begun_at (run_at s from (past ++ later)).state.warehouse t.table ≡ begun_at (run_at s from past).state.warehouse t.table
      → HasRange read was t (written_at s from o past t.table) → HasRange read was t (written_at s from o (past ++ later) t.table))
      → ((s : Script) (r : Run) (later : List Entry) (number : ℕ) → number < length r.state.warehouse.store.tables → IsLineage (lineage_in r.state.warehouse.store number) → HasBecome (lineage_in r.state.warehouse.store number) (lineage_in (runs s r later).state.warehouse.store number))
      → GrowsWhereItBegins → HasRanges (start no_rows)
      → ((w : Rows) (past : List Entry) → begun_at (run_at script (start w) past).state.warehouse t.table ≡ begun_at (run_at script (start no_rows) past).state.warehouse t.table)
      → is_live (run_at script (start no_rows) h).state.machine.leases t.table t.lease ≡ true
      → (was : Lineage) × IsFinished made id_of read was (meta_at c t.table).lineage t d × ((w : Rows) → sound w → HasRange read was t (written_at script (start w) (origin w) h t.table))
  finished_as is granted merged merges leases ranges tables grows counted same_past live =
      let past = granted.past in
      let later = granted.later in
      let was = granted.was in
      let r = run_at script (start no_rows) past in
      let before = lineage_in (store_after script start past) t.table in
      let both = merges before merged.0 was.known merged.1 merged.2 in
      let whole : runs script r later ≡ run_at script (start no_rows) h = sym (runs-append script (begins (start no_rows)) past later) ∙ ap (run_at script (start no_rows)) granted.whole in
      let now : lineage_in (runs script r later).state.warehouse.store t.table ≡ (meta_at c t.table).lineage =
      ap (λ (x : Run). lineage_in x.state.warehouse.store t.table) whole ∙ sym (lineage_is script start generation h c is t.table) in
      let begun : begun_at (run_at script (start no_rows) (past ++ later)).state.warehouse t.table ≡ begun_at r.state.warehouse t.table =
      leases script (start no_rows) past later (claim_in t) t.work counted was.claim (subst (λ (x : List Entry). is_live (run_at script (start no_rows) x).state.machine.leases t.table t.lease ≡ true) (sym granted.whole) live) in
      let begins : (meta_at c t.table).lineage.begins ≡ before.begins =
      ap (λ (l : Lineage). l.begins) (lineage_is script start generation h c is t.table) ∙ ap (λ (x : List Entry). begun_at (run_at script (start no_rows) x).state.warehouse t.table) (sym granted.whole) ∙ begun in (
        before,
        record {
          grown = grows before (meta_at c t.table).lineage begins (subst (HasBecome before) now (tables script r later t.table was.there was.lineage));
          task = both.0;
          merged = both.1;
        },
        λ w ok.
            let so : begun_at (run_at script (start w) (past ++ later)).state.warehouse t.table ≡ begun_at (run_at script (start w) past).state.warehouse t.table = same_past w (past ++ later) ∙ begun ∙ sym (same_past w past) in
            subst (λ (x : List Entry). HasRange read before t (written_at script (start w) (origin w) x t.table)) granted.whole (ranges before script (start w) (origin w) past later (was.next w) so (was.range w ok t refl)),
      )

-- ---- none

module _ {R : Type 0} (read : R → Option (List ℕ)) (faults : R → ℕ) (l : Lineage) (t : Task R) where
  pub unmerged_failed : (e : CompactError) → IsUnmerged read faults l t e → is_read_fault (cause_of e) ≡ true → SomeFailed faults (task_inputs t)
  unmerged_failed compact.Draft has is = absurd (let never : false ≡ true = is in cc)
  unmerged_failed (compact.File file_error.Read) has is = has
  unmerged_failed (compact.File (file_error.Damaged d)) has is = absurd (let never : false ≡ true = is in cc)
  unmerged_failed (compact.File file_error.Memory) has is = absurd (let never : false ≡ true = is in cc)

  pub unmerged_differed : (e : CompactError) → IsUnmerged read faults l t e → MergeDiffered e
  unmerged_differed compact.Draft has = tt
  unmerged_differed (compact.File file_error.Read) has = tt
  unmerged_differed (compact.File (file_error.Damaged d)) has = has.differs
  unmerged_differed (compact.File file_error.Memory) has = tt

  -- on a sound store no damage comes of it
  pub unmerged_whole : (e : CompactError) → IsUnmerged read faults l t e → t.damage ≡ None → IsBounded read l t → is_damaged (outcome_of (cause_of e)) ≡ false
  unmerged_whole compact.Draft has whole bounded = refl
  unmerged_whole (compact.File file_error.Read) has whole bounded = refl
  unmerged_whole (compact.File (file_error.Damaged d)) has whole bounded = absurd (has.never whole bounded)
  unmerged_whole (compact.File file_error.Memory) has whole bounded = refl

-- ---- a draft that failed

-- why a turn may answer it
pub answers_more : (script : Script) (start : State) (old new : Shown) (session : ℕ) {Failed Handed : Type 0} → (Failed → Handed) → AnswersDraft script start old new session Failed → AnswersDraft script start old new session Handed
answers_more script start old new session why answers low e grew is = why (answers low e grew is)
