-- What holds of a recast's files by a later history.
use Rattle.std.proofs.Common.{◌≡◌, ℕ, ◌<◌, ◌++◌, List, length, refl, sym, ap, subst, ◌∙◌, Option, None}
use Rattle.std.specs.List.{AllByRecursion}
use Rattle.mesa_core.specs.Known.{AllAreBounded, AllHaveRanges, lineage_in}
use Rattle.mesa_recast_turns.specs.mesa_pick_files.Ranges.{HoldsAll}
use Rattle.mesa_core.specs.Recasts.{KnownRecast, known_recast}
use Rattle.mesa_core.specs.Works.{WasGranted}
use Rattle.mesa_recast_turns.specs.mesa_copy.Copying.{IsRecastBounded}
use Rattle.mesa_recast_turns.specs.mesa_file_records.Grown.{HasBecome, HasSameColumns, StaysWithItsEpoch}
use Rattle.mesa_recast_turns.specs.mesa_file_records.Recasts.{HasItsRanges, meta_of_recast}
use Rattle.mesa_engine.proofs.mesa_history_spec.More.{runs-append}
use Rattle.mesa_recast_turns.specs.mesa_history_spec.Law.{begun_at}
use Rattle.mesa_recast_turns.specs.mesa_history_spec.Replay.{runs}
use Rattle.mesa_recast_turns.specs.mesa_history_spec.Run.{Run, State, begins}
use Rattle.mesa_recast_turns.specs.mesa_history_spec.Sources.{Written}
use Rattle.mesa_engine.specs.mesa_store_spec.Catalog.{TableMeta, meta_at}
use Rattle.mesa_engine.specs.EngineState.{EngineState}
use Rattle.mesa_engine.specs.Vault.{Origin}
use Rattle.mesa_engine.specs.Written.{written_at}
use Rattle.mesa_model.specs.Warehouse.{max_tables}
use Rattle.mesa_model.specs.declared.commands.Script.{Script}
use Rattle.mesa_model.specs.declared.entries.Entry.{Entry}
use Rattle.mesa_recast_turns.specs.Rested.{IsLonger}
use Rattle.mesa_recast_turns.specs.mesa_schema.Changes.{Lineage, epoch_of}
use Rattle.mesa_recast_turns.specs.mesa_schema.Lineages.{IsLineage}
use Rattle.mesa_recast_turns.specs.mesa_history_spec.Rows.{Rows, no_rows}
use Rattle.mesa_open_files.specs.Recasts.{IsRecastTask, recast_table}
use Rattle.mesa_open_files.specs.declared.recasting.Recast.{Recast}
use Rattle.mesa_open_files.specs.declared.recasting.RecastRange.{RecastRange}
use Rattle.mesa_recast_turns.specs.mesa_invariant_spec.Invariant.{run_at}
use Rattle.mesa_core.proofs.RecastGranted.{ends_known}
use Rattle.mesa_core.specs.Handing.{AllAreRested, IsRecastGranted, IsRecastHeld, store_after}

-- ---- since its grant

module _ {R : Type 0} (read : R → Option (List ℕ)) (script : Script) (start : Rows → State) (origin : Rows → Origin) (sound : Rows → Type 0) (h : List Entry) (t : Recast R) where
  -- While the table's epoch is the recast's the table wasn't recast, so that its ranges have what they had.
  pub held_since : WasGranted (IsRecastGranted read script start origin sound) h (known_recast read t) → IsRecastTask read t
      → ((s : Script) (r : Run) (later : List Entry) (number : ℕ) → number < length r.state.warehouse.store.tables → IsLineage (lineage_in r.state.warehouse.store number) → HasBecome (lineage_in r.state.warehouse.store number) (lineage_in (runs s r later).state.warehouse.store number))
      → ((s : Script) (r : Run) (later : List Entry) (number : ℕ) → number < length r.state.warehouse.store.tables → IsLineage (lineage_in r.state.warehouse.store number) → number < length (runs s r later).state.warehouse.store.tables)
      → StaysWithItsEpoch
      → ((s : Script) (from : State) (o : Origin) (past later : List Entry) → AllByRecursion (λ (x : RecastRange R). x.to < (run_at s from past).state.warehouse.next) t.ranges.items
      → begun_at (run_at s from (past ++ later)).state.warehouse t.table ≡ begun_at (run_at s from past).state.warehouse t.table
      → HasItsRanges read t (written_at s from o past t.table) → HasItsRanges read t (written_at s from o (past ++ later) t.table))
      → ((written : List Written) → HasItsRanges read t written → AllHaveRanges read (known_recast read t) written)
      → ((w : Rows) (past : List Entry) → begun_at (run_at script (start w) past).state.warehouse t.table ≡ begun_at (run_at script (start no_rows) past).state.warehouse t.table)
      → IsRecastHeld read script start origin sound h (known_recast read t)
  held_since granted task tables stays still ranges known same_past =
      let past = granted.past in
      let later = granted.later in
      let was = granted.was in
      let r = run_at script (start no_rows) past in
      let before = lineage_in (store_after script start past) t.table in
      let now = lineage_in (store_after script start h) t.table in
      let whole : runs script r later ≡ run_at script (start no_rows) h = sym (runs-append script (begins (start no_rows)) past later) ∙ ap (run_at script (start no_rows)) granted.whole in
      let become : HasBecome (recast_table t) now =
      subst (λ (l : Lineage). HasBecome l now) (sym was.table) (subst (λ (x : Run). HasBecome before (lineage_in x.state.warehouse.store t.table)) whole (tables script r later t.table was.there was.lineage)) in
      record {
        low = was.low;
        there = subst (λ (x : Run). t.table < length x.state.warehouse.store.tables) whole (stays script r later t.table was.there was.lineage);
        become = become;
        whole = was.whole;
        bounded = was.bounded;
        ranges = λ w ok same.
            let columns : HasSameColumns (recast_table t) now = still (recast_table t) now (same ∙ task.epoch) become in
            let begun : begun_at (run_at script (start no_rows) (past ++ later)).state.warehouse t.table ≡ begun_at r.state.warehouse t.table =
            ap (λ (x : List Entry). begun_at (run_at script (start no_rows) x).state.warehouse t.table) granted.whole ∙ columns.begins ∙ ap (λ (l : Lineage). l.begins) was.table in
            let so : begun_at (run_at script (start w) (past ++ later)).state.warehouse t.table ≡ begun_at (run_at script (start w) past).state.warehouse t.table = same_past w (past ++ later) ∙ begun ∙ sym (same_past w past) in
            known (written_at script (start w) (origin w) h t.table)
            (subst (λ (x : List Entry). HasItsRanges read t (written_at script (start w) (origin w) x t.table)) granted.whole
            (ranges script (start w) (origin w) past later (ends_known read _ t.ranges.items (was.next w)) so (was.ranges w ok t refl)));
      }

-- ---- with further ranges

module _ {R : Type 0} (read : R → Option (List ℕ)) (script : Script) (start : Rows → State) (origin : Rows → Origin) (sound : Rows → Type 0) (h : List Entry) (old new : Recast R) (longer : IsLonger read old new) where
  -- With the ranges that came meanwhile it holds still.
  pub held_longer : IsRecastHeld read script start origin sound h (known_recast read old)
      → ((w : Rows) → sound w → old.damage ≡ None → new.damage ≡ None)
      → ((w : Rows) → sound w → IsRecastBounded read old → IsRecastBounded read new)
      → ((w : Rows) → sound w → HasItsRanges read old (written_at script (start w) (origin w) h old.table) → HasItsRanges read new (written_at script (start w) (origin w) h old.table))
      → ((written : List Written) → HasItsRanges read new written → AllHaveRanges read (known_recast read new) written) → (IsRecastBounded read new → AllAreBounded read (known_recast read new))
      → IsRecastHeld read script start origin sound h (known_recast read new)
  held_longer held whole bounded ranges known keeps =
      let table : old.table ≡ new.table = sym longer.table in
      let lineage : recast_table old ≡ recast_table new = λ i. ((sym longer.evolving) i).value in
      record {
        low = subst (λ n. n < max_tables) table held.low;
        there = subst (λ n. n < length (store_after script start h).tables) table held.there;
        become = subst (λ (l : Lineage). HasBecome l (lineage_in (store_after script start h) new.table)) lineage (subst (λ n. HasBecome (recast_table old) (lineage_in (store_after script start h) n)) table held.become);
        whole = λ w ok. whole w ok (held.whole w ok);
        bounded = λ w ok. keeps (bounded w ok (held.bounded w ok old refl));
        ranges = λ w ok same.
            let epoch : epoch_of (lineage_in (store_after script start h) old.table) ≡ old.epoch = ap (λ n. epoch_of (lineage_in (store_after script start h) n)) table ∙ same ∙ longer.epoch in
            known (written_at script (start w) (origin w) h new.table)
            (subst (λ n. HasItsRanges read new (written_at script (start w) (origin w) h n)) table (ranges w ok (held.ranges w ok epoch old refl)));
      }

-- ---- all ranges of its table

module _ {R : Type 0} (read : R → Option (List ℕ)) where
  -- So each of which the same is known has all of them.
  pub rested_known : (l : EngineState) (old new : Recast R) → IsLonger read old new → HasBecome (recast_table old) (meta_of_recast l old).lineage
      → (l.closed ≡ None → epoch_of (meta_of_recast l old).lineage ≡ old.epoch → HoldsAll new.ranges.items (meta_of_recast l old))
      → ((other : Recast R) (s : TableMeta) → known_recast read other ≡ known_recast read new → HoldsAll new.ranges.items s → HoldsAll other.ranges.items s)
      → AllAreRested read l (known_recast read new)
  rested_known l old new longer become holds known t same task =
      let meta : meta_of_recast l old ≡ meta_of_recast l t = ap (meta_at l.catalogue) (sym longer.table ∙ sym (ap (λ (k : KnownRecast). k.table) same)) in
      let lineage : recast_table old ≡ recast_table t = (λ i. ((sym longer.evolving) i).value) ∙ sym (ap (λ (k : KnownRecast). k.lineage) same) in
      record {
        task = task;
        become = subst (λ (x : Lineage). HasBecome x (meta_of_recast l t).lineage) lineage (subst (λ (s : TableMeta). HasBecome (recast_table old) s.lineage) meta become);
        holds = λ opened epoch.
            let was : epoch_of (meta_of_recast l old).lineage ≡ old.epoch = ap (λ (s : TableMeta). epoch_of s.lineage) meta ∙ epoch ∙ ap (λ (k : KnownRecast). k.epoch) same ∙ longer.epoch in
            known t (meta_of_recast l t) same (subst (HoldsAll new.ranges.items) meta (holds opened was));
      }
