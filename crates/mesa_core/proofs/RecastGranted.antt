-- What a recast is granted, by the history at the end of its first turn, and what holds of it later.
use Rattle.std.proofs.Common.{◌≡◌, ℕ, ◌<◌, List, [], ◌∷◌, length, sym, subst, ◌∙◌, Option, None}
use Rattle.std.specs.List.{AllByRecursion}
use Rattle.mesa_core.specs.Known.{AllAreBounded, AllHaveRanges}
use Rattle.mesa_core.specs.Recasts.{known_recast}
use Rattle.mesa_recast_turns.specs.mesa_copy.Copying.{IsRecastBounded, KnownRange, known_ranges}
use Rattle.mesa_recast_turns.specs.mesa_file_records.Recasts.{HasItsRanges}
use Rattle.mesa_recast_turns.specs.mesa_history_spec.Run.{State}
use Rattle.mesa_engine.specs.mesa_store_spec.Catalog.{Catalog, meta_at}
use Rattle.mesa_engine.specs.Vault.{Origin}
use Rattle.mesa_engine.specs.Written.{written_at}
use Rattle.mesa_model.specs.declared.commands.Script.{Script}
use Rattle.mesa_model.specs.declared.entries.Entry.{Entry}
use Rattle.mesa_model.specs.Warehouse.{max_tables}
use Rattle.mesa_recast_turns.specs.mesa_schema.Lineages.{IsLineage}
use Rattle.mesa_recast_turns.specs.mesa_history_spec.Rows.{Rows, no_rows}
use Rattle.mesa_open_files.specs.Recasts.{recast_table}
use Rattle.mesa_open_files.specs.declared.recasting.Recast.{Recast}
use Rattle.mesa_open_files.specs.declared.recasting.RecastRange.{RecastRange}
use Rattle.mesa_recast_turns.specs.mesa_invariant_spec.Invariant.{run_at}
use Rattle.mesa_core.specs.Handing.{IsRecastGranted, store_after}
use Rattle.mesa_core.specs.Standing.{IsCatalogAfter}
use Rattle.mesa_core.proofs.Catalogue.{counted_is, lineage_is}

-- ranges that are known end where they end
known_ends : {R : Type 0} (read : R → Option (List ℕ)) (next : ℕ) (xs : List (RecastRange R)) → AllByRecursion (λ (x : RecastRange R). x.to < next) xs → AllByRecursion (λ (x : KnownRange). x.to < next) (known_ranges read xs)
known_ends read next [] all = tt
known_ends read next (x ∷ xs) all = (all.0, known_ends read next xs all.1)

pub ends_known : {R : Type 0} (read : R → Option (List ℕ)) (next : ℕ) (xs : List (RecastRange R)) → AllByRecursion (λ (x : KnownRange). x.to < next) (known_ranges read xs) → AllByRecursion (λ (x : RecastRange R). x.to < next) xs
ends_known read next [] all = tt
ends_known read next (x ∷ xs) all = (all.0, ends_known read next xs all.1)

module _ {R : Type 0} (read : R → Option (List ℕ)) (script : Script) (start : Rows → State) (origin : Rows → Origin) (sound : Rows → Type 0) (generation : ℕ) (h : List Entry) (c : Catalog) (is : IsCatalogAfter script start generation h c) where
  pub recast_granted_as : (t : Recast R) → t.table < max_tables → t.table < length (store_after script start h).tables → AllByRecursion (λ (x : RecastRange R). x.to < (run_at script (start no_rows) h).state.warehouse.next) t.ranges.items
      → recast_table t ≡ (meta_at c t.table).lineage → ((w : Rows) → sound w → t.damage ≡ None) → ((w : Rows) → sound w → IsRecastBounded read t)
      → ((w : Rows) → sound w → HasItsRanges read t (written_at script (start w) (origin w) h t.table))
      → ((written : List _) → HasItsRanges read t written → AllHaveRanges read (known_recast read t) written) → (IsRecastBounded read t → AllAreBounded read (known_recast read t))
      → IsRecastGranted read script start origin sound h (known_recast read t)
  recast_granted_as t low there next lineage whole bounded ranges known keeps =
      let at = lineage_is script start generation h c is t.table in
      record {
        low = low;
        there = there;
        lineage = subst IsLineage at (is.lineages t.table (subst (λ n. t.table < n) (sym (counted_is script start generation h c is)) there));
        table = lineage ∙ at;
        next = λ w. known_ends read _ t.ranges.items (subst (λ n. AllByRecursion (λ (x : RecastRange R). x.to < n) t.ranges.items) (sym (is.next no_rows) ∙ is.next w) next);
        whole = whole;
        bounded = λ w ok. keeps (bounded w ok);
        ranges = λ w ok. known (written_at script (start w) (origin w) h t.table) (ranges w ok);
      }
