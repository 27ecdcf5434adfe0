-- What a work is granted, by the history at the end of its first turn.
use Rattle.std.proofs.Common.{◌≡◌, ℕ, ◌<◌, List, length, Bool, true, not, sym, ap, subst, ◌∙◌, Option, None, Some}
use Rattle.std.specs.Prelude.{IfSome}
use Rattle.mesa_recast_turns.specs.mesa_compact.Bounded.{AreBounded, IsBounded}
use Rattle.mesa_core.proofs.MergedTasks.{grant_known}
use Rattle.mesa_core.proofs.Same.{range_known}
use Rattle.mesa_recast_turns.specs.mesa_history_spec.Claims.{HasClaim, HasClaimAt}
use Rattle.mesa_recast_turns.specs.mesa_history_spec.Run.{Granted, Place, State}
use Rattle.mesa_recast_turns.specs.mesa_history_spec.Turns.{place_then}
use Rattle.mesa_engine.specs.mesa_store_spec.Catalog.{Catalog, meta_at}
use Rattle.mesa_engine.specs.mesa_store_spec.Moves.{last_of}
use Rattle.mesa_engine.specs.Vault.{Origin}
use Rattle.mesa_recast_turns.specs.mesa_merge.Inputs.{knowns_of}
use Rattle.mesa_model.specs.declared.commands.Script.{Script}
use Rattle.mesa_model.specs.declared.entries.Entry.{Entry}
use Rattle.mesa_model.specs.Warehouse.{max_tables}
use Rattle.mesa_recast_turns.specs.mesa_schema.Changes.{Lineage, columns_of}
use Rattle.mesa_recast_turns.specs.mesa_schema.Lineages.{IsLineage}
use Rattle.mesa_core.specs.Works.{CanBeMerged, known_task}
use Rattle.mesa_recast_turns.specs.mesa_history_spec.Rows.{Rows, no_rows}
use Rattle.mesa_recast_turns.specs.mesa_file_records.Finished.{HasRange}
use Rattle.mesa_open_files.specs.Errors.{Differs}
use Rattle.mesa_open_files.specs.Spares.{HasSpares}
use Rattle.mesa_open_files.specs.Tasks.{IsTask, claim_in}
use Rattle.mesa_open_files.specs.declared.merging.Task.{Task}
use Rattle.mesa_recast_turns.specs.mesa_invariant_spec.Invariant.{run_at}
use Rattle.mesa_recast_turns.specs.mesa_invariant_spec.Works.{stage_if}
use Rattle.mesa_engine.specs.Written.{written_at}
use Rattle.mesa_core.specs.Handing.{IsGranted, store_after}
use Rattle.mesa_core.specs.Standing.{IsCatalogAfter}
use Rattle.mesa_core.proofs.Catalogue.{counted_is, lineage_is}

-- the claim of a work is that of its session
pub claim_if : {R : Type 0} (s : State) (number : ℕ) (running : Bool) (place : Place) (r : Option (Task R)) → running ≡ true → place ≡ place_then (not running) number (stage_if claim_in Granted r) → HasClaimAt s place.stage → IfSome r (λ t. HasClaim s (claim_in t) t.work)
claim_if s number running place (Some t) ran at has = subst (λ (p : Place). HasClaimAt s p.stage) (at ∙ ap (λ b. place_then (not b) number (Granted (claim_in t))) ran) has
claim_if s number running place None ran at has = tt

module _ {R : Type 0} (read : R → Option (List ℕ)) (script : Script) (start : Rows → State) (origin : Rows → Origin) (sound : Rows → Type 0) (generation : ℕ) (h : List Entry) (c : Catalog) (is : IsCatalogAfter script start generation h c) where
  granted_as : (t : Task R) → t.table < max_tables → t.table < length (store_after script start h).tables → last_of t.work < (run_at script (start no_rows) h).state.warehouse.next
      → HasClaim (run_at script (start no_rows) h).state (claim_in t) t.work → IsTask read (meta_at c t.table).lineage t
      → ((w : Rows) → sound w → t.damage ≡ None) → ((w : Rows) → sound w → IsBounded read (meta_at c t.table).lineage t)
      → ((w : Rows) → sound w → HasRange read (meta_at c t.table).lineage t (written_at script (start w) (origin w) h t.table))
      → IsGranted read script start origin sound h (known_task read t)
  granted_as t low there next claim task whole bounded range =
      let at = lineage_is script start generation h c is t.table in
      record {
        low = low;
        there = there;
        lineage = subst IsLineage at (is.lineages t.table (subst (λ n. t.table < n) (sym (counted_is script start generation h c is)) there));
        known = grant_known read _ t (subst (λ (l : Lineage). IsTask read l t) at task);
        claim = claim;
        next = λ w. subst (λ n. last_of t.work < n) (sym (is.next no_rows) ∙ is.next w) next;
        whole = whole;
        bounded = λ w ok. subst (λ (l : Lineage). AreBounded (columns_of l) (knowns_of read t.inputs.items)) at (bounded w ok);
        range = λ w ok. range_known read _ t _ (subst (λ (l : Lineage). HasRange read l t (written_at script (start w) (origin w) h t.table)) at (range w ok));
      }

  -- where a work is granted
  pub granted_if : (r : Option (Task R)) → IfSome r (λ t. t.table < max_tables) → IfSome r (λ t. t.table < length (store_after script start h).tables) → IfSome r (λ t. last_of t.work < (run_at script (start no_rows) h).state.warehouse.next)
      → IfSome r (λ t. HasClaim (run_at script (start no_rows) h).state (claim_in t) t.work) → IfSome r (λ t. IsTask read (meta_at c t.table).lineage t)
      → ((w : Rows) → sound w → IfSome r (λ t. t.damage ≡ None)) → ((w : Rows) → sound w → IfSome r (λ t. IsBounded read (meta_at c t.table).lineage t))
      → ((w : Rows) → sound w → IfSome r (λ t. HasRange read (meta_at c t.table).lineage t (written_at script (start w) (origin w) h t.table)))
      → IfSome r (λ t. IsGranted read script start origin sound h (known_task read t))
  granted_if (Some t) low there next claim task whole bounded range = granted_as t low there next claim task whole bounded range
  granted_if None low there next claim task whole bounded range = tt

  -- and what was granted can be merged
  pub mergeable_if : (r : Option (Task R)) (more : ℕ) → IfSome r (λ t. IsTask read (meta_at c t.table).lineage t) → IfSome r (λ t. IfSome t.damage Differs) → IfSome r (HasSpares read more) → IfSome r (CanBeMerged read)
  mergeable_if (Some t) more task damage spare = record { task = (_, task); damage = damage; spare = λ none. spare.each }
  mergeable_if None more task damage spare = tt
