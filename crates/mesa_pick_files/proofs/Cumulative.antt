-- What a work folds comes to what its range does: a cumulative stands in the place of its singletons.
use Rattle.std.proofs.Common.{◌≡◌, ℕ, ◌+◌, ◌-◌, ◌≤◌, [], ◌∷◌, ◌++◌, map, take, drop, refl, sym, ap, ◌∙◌, arith, Bool, true, false, Option, Some, None}
use Rattle.std.specs.Prelude.{◌==◌}
use Rattle.std.proofs.lemmas.List.{map-append}
use Rattle.mesa_validate.specs.mesa_columns.Columns.{aggs_of}
use Rattle.mesa_schema.specs.Changes.{columns_of}
use Rattle.mesa_open_files.specs.mesa_fold.Folded.{folded}
use Rattle.mesa_validate.proofs.mesa_columns.Lists.{all_found}
use Rattle.mesa_query.proofs.mesa_fold.Refolds.{refolded}
use Rattle.mesa_validate.proofs.mesa_catalog_records.Loads.{found_passes}
use Rattle.mesa_span.specs.Plan.{longest}
use Rattle.mesa_span.proofs.Longest.{longest_is}
use Rattle.mesa_span.proofs.Reachable.{reachable_in_order}
use Rattle.mesa_validate.specs.mesa_store_spec.Catalog.{Ending, TableMeta, end_in, ranges_of, start_in}
use Rattle.mesa_validate.specs.mesa_store_spec.Contents.{Rows, present}
use Rattle.mesa_validate.specs.mesa_store_spec.Shape.{IsShaped}
use Rattle.mesa_validate.specs.mesa_store_spec.Sound.{IsMerged, HasSoundRows}
use Rattle.mesa_validate.specs.mesa_store_spec.Brought.{merged_of}
use Rattle.mesa_validate.specs.mesa_store_spec.Planned.{behind_base, ending_at, longest_to}
use Rattle.mesa_validate.proofs.mesa_store_spec.Contents.{drop_take}
use Rattle.mesa_validate.proofs.mesa_store_spec.Lists.{is_equal}
use Rattle.mesa_validate.proofs.mesa_store_spec.Plans.{planned_folds}
use Rattle.mesa_pick_files.specs.Folding.{folded_deltas}

module _ (rows : Rows) (floor next : ℕ) (t : TableMeta) (shaped : IsShaped floor next t) (sound_rows : HasSoundRows rows t) where
  -- a cumulative and the singletons behind it
  with_cumulative : (to : ℕ) (e : Ending) → start_in t ≤ e.to → e.to ≤ to → IsMerged rows t e
      → folded (aggs_of (columns_of t.lineage)) (map (present rows t.lineage) (behind_base t to (Some e))) ≡ folded (aggs_of (columns_of t.lineage)) (map (present rows t.lineage) (take (to + 1 - start_in t) t.singles))
  with_cumulative to e behind within merged =
      let aggs = aggs_of (columns_of t.lineage) in
      let n = e.to + 1 - start_in t in
      let m = to + 1 - start_in t in
      let front = map (present rows t.lineage) (take n t.singles) in
      let rest = map (present rows t.lineage) (take (to - e.to) (drop n t.singles)) in
      let count : to - e.to ≡ m - n = omega (arith, behind, within) in
      let split : take n t.singles ++ take (to - e.to) (drop n t.singles) ≡ take m t.singles = ap (λ k. take n t.singles ++ take k (drop n t.singles)) count ∙ drop_take n m t.singles (omega (arith, within)) in
      ap (λ x. folded aggs (x ∷ rest)) merged
      ∙ refolded aggs [] front rest
      ∙ ap (folded aggs) (sym (map-append (present rows t.lineage) (take n t.singles) (take (to - e.to) (drop n t.singles))) ∙ ap (map (present rows t.lineage)) split)

  by_longest : (to : ℕ) (o : Option ℕ) → longest to (map end_in t.cumulatives) ≡ o → (p : Option Ending) → ending_at t.cumulatives o ≡ p
      → folded (aggs_of (columns_of t.lineage)) (map (present rows t.lineage) (behind_base t to p)) ≡ folded (aggs_of (columns_of t.lineage)) (map (present rows t.lineage) (take (to + 1 - start_in t) t.singles))
  by_longest to o long None found = refl
  by_longest to None long (Some e) found = absurd cc
  by_longest to (Some end) long (Some e) found =
      let is = longest_is (start_in t) to (map end_in t.cumulatives) end (reachable_in_order (ranges_of t) shaped.reachable) long in
      let behind = is.behind in
      let within = is.within in
      let at : e.to ≡ end = is_equal e.to end (found_passes (λ (x : Ending). x.to == end) t.cumulatives e found) in
      with_cumulative to e (omega (arith, at, behind)) (omega (arith, at, within)) (all_found (IsMerged rows t) (λ (x : Ending). x.to == end) t.cumulatives e found sound_rows.merged)

  -- The deltas that a work folds come to what those of its range do.
  pub work_folds : (base : Bool) (to : ℕ) → folded (aggs_of (columns_of t.lineage)) (map (present rows t.lineage) (folded_deltas t base to)) ≡ folded (aggs_of (columns_of t.lineage)) (map (present rows t.lineage) (merged_of t base to))
  work_folds true to = planned_folds rows floor next t shaped sound_rows to
  work_folds false to = by_longest to (longest to (map end_in t.cumulatives)) refl (longest_to t to) refl
