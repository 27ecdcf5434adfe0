-- The sums over the deltas of a plan, or of a work, stay in their type.
use Rattle.std.proofs.Common.{◌≡◌, ℕ, zero, suc, ◌+◌, ◌-◌, ◌<◌, ◌≤◌, List, [], ◌∷◌, ◌++◌, map, take, drop, length, refl, sym, ap, ◌∙◌, subst, arith, zero-add, add_assoc, Option, Some, None, true, false}
use Rattle.std.specs.Prelude.{nat_abs, pos, slice_get, slice_index_or, ◌==◌}
use Rattle.std.specs.List.{AllByRecursion}
use Rattle.std.proofs.lemmas.List.{length-map, take-append-drop}
use Rattle.std.proofs.lemmas.List.Sums.{sum_by-append}
use Rattle.mesa_query.specs.mesa_value.declared.Agg.{Agg}
use Rattle.mesa_query.specs.mesa_value.declared.Agg.TheVariants.{Sum, Min, Max, Replace}
use Rattle.mesa_schema.specs.Changes.{Lineage, columns_of}
use Rattle.mesa_validate.specs.mesa_columns.Columns.{Columns, aggs_of}
use Rattle.mesa_open_files.specs.mesa_fold.Folded.{rows_of}
use Rattle.mesa_open_files.specs.mesa_fold.Laws.{AreFull}
use Rattle.mesa_validate.specs.mesa_columns.Rows.{AreRowsOf, IsRowOf}
use Rattle.mesa_validate.specs.mesa_columns.declared.columns.ValueColumn.{ValueColumn}
use Rattle.mesa_validate.specs.mesa_columns.declared.rows.Row.{Row}
use Rattle.mesa_validate.proofs.mesa_columns.Lists.{all_found, all_so}
use Rattle.mesa_validate.specs.mesa_batch.Totals.{AreAtMost, abs_total, sum_bound, sum_places}
use Rattle.mesa_validate.proofs.mesa_batch.Merged.{folds_totals}
use Rattle.mesa_span.specs.Plan.{longest}
use Rattle.mesa_validate.specs.mesa_store_spec.Catalog.{Delta, Ending, TableMeta, end_in, start_in}
use Rattle.mesa_validate.specs.mesa_store_spec.Contents.{Rows, present}
use Rattle.mesa_validate.specs.mesa_store_spec.Fitting.{base_deltas, delta_in, delta_live, deltas_of}
use Rattle.mesa_validate.specs.mesa_store_spec.Shape.{IsShaped}
use Rattle.mesa_validate.specs.mesa_store_spec.Sound.{IsMerged, HasSoundRows, IsTold}
use Rattle.mesa_pick_files.specs.Folding.{folded_deltas}
use Rattle.mesa_validate.specs.mesa_store_spec.Planned.{behind_base, ending_at, longest_to, planned}
use Rattle.mesa_validate.proofs.mesa_store_spec.Formed.{all_formed, rows_formed}
use Rattle.mesa_validate.proofs.mesa_store_spec.Lists.{all_back, all_take, all_unflat}

-- ---- totals of columns

pub abs_append : (c : ℕ) (xs ys : List Row) → abs_total c (xs ++ ys) ≡ abs_total c xs + abs_total c ys
abs_append c xs ys = sum_by-append (λ (row : Row). nat_abs (slice_index_or row.values c (pos 0))) xs ys

-- each of these is below 2^127 where it is at most one that is
sums_below : (f : ℕ → ℕ) (places totals : List ℕ) → AreAtMost (map f places) totals → AllByRecursion (λ total. total < sum_bound) totals → AllByRecursion (λ c. f c < sum_bound) places
sums_below f [] totals most all = tt
sums_below f (c ∷ places) [] most all = absurd most
sums_below f (c ∷ places) (t ∷ totals) most all = (omega (arith, most.0, all.0), sums_below f places totals most.1 all.1)

-- what holds of each sum column's place holds of a sum column
of_sum : (P : ℕ → Type 0) (i : ℕ) (aggs : List Agg) → AllByRecursion P (sum_places i aggs) → (c : ℕ) → slice_get aggs c ≡ Some Sum → P (i + c)
of_sum P i [] all c is = absurd cc
of_sum P i (Sum ∷ aggs) all zero is = let here : i ≡ i + 0 = omega arith in subst P here all.0
of_sum P i (Min ∷ aggs) all zero is = absurd cc
of_sum P i (Max ∷ aggs) all zero is = absurd cc
of_sum P i (Replace ∷ aggs) all zero is = absurd cc
of_sum P i (Sum ∷ aggs) all (suc c) is = let there : (i + 1) + c ≡ i + suc c = omega arith in subst P there (of_sum P (i + 1) aggs all.1 c is)
of_sum P i (Min ∷ aggs) all (suc c) is = let there : (i + 1) + c ≡ i + suc c = omega arith in subst P there (of_sum P (i + 1) aggs all c is)
of_sum P i (Max ∷ aggs) all (suc c) is = let there : (i + 1) + c ≡ i + suc c = omega arith in subst P there (of_sum P (i + 1) aggs all c is)
of_sum P i (Replace ∷ aggs) all (suc c) is = let there : (i + 1) + c ≡ i + suc c = omega arith in subst P there (of_sum P (i + 1) aggs all c is)

are_full : (s : Columns) (rows : List Row) → AreRowsOf s rows → AreFull (aggs_of s) rows
are_full s rows all = all_so (IsRowOf s) (λ (row : Row). length row.values ≡ length (aggs_of s)) rows (λ row form. form.values ∙ sym (length-map s.values (λ (c : ValueColumn). c.agg))) all

-- ---- deltas

module _ (rows : Rows) (oldest next : ℕ) (t : TableMeta) (shaped : IsShaped oldest next t) (sound_rows : HasSoundRows rows t) where
  abbrev l : Lineage
  l = t.lineage

  abbrev s : Columns
  s = columns_of t.lineage

  -- what a column's absolute values add up to over deltas
  abbrev pub total_of : ℕ → List Delta → ℕ
  total_of c ds = abs_total c (rows_of (map (present rows t.lineage) ds))

  total_append : (c : ℕ) (xs ys : List Delta) → total_of c (xs ++ ys) ≡ total_of c xs + total_of c ys
  total_append c [] ys = sym (zero-add (total_of c ys))
  total_append c (d ∷ xs) ys =
      abs_append c (present rows l d) (rows_of (map (present rows l) (xs ++ ys)))
      ∙ ap (λ n. abs_total c (present rows l d) + n) (total_append c xs ys)
      ∙ sym (add_assoc (abs_total c (present rows l d)) (total_of c xs) (total_of c ys))
      ∙ ap (λ n. n + total_of c ys) (sym (abs_append c (present rows l d) (rows_of (map (present rows l) xs))))

  total_cut : (c n : ℕ) (ds : List Delta) → total_of c (take n ds) + total_of c (drop n ds) ≡ total_of c ds
  total_cut c n ds = sym (total_append c (take n ds) (drop n ds)) ∙ ap (total_of c) (take-append-drop n ds)

  -- the singletons have the form of the present columns
  singles_formed : (n : ℕ) → AreRowsOf (columns_of t.lineage) (rows_of (map (present rows t.lineage) (take n t.singles)))
  singles_formed n =
      let T : Delta → Type 0 = λ d. AllByRecursion (IsTold rows) (delta_live l d) in
      let all = all_unflat (IsTold rows) (delta_live l) (deltas_of t) sound_rows.files in
      rows_formed rows l (take n t.singles) (all_formed rows l (take n t.singles) shaped.lineage (all_take T n t.singles (all_back T (map delta_in t.cumulatives) t.singles (all_back T (base_deltas t.base) (map delta_in t.cumulatives ++ t.singles) all))))

  -- a cumulative adds up to no more than its singletons
  cumulative_at_most : (c : ℕ) → slice_get (aggs_of (columns_of t.lineage)) c ≡ Some Sum → (e : Ending) → IsMerged rows t e → abs_total c (present rows t.lineage e.delta) ≤ total_of c (take (e.to + 1 - start_in t) t.singles)
  cumulative_at_most c sum e merged =
      let n = e.to + 1 - start_in t in
      let parts = map (present rows l) (take n t.singles) in
      subst (λ (rs : List Row). abs_total c rs ≤ abs_total c (rows_of parts)) (sym merged) (folds_totals (aggs_of s) parts c sum (are_full s (rows_of parts) (singles_formed n)))

  behind_at_most : (c : ℕ) → slice_get (aggs_of (columns_of t.lineage)) c ≡ Some Sum → (version : ℕ) (o : Option ℕ) (p : Option Ending) → ending_at t.cumulatives o ≡ p → total_of c (behind_base t version p) ≤ total_of c t.singles
  behind_at_most c sum version o None found = let cut = total_cut c (version + 1 - start_in t) t.singles in omega (arith, cut)
  behind_at_most c sum version None (Some e) found = absurd cc
  behind_at_most c sum version (Some end) (Some e) found =
      let n = e.to + 1 - start_in t in
      let merged = all_found (IsMerged rows t) (λ (x : Ending). x.to == end) t.cumulatives e found sound_rows.merged in
      let first = cumulative_at_most c sum e merged in
      let one = abs_append c (present rows l e.delta) (rows_of (map (present rows l) (take (version - e.to) (drop n t.singles)))) in
      let all = total_cut c n t.singles in
      let rest = total_cut c (version - e.to) (drop n t.singles) in
      omega (arith, first, one, all, rest)

  -- No sum over the base and all singletons leaves its type.
  pub all_below : (c : ℕ) → slice_get (aggs_of (columns_of t.lineage)) c ≡ Some Sum → total_of c (base_deltas t.base ++ t.singles) < sum_bound
  all_below c sum =
      let f : ℕ → ℕ = λ k. total_of k (base_deltas t.base ++ t.singles) in
      let here : 0 + c ≡ c = zero-add c in
      subst (λ k. f k < sum_bound) here (of_sum (λ k. f k < sum_bound) 0 (aggs_of s) (sums_below f (sum_places 0 (aggs_of s)) t.totals sound_rows.bound shaped.bounded) c sum)

  -- Nor does one over the deltas of a plan.
  pub planned_sums : (version c : ℕ) → slice_get (aggs_of (columns_of t.lineage)) c ≡ Some Sum → total_of c (planned t version) < sum_bound
  planned_sums version c sum =
      let o = longest version (map end_in t.cumulatives) in
      let all = all_below c sum in
      let whole = total_append c (base_deltas t.base) t.singles in
      let plan = total_append c (base_deltas t.base) (behind_base t version (longest_to t version)) in
      let behind = behind_at_most c sum version o (longest_to t version) refl in
      omega (arith, all, whole, plan, behind)

  -- Nor over those that a work folds.
  pub folded_sums : (base : _) (to c : ℕ) → slice_get (aggs_of (columns_of t.lineage)) c ≡ Some Sum → total_of c (folded_deltas t base to) < sum_bound
  folded_sums true to c sum = planned_sums to c sum
  folded_sums false to c sum =
      let all = all_below c sum in
      let whole = total_append c (base_deltas t.base) t.singles in
      let behind = behind_at_most c sum to (longest to (map end_in t.cumulatives)) (longest_to t to) refl in
      omega (arith, all, whole, behind)
