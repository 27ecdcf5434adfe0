-- Totals through recasts: those that bound rows bound them once they are recast.
use Rattle.std.proofs.Common.{◌≡◌, ℕ, zero, suc, ◌+◌, ◌≤◌, ◌<◌, pos, List, [], ◌∷◌, ◌++◌, map, length, take, get_or, true, cond, refl, sym, ◌∙◌, ap, subst, arith, Some, slice_get}
use Rattle.std.specs.Prelude.{ℤ, nat_abs, nat_lt}
use Rattle.std.specs.List.{AllByRecursion, cons_option, list_all}
use Rattle.std.proofs.lemmas.Bool.{ltb-true}
use Rattle.std.proofs.lemmas.List.{append-nil, length-map}
use Rattle.std.proofs.lemmas.List.Sums.{sum_by-append, sum_by-cons}
use Rattle.mesa_schema.specs.mesa_value.declared.Agg.{Agg}
use Rattle.mesa_schema.specs.mesa_value.declared.Agg.TheVariants.{Sum, Min, Max, Replace}
use Rattle.mesa_schema.specs.mesa_columns.declared.columns.ValueColumn.{ValueColumn}
use Rattle.mesa_schema.specs.mesa_columns.declared.rows.Row.{Row}
use Rattle.mesa_schema.specs.mesa_columns.declared.views.ViewError.TheVariants.{NoValue}
use Rattle.mesa_schema.specs.mesa_columns.Columns.{Columns, aggs_of, chosen, value_names}
use Rattle.mesa_schema.specs.mesa_fold.Folded.{regrouped, rows_of}
use Rattle.mesa_schema.specs.mesa_fold.Laws.{AreFull}
use Rattle.mesa_schema.specs.mesa_columns.Rows.{AreRowsOf, IsRowOf}
use Rattle.mesa_schema.proofs.mesa_fold.Forms.{rows-full}
use Rattle.mesa_schema.specs.Recasts.{IsRecastOf, Recast, recast_columns, recast_keys, recast_rows, recast_values}
use Rattle.mesa_schema.proofs.ChosenAgain.{both, choice_there, places_within}
use Rattle.mesa_schema.proofs.Regrouping.{aggs_recast, rows_form}
use Rattle.mesa_batch.specs.Totals.{AreAtMost, abs_total, abs_totals, chosen_totals, is_sum, sum_places, sums_in, totals_recast, with_total}
use Rattle.mesa_batch.proofs.Merged.{folds_totals}

-- ---- sum columns by their places

count_places : (n m : ℕ) (aggs : List Agg) → length (sum_places n aggs) ≡ length (sum_places m aggs)
count_places n m [] = refl
count_places n m (Sum ∷ aggs) = ap suc (count_places (n + 1) (m + 1) aggs)
count_places n m (Min ∷ aggs) = count_places (n + 1) (m + 1) aggs
count_places n m (Max ∷ aggs) = count_places (n + 1) (m + 1) aggs
count_places n m (Replace ∷ aggs) = count_places (n + 1) (m + 1) aggs

sums_first : (a : Agg) (aggs : List Agg) → sums_in (a ∷ aggs) ≡ cond (is_sum a) (suc (sums_in aggs)) (sums_in aggs)
sums_first Sum aggs = ap suc (count_places 1 0 aggs)
sums_first Min aggs = count_places 1 0 aggs
sums_first Max aggs = count_places 1 0 aggs
sums_first Replace aggs = count_places 1 0 aggs

-- what bounds the totals of sum columns bounds that of each
at_sum : (f : ℕ → ℕ) (i : ℕ) (aggs : List Agg) (totals : List ℕ) (p : ℕ) → AreAtMost (map f (sum_places i aggs)) totals → slice_get aggs p ≡ Some Sum → f (i + p) ≤ get_or totals (sums_in (take p aggs)) 0
at_sum f i [] totals p most e = cc
at_sum f i (Sum ∷ aggs) [] zero most e = absurd most
at_sum f i (Sum ∷ aggs) (t ∷ totals) zero most e = subst (λ n. f n ≤ t) (let s : i ≡ i + 0 = omega arith in s) most.0
at_sum f i (Min ∷ aggs) totals zero most e = cc
at_sum f i (Max ∷ aggs) totals zero most e = cc
at_sum f i (Replace ∷ aggs) totals zero most e = cc
at_sum f i (Sum ∷ aggs) [] (suc p) most e = absurd most
at_sum f i (Sum ∷ aggs) (t ∷ totals) (suc p) most e =
    subst (λ k. f (i + suc p) ≤ get_or (t ∷ totals) k 0) (sym (sums_first Sum (take p aggs))) (subst (λ n. f n ≤ get_or totals (sums_in (take p aggs)) 0) (let s : i + 1 + p ≡ i + suc p = omega arith in s) (at_sum f (i + 1) aggs totals p most.1 e))
at_sum f i (Min ∷ aggs) totals (suc p) most e =
    subst (λ k. f (i + suc p) ≤ get_or totals k 0) (sym (sums_first Min (take p aggs))) (subst (λ n. f n ≤ get_or totals (sums_in (take p aggs)) 0) (let s : i + 1 + p ≡ i + suc p = omega arith in s) (at_sum f (i + 1) aggs totals p most e))
at_sum f i (Max ∷ aggs) totals (suc p) most e =
    subst (λ k. f (i + suc p) ≤ get_or totals k 0) (sym (sums_first Max (take p aggs))) (subst (λ n. f n ≤ get_or totals (sums_in (take p aggs)) 0) (let s : i + 1 + p ≡ i + suc p = omega arith in s) (at_sum f (i + 1) aggs totals p most e))
at_sum f i (Replace ∷ aggs) totals (suc p) most e =
    subst (λ k. f (i + suc p) ≤ get_or totals k 0) (sym (sums_first Replace (take p aggs))) (subst (λ n. f n ≤ get_or totals (sums_in (take p aggs)) 0) (let s : i + 1 + p ≡ i + suc p = omega arith in s) (at_sum f (i + 1) aggs totals p most e))

-- ---- the totals of chosen columns

-- something stands at a place
slot : {X : Type 0} (xs : List X) (p : ℕ) → p < length xs → (x : X) × (slice_get xs p ≡ Some x)
slot [] p lt = absurd (omega (arith, lt))
slot (x ∷ xs) zero lt = (x, refl)
slot (x ∷ xs) (suc p) lt = slot xs p (omega (arith, lt))

abbrev Within : ℕ → List ℕ → Type 0
Within n places = list_all (λ place. nat_lt place n) places ≡ true

chosen_sums : (aggs : List Agg) (totals : List ℕ) (places : List ℕ) (i : ℕ) → Within (length aggs) places → length (chosen_totals aggs totals places) ≡ length (sum_places i (chosen places aggs))
chosen_sums aggs totals [] i all = refl
chosen_sums aggs totals (p ∷ places) i all =
    let parts = both (nat_lt p (length aggs)) (list_all (λ place. nat_lt place (length aggs)) places) all in
    let here = slot aggs p (ltb-true p (length aggs) parts.0) in
    ap (λ o. length (with_total o (get_or totals (sums_in (take p aggs)) 0) (chosen_totals aggs totals places))) here.1
    ∙ by here.0 (chosen_sums aggs totals places (i + 1) parts.1) (chosen_sums aggs totals places i parts.1)
    ∙ sym (ap (λ o. length (sum_places i (cons_option o (chosen places aggs)))) here.1)
  where
    by : (a : Agg) → length (chosen_totals aggs totals places) ≡ length (sum_places (i + 1) (chosen places aggs)) → length (chosen_totals aggs totals places) ≡ length (sum_places i (chosen places aggs))
        → length (with_total (Some a) (get_or totals (sums_in (take p aggs)) 0) (chosen_totals aggs totals places)) ≡ length (sum_places i (a ∷ chosen places aggs))
    by Sum rest same = ap suc rest
    by Min rest same = rest
    by Max rest same = rest
    by Replace rest same = rest

chosen_most : (f : ℕ → ℕ) (aggs : List Agg) (totals : List ℕ) (places : List ℕ) (i : ℕ) → Within (length aggs) places
    → ((k p : ℕ) → slice_get places k ≡ Some p → slice_get aggs p ≡ Some Sum → f (i + k) ≤ get_or totals (sums_in (take p aggs)) 0)
    → AreAtMost (map f (sum_places i (chosen places aggs))) (chosen_totals aggs totals places)
chosen_most f aggs totals [] i all below = tt
chosen_most f aggs totals (p ∷ places) i all below =
    let parts = both (nat_lt p (length aggs)) (list_all (λ place. nat_lt place (length aggs)) places) all in
    let here = slot aggs p (ltb-true p (length aggs) parts.0) in
    let rest : AreAtMost (map f (sum_places (i + 1) (chosen places aggs))) (chosen_totals aggs totals places) =
    chosen_most f aggs totals places (i + 1) parts.1 (λ k q at sum. subst (λ n. f n ≤ get_or totals (sums_in (take q aggs)) 0) (let s : i + suc k ≡ i + 1 + k = omega arith in s) (below (suc k) q at sum)) in
    subst (λ o. AreAtMost (map f (sum_places i (cons_option o (chosen places aggs)))) (with_total o (get_or totals (sums_in (take p aggs)) 0) (chosen_totals aggs totals places))) (sym here.1) (by here.0 here.1 rest)
  where
    by : (a : Agg) → slice_get aggs p ≡ Some a → AreAtMost (map f (sum_places (i + 1) (chosen places aggs))) (chosen_totals aggs totals places) → AreAtMost (map f (sum_places i (a ∷ chosen places aggs))) (with_total (Some a) (get_or totals (sums_in (take p aggs)) 0) (chosen_totals aggs totals places))
    by Sum e rest = (subst (λ n. f n ≤ get_or totals (sums_in (take p aggs)) 0) (let s : i + 0 ≡ i = omega arith in s) (below 0 p refl e), rest)
    by Min e rest = rest
    by Max e rest = rest
    by Replace e rest = rest

-- ---- the values of regrouped rows

-- what is chosen at a place
chosen_at : (places : List ℕ) (vs : List ℤ) (k p : ℕ) → Within (length vs) places → slice_get places k ≡ Some p → get_or (chosen places vs) k (pos 0) ≡ get_or vs p (pos 0)
chosen_at [] vs k p all e = cc
chosen_at (q ∷ places) vs zero p all e =
    let same : q ≡ p = cc in
    let here = slot vs q (ltb-true q (length vs) (both (nat_lt q (length vs)) (list_all (λ place. nat_lt place (length vs)) places) all).0) in
    ap (λ o. get_or (cons_option o (chosen places vs)) zero (pos 0)) here.1 ∙ sym (got vs q here.0 here.1) ∙ ap (λ n. get_or vs n (pos 0)) same
  where
    got : (vs : List ℤ) (q : ℕ) (x : ℤ) → slice_get vs q ≡ Some x → get_or vs q (pos 0) ≡ x
    got [] q x e = cc
    got (y ∷ vs) zero x e = cc
    got (y ∷ vs) (suc q) x e = got vs q x e
chosen_at (q ∷ places) vs (suc k) p all e =
    let parts = both (nat_lt q (length vs)) (list_all (λ place. nat_lt place (length vs)) places) all in
    let here = slot vs q (ltb-true q (length vs) parts.0) in
    ap (λ o. get_or (cons_option o (chosen places vs)) (suc k) (pos 0)) here.1 ∙ chosen_at places vs k p parts.1 e

same_total : (P : Row → Type 0) (c d : ℕ) (f : Row → Row) (rows : List Row) → ((row : Row) → P row → get_or (f row).values c (pos 0) ≡ get_or row.values d (pos 0)) → AllByRecursion P rows → abs_total c (map f rows) ≡ abs_total d rows
same_total P c d f [] same all = refl
same_total P c d f (row ∷ rows) same all =
    sum_by-cons (λ (r : Row). nat_abs (get_or r.values c (pos 0))) (f row) (map f rows)
    ∙ (λ i. nat_abs (same row all.0 i) + same_total P c d f rows same all.1 i)
    ∙ sym (sum_by-cons (λ (r : Row). nat_abs (get_or r.values d (pos 0))) row rows)

total_append : (c : ℕ) (xs ys : List Row) → abs_total c (xs ++ ys) ≡ abs_total c xs + abs_total c ys
total_append c xs ys = sum_by-append (λ (r : Row). nat_abs (get_or r.values c (pos 0))) xs ys

-- ---- the laws

module _ (s : Columns) (r : Recast) (is : IsRecastOf s r) where
  within_values : Within (length s.values) (recast_values s r)
  within_values = places_within (value_names s) s.values r.values (length-map s.values (λ (c : ValueColumn). c.name)) (choice_there (value_names s) NoValue r.values is.values)

  within_aggs : Within (length (aggs_of s)) (recast_values s r)
  within_aggs = subst (λ n. Within n (recast_values s r)) (sym (length-map s.values (λ (c : ValueColumn). c.agg))) within_values

  -- one part
  part_total : (k p : ℕ) (part : List Row) → slice_get (recast_values s r) k ≡ Some p → slice_get (aggs_of s) p ≡ Some Sum → AreRowsOf s part → abs_total k (recast_rows s r part) ≤ abs_total p part
  part_total k p part at sum all =
      let place : Row → Row = regrouped s (recast_keys s r) (recast_values s r) in
      let aggs : List Agg = chosen (recast_values s r) (aggs_of s) in
      let kth : slice_get aggs k ≡ Some Sum = chosen_get (recast_values s r) k at within_aggs in
      let full : AreFull aggs (rows_of (map place part ∷ [])) =
      subst (λ gs. AreFull gs (rows_of (map place part ∷ []))) (sym (aggs_recast s r)) (subst (λ rows. AreFull (aggs_of (recast_columns s r)) rows) (sym (append-nil (map place part))) (rows-full (recast_columns s r) (map place part) (rows_form s r part all))) in
      let folds : abs_total k (recast_rows s r part) ≤ abs_total k (rows_of (map place part ∷ [])) = folds_totals aggs (map place part ∷ []) k kth full in
      let same : abs_total k (rows_of (map place part ∷ [])) ≡ abs_total p part =
      ap (abs_total k) (append-nil (map place part))
      ∙ same_total (IsRowOf s) k p place part (λ row form. chosen_at (recast_values s r) row.values k p (subst (λ n. Within n (recast_values s r)) (sym form.values) within_values) at) all in
      omega (arith, folds, same)
    where
      chosen_get : (places : List ℕ) (j : ℕ) → slice_get places j ≡ Some p → Within (length (aggs_of s)) places → slice_get (chosen places (aggs_of s)) j ≡ Some Sum
      chosen_get [] j e w = cc
      chosen_get (q ∷ places) zero e w =
          let same : q ≡ p = cc in
          let here : slice_get (aggs_of s) q ≡ Some Sum = ap (slice_get (aggs_of s)) same ∙ sum in
          ap (λ o. slice_get (cons_option o (chosen places (aggs_of s))) zero) here
      chosen_get (q ∷ places) (suc j) e w =
          let parts = both (nat_lt q (length (aggs_of s))) (list_all (λ place. nat_lt place (length (aggs_of s))) places) w in
          let here = slot (aggs_of s) q (ltb-true q (length (aggs_of s)) parts.0) in
          ap (λ o. slice_get (cons_option o (chosen places (aggs_of s))) (suc j)) here.1 ∙ chosen_get places j e parts.1

  -- all parts
  parts_total : (k p : ℕ) (parts : List (List Row)) → slice_get (recast_values s r) k ≡ Some p → slice_get (aggs_of s) p ≡ Some Sum → AreRowsOf s (rows_of parts)
      → abs_total k (rows_of (map (recast_rows s r) parts)) ≤ abs_total p (rows_of parts)
  parts_total k p [] at sum all = omega arith
  parts_total k p (part ∷ parts) at sum all =
      let first = part_total k p part at sum (front part (rows_of parts) all) in
      let rest = parts_total k p parts at sum (back part (rows_of parts) all) in
      let now = total_append k (recast_rows s r part) (rows_of (map (recast_rows s r) parts)) in
      let was = total_append p part (rows_of parts) in
      omega (arith, first, rest, now, was)
    where
      front : (xs ys : List Row) → AreRowsOf s (xs ++ ys) → AreRowsOf s xs
      front [] ys all = tt
      front (x ∷ xs) ys all = (all.0, front xs ys all.1)

      back : (xs ys : List Row) → AreRowsOf s (xs ++ ys) → AreRowsOf s ys
      back [] ys all = all
      back (x ∷ xs) ys all = back xs ys all.1

  pub totals_last : (parts : List (List Row)) (totals : List ℕ) → AreRowsOf s (rows_of parts) → AreAtMost (abs_totals s (rows_of parts)) totals
      → AreAtMost (abs_totals (recast_columns s r) (rows_of (map (recast_rows s r) parts))) (totals_recast s r totals)
  totals_last parts totals all most =
      let now : List Row = rows_of (map (recast_rows s r) parts) in
      subst (λ aggs. AreAtMost (map (λ column. abs_total column now) (sum_places 0 aggs)) (totals_recast s r totals)) (aggs_recast s r)
      (chosen_most (λ column. abs_total column now) (aggs_of s) totals (recast_values s r) 0 within_aggs (λ k p at sum.
      let here : abs_total k now ≤ abs_total p (rows_of parts) = parts_total k p parts at sum all in
      let bound : abs_total (0 + p) (rows_of parts) ≤ get_or totals (sums_in (take p (aggs_of s))) 0 = at_sum (λ column. abs_total column (rows_of parts)) 0 (aggs_of s) totals p most sum in
      let zero_k : 0 + k ≡ k = omega arith in
      let zero_p : 0 + p ≡ p = omega arith in
      subst (λ n. abs_total n now ≤ get_or totals (sums_in (take p (aggs_of s))) 0) (sym zero_k) (
      let again : abs_total p (rows_of parts) ≤ get_or totals (sums_in (take p (aggs_of s))) 0 = subst (λ n. abs_total n (rows_of parts) ≤ get_or totals (sums_in (take p (aggs_of s))) 0) zero_p bound in
      omega (arith, here, again))))

  pub totals_count : (totals : List ℕ) → length (totals_recast s r totals) ≡ sums_in (aggs_of (recast_columns s r))
  totals_count totals = chosen_sums (aggs_of s) totals (recast_values s r) 0 within_aggs ∙ ap sums_in (aggs_recast s r)
