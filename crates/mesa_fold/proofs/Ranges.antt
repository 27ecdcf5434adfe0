-- Values stay within the ranges of their columns, whatever rows go through.
use Rattle.std.proofs.Common.{◌≡◌, ℕ, zero, suc, List, [], ◌∷◌, ◌++◌, length, map, filter, cond, true, false, Option, Some, None, slice_get, sym, subst, arith}
use Rattle.std.specs.Prelude.{ℤ, ⊤, int_lt}
use Rattle.std.specs.List.{AllByRecursion, cons_option}
use Rattle.mesa_columns.specs.mesa_list.Bytes.{same_bytes}
use Rattle.mesa_columns.specs.mesa_value.declared.Agg.{Agg}
use Rattle.mesa_columns.specs.mesa_value.declared.Agg.TheVariants.{Sum, Min, Max, Replace}
use Rattle.mesa_columns.specs.mesa_value.Agg.{IsDefault, IsNarrow, IsOf, combined}
use Rattle.mesa_columns.specs.declared.rows.Row.{Row}
use Rattle.mesa_columns.specs.Columns.{Columns, aggs_of, chosen}
use Rattle.mesa_columns.specs.Changes.{without}
use Rattle.mesa_fold.specs.Folded.{all_combined, combined_from, folded_at, row_combined, values_at}
use Rattle.mesa_columns.specs.Rows.{AreOf, AreRowsOf}
use Rattle.mesa_columns.proofs.Drops.{without-nil, without-suc}

-- a default is a value of its column
pub of_default : (agg : Agg) (z : ℤ) → IsDefault agg z → IsOf agg z
of_default Sum z h = tt
of_default Min z h = h
of_default Max z h = h
of_default Replace z h = h

of_combined : (agg : Agg) (a b : ℤ) → IsOf agg a → IsOf agg b → IsOf agg (combined agg a b)
of_combined Sum a b p q = tt
of_combined Min a b p q = elim (int_lt b a) as (λ t. IsNarrow (cond t b a)) [ true ↦ q | false ↦ p ]
of_combined Max a b p q = elim (int_lt b a) as (λ t. IsNarrow (cond t a b)) [ true ↦ p | false ↦ q ]
of_combined Replace a b p q = q

-- ---- folding

-- an older and a newer row's values, combined
pub ranges_combined : (aggs : List Agg) (a b : List ℤ) → AreOf aggs a → AreOf aggs b → AreOf aggs (row_combined aggs a b)
ranges_combined [] a b p q = tt
ranges_combined (g ∷ aggs) [] b p q = tt
ranges_combined (g ∷ aggs) (x ∷ a) [] p q = tt
ranges_combined (g ∷ aggs) (x ∷ a) (y ∷ b) p q = (of_combined g x y p.0 q.0, ranges_combined aggs a b p.1 q.1)

ranges_from : (aggs : List Agg) (v : List ℤ) (vs : List (List ℤ)) → AreOf aggs v → AllByRecursion (AreOf aggs) vs → AreOf aggs (combined_from aggs v vs)
ranges_from aggs v [] p all = p
ranges_from aggs v (x ∷ xs) p all = ranges_from aggs (row_combined aggs v x) xs (ranges_combined aggs v x p all.0) all.1

ranges_none : (aggs : List Agg) → AreOf aggs []
ranges_none [] = tt
ranges_none (g ∷ aggs) = tt

ranges_all : (aggs : List Agg) (vs : List (List ℤ)) → AllByRecursion (AreOf aggs) vs → AreOf aggs (all_combined aggs vs)
ranges_all aggs [] all = ranges_none aggs
ranges_all aggs (v ∷ vs) all = ranges_from aggs v vs all.0 all.1

ranges_at : (aggs : List Agg) (k : List ℕ) (rows : List Row) → AllByRecursion (λ (row : Row). AreOf aggs row.values) rows → AllByRecursion (AreOf aggs) (values_at k rows)
ranges_at aggs k [] all = tt
ranges_at aggs k (row ∷ rows) all = elim (same_bytes k row.key) as (λ b. AllByRecursion (AreOf aggs) (map (λ (r : Row). r.values) (cond b (row ∷ filter (λ r. same_bytes k r.key) rows) (filter (λ r. same_bytes k r.key) rows)))) [
  | true ↦ (all.0, ranges_at aggs k rows all.1)
  | false ↦ ranges_at aggs k rows all.1
]

rows_ranges : (s : Columns) (rows : List Row) → AreRowsOf s rows → AllByRecursion (λ (row : Row). AreOf (aggs_of s) row.values) rows
rows_ranges s [] all = tt
rows_ranges s (row ∷ rows) all = (all.0.ranges, rows_ranges s rows all.1)

-- the row that is folded of rows of one form
pub ranges_folded : (s : Columns) (rows : List Row) (k : List ℕ) → AreRowsOf s rows → AreOf (aggs_of s) (folded_at (aggs_of s) rows k).values
ranges_folded s rows k all = ranges_all (aggs_of s) (values_at k rows) (ranges_at (aggs_of s) k rows (rows_ranges s rows all))

-- ---- columns that come and go

-- a value more
pub ranges_more : (aggs : List Agg) (vs : List ℤ) (g : Agg) (d : ℤ) → length vs ≡ length aggs → AreOf aggs vs → IsOf g d → AreOf (aggs ++ g ∷ []) (vs ++ d ∷ [])
ranges_more [] [] g d e all is = (is, tt)
ranges_more [] (x ∷ vs) g d e all is = absurd (omega (arith, e))
ranges_more (a ∷ aggs) [] g d e all is = absurd (omega (arith, e))
ranges_more (a ∷ aggs) (x ∷ vs) g d e all is = (all.0, ranges_more aggs vs g d (omega (arith, e)) all.1 is)

-- a value less
pub ranges_without : (i : ℕ) (aggs : List Agg) (vs : List ℤ) → length vs ≡ length aggs → AreOf aggs vs → AreOf (without i aggs) (without i vs)
ranges_without i [] vs e all = subst (λ (gs : List Agg). AreOf gs (without i vs)) (sym (without-nil i)) tt
ranges_without i (g ∷ aggs) [] e all = absurd (omega (arith, e))
ranges_without zero (g ∷ aggs) (x ∷ vs) e all = all.1
ranges_without (suc i) (g ∷ aggs) (x ∷ vs) e all =
    subst (λ (gs : List Agg). AreOf gs (without (suc i) (x ∷ vs))) (sym (without-suc i g aggs))
    (subst (λ (ws : List ℤ). AreOf (g ∷ without i aggs) ws) (sym (without-suc i x vs)) (all.0, ranges_without i aggs vs (omega (arith, e)) all.1))

-- ---- chosen columns

-- what stands at a place of both lists
abbrev OptionOf : Option Agg → Option ℤ → Type 0
OptionOf None None = ⊤
OptionOf None (Some z) = ⊥
OptionOf (Some g) None = ⊥
OptionOf (Some g) (Some z) = IsOf g z

both_of : (place : ℕ) (aggs : List Agg) (vs : List ℤ) → length vs ≡ length aggs → AreOf aggs vs → OptionOf (slice_get aggs place) (slice_get vs place)
both_of place [] [] e all = tt
both_of place [] (x ∷ vs) e all = absurd (omega (arith, e))
both_of place (g ∷ aggs) [] e all = absurd (omega (arith, e))
both_of zero (g ∷ aggs) (x ∷ vs) e all = all.0
both_of (suc place) (g ∷ aggs) (x ∷ vs) e all = both_of place aggs vs (omega (arith, e)) all.1

of_options : (o : Option Agg) (q : Option ℤ) (aggs : List Agg) (vs : List ℤ) → OptionOf o q → AreOf aggs vs → AreOf (cons_option o aggs) (cons_option q vs)
of_options None None aggs vs is all = all
of_options None (Some z) aggs vs is all = absurd is
of_options (Some g) None aggs vs is all = absurd is
of_options (Some g) (Some z) aggs vs is all = (is, all)

-- the values at chosen places
pub ranges_chosen : (places : List ℕ) (aggs : List Agg) (vs : List ℤ) → length vs ≡ length aggs → AreOf aggs vs → AreOf (chosen places aggs) (chosen places vs)
ranges_chosen [] aggs vs e all = tt
ranges_chosen (place ∷ places) aggs vs e all =
    of_options (slice_get aggs place) (slice_get vs place) (chosen places aggs) (chosen places vs) (both_of place aggs vs e all) (ranges_chosen places aggs vs e all)
