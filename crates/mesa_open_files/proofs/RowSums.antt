-- Sums of rows, by their absolute values.
use Rattle.std.proofs.Common.{◌≡◌, ℕ, zero, suc, ◌+◌, ◌<◌, ◌≤◌, ℤ, pos, negsuc, ◌+ℤ◌, List, [], ◌∷◌, length, map, get_or, refl, sym, ap, ◌∙◌, arith, zero-add}
use Rattle.std.specs.Prelude.{Some, slice_get, nat_abs}
use Rattle.std.proofs.lemmas.Int.{ints}
use Rattle.std.proofs.lemmas.List.{length-map}
use Rattle.std.proofs.lemmas.List.Sums.{sum_by-append}
use Rattle.mesa_scan.specs.mesa_value.declared.Agg.{Agg}
use Rattle.mesa_scan.specs.mesa_value.declared.Agg.TheVariants.{Sum, Min, Max, Replace}
use Rattle.mesa_scan.specs.mesa_value.Agg.{Combines}
use Rattle.mesa_history_spec.specs.mesa_columns.declared.rows.Row.{Row}
use Rattle.mesa_history_spec.specs.mesa_columns.declared.columns.ValueColumn.{ValueColumn}
use Rattle.mesa_history_spec.specs.mesa_columns.Columns.{Columns, aggs_of}
use Rattle.mesa_history_spec.specs.mesa_fold.Folded.{row_combined, combined_from}
use Rattle.mesa_history_spec.specs.mesa_columns.Rows.{AreRowsOf, IsRowOf}
use Rattle.mesa_batch.specs.Totals.{abs_total, sum_bound}
use Rattle.mesa_scan.specs.mesa_delta_format.Summary.{all_noted, aggregates, values_of, AllCombine}

sum_fits : (o n : ℤ) → nat_abs o + nat_abs n < sum_bound → Combines Sum o n
sum_fits (pos a) (pos b) h = omega (arith, ints)
sum_fits (pos a) (negsuc b) h = omega (arith, ints)
sum_fits (negsuc a) (pos b) h = omega (arith, ints)
sum_fits (negsuc a) (negsuc b) h = omega (arith, ints)

combines_one : (agg : Agg) (o n : ℤ) → (agg ≡ Sum → nat_abs o + nat_abs n < sum_bound) → Combines agg o n
combines_one Sum o n h = sum_fits o n (h refl)
combines_one Min o n h = tt
combines_one Max o n h = tt
combines_one Replace o n h = tt

-- values combine whose absolute values keep the bound together
pub combine_from : (aggs : List Agg) (os ns : List ℤ) → ((c : ℕ) → slice_get aggs c ≡ Some Sum → nat_abs (get_or os c (pos 0)) + nat_abs (get_or ns c (pos 0)) < sum_bound) → AllCombine aggs os ns
combine_from [] os ns h = tt
combine_from (g ∷ aggs) [] ns h = tt
combine_from (g ∷ aggs) (o ∷ os) [] h = tt
combine_from (g ∷ aggs) (o ∷ os) (n ∷ ns) h = (combines_one g o n (λ e. h zero (ap Some e)), combine_from aggs os ns (λ c p. h (suc c) p))

sum_abs : (o n : ℤ) → nat_abs (o +ℤ n) ≤ nat_abs o + nat_abs n
sum_abs (pos a) (pos b) = omega arith
sum_abs (pos a) (negsuc b) = grind (arith, ints)
sum_abs (negsuc a) (pos b) = grind (arith, ints)
sum_abs (negsuc a) (negsuc b) = omega arith

combined_abs : (aggs : List Agg) (os ns : List ℤ) (c : ℕ) → slice_get aggs c ≡ Some Sum → length os ≡ length aggs → length ns ≡ length aggs
    → nat_abs (get_or (row_combined aggs os ns) c (pos 0)) ≤ nat_abs (get_or os c (pos 0)) + nat_abs (get_or ns c (pos 0))
combined_abs [] os ns c p a b = omega arith
combined_abs (g ∷ aggs) [] ns c p a b = absurd (omega arith)
combined_abs (g ∷ aggs) (o ∷ os) [] c p a b = absurd (omega arith)
combined_abs (g ∷ aggs) (o ∷ os) (n ∷ ns) zero p a b =
    let sum : g ≡ Sum = cc p in
    rw sum (sum_abs o n)
combined_abs (g ∷ aggs) (o ∷ os) (n ∷ ns) (suc c) p a b = combined_abs aggs os ns c p (omega arith) (omega arith)

length_combined : (aggs : List Agg) (os ns : List ℤ) → length os ≡ length aggs → length ns ≡ length aggs → length (row_combined aggs os ns) ≡ length aggs
length_combined [] os ns a b = refl
length_combined (g ∷ aggs) [] ns a b = absurd (omega arith)
length_combined (g ∷ aggs) (o ∷ os) [] a b = absurd (omega arith)
length_combined (g ∷ aggs) (o ∷ os) (n ∷ ns) a b = ap suc (length_combined aggs os ns (omega arith) (omega arith))

-- ---- a column's absolute values

abbrev pub abs_at : ℕ → Row → ℕ
abs_at c row = nat_abs (get_or row.values c (pos 0))

pub total_next : (c : ℕ) (row : Row) (rows : List Row) → abs_total c (row ∷ rows) ≡ abs_at c row + abs_total c rows
total_next c row rows = sum_by-append (abs_at c) (row ∷ []) rows ∙ ap (λ n. n + abs_total c rows) (zero-add (abs_at c row))

full : (s : Columns) (row : Row) → IsRowOf s row → length row.values ≡ length (aggs_of s)
full s row h = h.values ∙ sym (length-map s.values (λ (c : ValueColumn). c.agg))

-- the sum so far is at most the absolute values so far
all_abs : (s : Columns) (first : List ℤ) (rest : List Row) (c : ℕ) → slice_get (aggs_of s) c ≡ Some Sum → length first ≡ length (aggs_of s) → AreRowsOf s rest
    → nat_abs (get_or (combined_from (aggs_of s) first (map values_of rest)) c (pos 0)) ≤ nat_abs (get_or first c (pos 0)) + abs_total c rest
all_abs s first [] c p a h = omega arith
all_abs s first (x ∷ rest) c p a h =
    let b = full s x h.0 in
    omega (arith, total_next c x rest, combined_abs (aggs_of s) first x.values c p a b, all_abs s (row_combined (aggs_of s) first x.values) rest c p (length_combined (aggs_of s) first x.values a b) h.1)

noted_abs : (aggs : List Agg) (vs : List ℤ) (c : ℕ) → slice_get aggs c ≡ Some Sum → nat_abs (get_or (all_noted aggs vs) c (pos 0)) ≤ nat_abs (get_or vs c (pos 0))
noted_abs [] vs c p = absurd cc
noted_abs (g ∷ aggs) [] c p = omega arith
noted_abs (g ∷ aggs) (v ∷ vs) zero p =
    let sum : g ≡ Sum = cc p in
    rw sum (omega arith)
noted_abs (g ∷ aggs) (v ∷ vs) (suc c) p = noted_abs aggs vs c p

-- a sum column's aggregate is at most its absolute values, added up
pub aggregates_abs : (s : Columns) (rows : List Row) (c : ℕ) → slice_get (aggs_of s) c ≡ Some Sum → AreRowsOf s rows → nat_abs (get_or (aggregates (aggs_of s) rows) c (pos 0)) ≤ abs_total c rows
aggregates_abs s [] c p h = omega (arith, noted_abs (aggs_of s) [] c p)
aggregates_abs s (x ∷ rows) c p h =
    omega (arith, noted_abs (aggs_of s) (combined_from (aggs_of s) x.values (map values_of rows)) c p, all_abs s x.values rows c p (full s x h.0) h.1, total_next c x rows)
