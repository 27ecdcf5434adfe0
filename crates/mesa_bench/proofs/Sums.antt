-- The sums of the rows keep their bound.
use Rattle.std.proofs.Common.{◌≡◌, ℕ, zero, suc, ◌+◌, ◌*◌, ◌%◌, ◌^◌, ◌<◌, ◌≤◌, pos, List, [], ◌∷◌, ◌++◌, get_or, sym, subst, arith, Some}
use Rattle.std.specs.Prelude.{nat_abs, slice_get, sum_by}
use Rattle.std.proofs.lemmas.List.Sums.{sum_by-append, sum_by-cons}
use Rattle.mesa_value.specs.declared.Agg.TheVariants.{Sum, Max}
use Rattle.mesa_open_files.specs.mesa_columns.declared.rows.Row.{Row}
use Rattle.mesa_open_files.specs.mesa_columns.Columns.{Columns}
use Rattle.mesa_open_files.specs.mesa_columns.Rows.{AreRowsOf, IsRowOf}
use Rattle.mesa_batch.specs.Totals.{abs_total, sum_bound}
use Rattle.mesa_answer.specs.Answering.{KeepsSums}
use Rattle.mesa_bench.specs.Made.{HasColumns, row_at}

pub all_more : (s : Columns) (rows : List Row) (row : Row) → AreRowsOf s rows → IsRowOf s row → AreRowsOf s (rows ++ row ∷ [])
all_more s [] row all own = (own, tt)
all_more s (x ∷ xs) row all own = (all.0, all_more s xs row all.1 own)

-- one row more is no more than 999 more in the sum column
pub total_more : (rows : List Row) (n k : ℕ) → abs_total 0 rows ≤ k * 999 → abs_total 0 (rows ++ row_at n ∷ []) ≤ (k + 1) * 999
total_more rows n k le =
    let weigh : Row → ℕ = λ (row : Row). nat_abs (get_or row.values 0 (pos 0)) in
    let now : sum_by weigh (rows ++ row_at n ∷ []) ≡ sum_by weigh rows + sum_by weigh (row_at n ∷ []) = sum_by-append weigh rows (row_at n ∷ []) in
    let one : sum_by weigh (row_at n ∷ []) ≡ n % 1000 + 0 = sum_by-cons weigh (row_at n) [] in
    omega (arith, now, one, le)

only_first : (c : ℕ) → slice_get (Sum ∷ Max ∷ []) c ≡ Some Sum → c ≡ 0
only_first zero e = omega arith
only_first (suc zero) e = cc
only_first (suc (suc c)) e = cc

pub keeps : (s : Columns) (rows : List Row) (n : ℕ) → HasColumns s → n < 2 ^ 32 → abs_total 0 rows ≤ n * 999 → KeepsSums s rows
keeps s rows n has few le c p =
    let first : c ≡ 0 = only_first c (subst (λ aggs. slice_get aggs c ≡ Some Sum) has.aggs p) in
    subst (λ k. abs_total k rows < sum_bound) (sym first) (omega (arith, few, le))
