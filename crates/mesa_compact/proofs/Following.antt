-- Sums of a file's rows that keep their bound.
use Rattle.std.proofs.Common.{◌≡◌, ℕ, ◌+◌, ◌<◌, List, [], ◌∷◌, ◌++◌, map, get_or, refl, arith, true}
use Rattle.std.specs.List.{AllByRecursion}
use Rattle.std.specs.Prelude.{Option, Some, slice_get}
use Rattle.std.proofs.lemmas.Bool.{and_parts}
use Rattle.std.proofs.lemmas.List.Sums.{sum_by-append}
use Rattle.std.specs.Ordering.{is_lt}
use Rattle.std.specs.declared.cmp.Ordering.{Ordering}
use Rattle.std.specs.declared.cmp.Ordering.TheVariants.{Less, Equal, Greater}
use Rattle.mesa_view.specs.mesa_key.Order.{byte_cmp}
use Rattle.mesa_open_files.specs.mesa_value.declared.Agg.TheVariants.{Sum}
use Rattle.mesa_open_files.specs.mesa_columns.declared.rows.Row.{Row}
use Rattle.mesa_open_files.specs.mesa_columns.Columns.{Columns, aggs_of}
use Rattle.mesa_open_files.specs.mesa_fold.Folded.{folded, rows_of}
use Rattle.mesa_open_files.specs.mesa_columns.Rows.{AreRowsOf, keys_rise}
use Rattle.mesa_batch.specs.Totals.{abs_total, sum_bound}
use Rattle.mesa_batch.specs.Bound.{FoldsTotals, KeepsBound}
use Rattle.mesa_open_files.specs.mesa_block.Rows.{IsRow, Rise}
use Rattle.mesa_open_files.specs.mesa_block.Spelling.{key_of}
use Rattle.mesa_open_files.specs.mesa_delta_format.Summary.{aggregates, new_layout, AllCombine}
use Rattle.mesa_open_files.proofs.RowSums.{abs_at, aggregates_abs, combine_from, total_next}
use Rattle.mesa_merge.proofs.Bounds.{abs_fronts, full_all}
use Rattle.mesa_merge.proofs.Combining.{aggs_count}
use Rattle.mesa_merge.proofs.Ending.{AreFronts}

total_append : (c : ℕ) (xs ys : List Row) → abs_total c (xs ++ ys) ≡ abs_total c xs + abs_total c ys
total_append c xs ys = sum_by-append (abs_at c) xs ys

-- a row more keeps the sums where all rows keep the bound
pub sums_follow : (s : Columns) (rows : List Row) (row : Row) → AreRowsOf s rows → ((c : ℕ) → slice_get (aggs_of s) c ≡ Some Sum → abs_total c (rows ++ row ∷ []) < sum_bound) → AllCombine (aggs_of s) (aggregates (aggs_of s) rows) row.values
sums_follow s rows row form bound = combine_from (aggs_of s) _ _ (λ c p. omega (arith, bound c p, total_append c rows (row ∷ []), total_next c row [], aggregates_abs s rows c p form))

-- rows that stand in a file have its form
pub taken_form : (s : Columns) (rows : List Row) → AllByRecursion (IsRow (new_layout s)) rows → AreRowsOf s rows
taken_form s [] all = tt
taken_form s (row ∷ rows) all = (all.0.form, taken_form s rows all.1)

is_less : (o : Ordering) → is_lt o ≡ true → o ≡ Less
is_less Less e = refl
is_less Equal e = cc
is_less Greater e = cc

-- keys that rise, as a file has them
pub rises : (rows : List Row) → keys_rise rows ≡ true → Rise (map key_of rows)
rises [] r = tt
rises (row ∷ []) r = tt
rises (row ∷ next ∷ rows) r = let parts = and_parts (is_lt (byte_cmp row.key next.key)) _ r in (is_less _ parts.0, rises (next ∷ rows) parts.1)

-- the fold of what was given keeps the bound that the inputs keep
pub folded_bound : FoldsTotals → (s : Columns) (low : Option (List ℕ)) (givens parts : List (List Row)) → ((j : ℕ) → AreRowsOf s (get_or givens j [])) → AreFronts low givens parts → KeepsBound (aggs_of s) [] (rows_of parts)
    → (c : ℕ) → slice_get (aggs_of s) c ≡ Some Sum → abs_total c (folded (aggs_of s) givens) < sum_bound
folded_bound law s low givens parts formed fronts bound c p =
    omega (arith, law (aggs_of s) givens c p (full_all s givens formed (aggs_count s)), abs_fronts c low givens parts fronts, bound c p)
