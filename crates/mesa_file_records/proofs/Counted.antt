-- The totals of a rewritten range: one for each sum column, each within its bound.
use Rattle.std.proofs.Common.{◌≡◌, ℕ, ◌<◌, ◌≤◌, List, [], ◌∷◌, length, true, ◌∙◌, ap, arith, refl}
use Rattle.std.specs.Prelude.{◌==◌, nat_lt}
use Rattle.std.specs.List.{AllByRecursion, list_all}
use Rattle.std.proofs.lemmas.Bool.{and_parts, eq-eqb, eqb-true}
use Rattle.std.proofs.lemmas.Bool.Decides.{nat_tests}
use Rattle.std.proofs.lemmas.List.{length-map}
use Rattle.mesa_columns.specs.declared.columns.ValueColumn.{ValueColumn}
use Rattle.mesa_columns.specs.declared.rows.Row.{Row}
use Rattle.mesa_columns.specs.Columns.{Columns, aggs_of}
use Rattle.mesa_columns.specs.Schema.{is_schema}
use Rattle.mesa_engine.specs.mesa_store_spec.Fitting.{totals_fit}
use Rattle.mesa_batch.specs.Totals.{abs_total, abs_totals, sum_bound, sum_places, sums_in}
use Rattle.mesa_batch.proofs.FewTotals.{few_sums}
use Rattle.mesa_file_records.proofs.Keeping.{all_true, few_columns}

pub less : (n k : ℕ) → n < k → nat_lt n k ≡ true
less n k lt = grind (arith, nat_tests)

all_less : (totals : List ℕ) → AllByRecursion (λ total. total < sum_bound) totals → list_all (λ total. nat_lt total sum_bound) totals ≡ true
all_less [] all = refl
all_less (t ∷ totals) all = all_true (less t sum_bound all.0) (all_less totals all.1)

-- Totals of rows that are within their bound fit the rows' columns.
pub of_rows_fit : (s : Columns) (rows : List Row) (totals : List ℕ) → totals ≡ abs_totals s rows → AllByRecursion (λ total. total < sum_bound) totals → totals_fit s totals ≡ true
of_rows_fit s rows totals are small = all_true (eq-eqb (length totals) (sums_in (aggs_of s)) (ap length are ∙ length-map (sum_places 0 (aggs_of s)) (λ column. abs_total column rows))) (all_less totals small)

-- There aren't more of them than columns.
pub few_totals : (s : Columns) (totals : List ℕ) → is_schema s ≡ true → totals_fit s totals ≡ true → length totals ≤ 16
few_totals s totals schema fit =
    let parts = and_parts (length totals == sums_in (aggs_of s)) (list_all (λ total. nat_lt total sum_bound) totals) fit in
    let count = eqb-true (length totals) (sums_in (aggs_of s)) parts.0 in
    let few = few_columns s schema in
    omega (arith, count, few_sums 0 (aggs_of s), length-map s.values (λ (v : ValueColumn). v.agg), few.values)
