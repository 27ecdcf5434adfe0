-- Tables, one after another, with their rows of a batch.
use Rattle.std.proofs.Common.{◌≡◌, ◌<◌, ◌+◌, ℕ, List, [], drop, length, true, false, Ok, Err, Result, None, Some, sym, ◌∙◌, ap, subst, arith}
use Rattle.std.specs.Prelude.{◌==◌, Option, slice_get}
use Rattle.std.specs.List.{AllByRecursion}
use Rattle.std.proofs.lemmas.Bool.{eqb-true}
use Rattle.std.proofs.lemmas.Bool.Decides.{nat_tests}
use Rattle.std.proofs.lemmas.List.{length-map, nil_from_length}
use Rattle.mesa_list.specs.Checks.{◌>>◌}
use Rattle.mesa_answer.specs.mesa_columns.declared.rows.Row.{Row}
use Rattle.mesa_answer.specs.mesa_columns.Columns.{Columns, aggs_of}
use Rattle.mesa_schema.specs.Changes.{columns_of}
use Rattle.mesa_batch.specs.Batch.{Placed, rows_for}
use Rattle.mesa_batch.specs.Gathered.{Batched, columns_for, rows_at}
use Rattle.mesa_batch.specs.Glance.{Known}
use Rattle.mesa_batch.specs.Totals.{abs_total, abs_totals, capped, over_bound, sum_bound, sum_name, sum_places, totals_with}
use Rattle.mesa_model.specs.declared.replies.Refusal.{Refusal}
use Rattle.mesa_model.specs.declared.replies.Refusal.TheVariants as no
use Rattle.mesa_model.specs.Load.{bound_checked, bounds_checked}
use Rattle.mesa_model.specs.Warehouse.{Table}
use Rattle.mesa_binding.specs.declared.failure.Failure.{Failure}
use Rattle.mesa_binding.specs.declared.failure.Failure.TheVariants.{Memory, Refused}
use Rattle.mesa_oracle_tables.specs.Kept.{nowhere, table_in, tables_in, totals_in}
use Rattle.mesa_oracle_tables.specs.Grown.{HasRows, with_totals}
use Rattle.mesa_oracle_tables.specs.Sound.{HasTotals}
use Rattle.mesa_binding.specs.Told.{IsDue}
use Rattle.mesa_oracle_tables.proofs.Bounds.{over-capped, with_nothing, within_bound}
use Rattle.mesa_oracle_tables.proofs.Items.{drop_from}

-- the check of a table's bound, by its first total over it
abbrev bound_by : Table → Option ℕ → Result (Unit {0}) Refusal
bound_by t over = elim over [ None ↦ Ok tt | Some place ↦ Err (no.SumBound t.name (sum_name (columns_of t.lineage) place)) ]

pub bound_over : (t : Table) (rows : List Row) (place : ℕ) → over_bound t.totals (abs_totals (columns_of t.lineage) rows) ≡ Some place → bound_checked t rows ≡ Err (no.SumBound t.name (sum_name (columns_of t.lineage) place))
bound_over t rows place e = ap (bound_by t) e

pub bound_none : (t : Table) (rows : List Row) → over_bound t.totals (abs_totals (columns_of t.lineage) rows) ≡ None → bound_checked t rows ≡ Ok tt
bound_none t rows e = ap (bound_by t) e

-- the rows of a load are those of its batch
bound_same : (t : Table) (rows others : List Row) → abs_totals (columns_of t.lineage) rows ≡ abs_totals (columns_of t.lineage) others → bound_checked t rows ≡ bound_checked t others
bound_same t rows others e = ap (λ more. bound_by t (over_bound t.totals more)) e

-- the first refusal among the tables from this one on is the first of all
abbrev pub IsDueFrom : List Known → List (List ℕ) → Batched → ℕ → Type 0
IsDueFrom tables totals batch i = (placed : List Placed) → HasRows placed batch → bounds_checked placed i (tables_in nowhere i totals [] (drop i tables)) ≡ bounds_checked placed 0 (tables_in nowhere 0 totals [] tables)

pub due_next : (tables : List Known) (totals : List (List ℕ)) (batch : Batched) (i : ℕ) (k : Known) → slice_get tables i ≡ Some k → over_bound (totals_in i totals) (abs_totals (columns_of k.lineage) (rows_at i batch)) ≡ None → IsDueFrom tables totals batch i → IsDueFrom tables totals batch (i + 1)
due_next tables totals batch i k there none before placed has =
    let t = table_in nowhere i totals [] k in
    let passes : bound_checked t (rows_for i placed) ≡ Ok tt = bound_same t (rows_for i placed) (rows_at i batch) (sym (has.totals i (columns_of k.lineage))) ∙ bound_none t (rows_at i batch) none in
    let rest : Result (Unit {0}) Refusal = bounds_checked placed (i + 1) (tables_in nowhere (i + 1) totals [] (drop (i + 1) tables)) in
    sym (ap (λ ks. bounds_checked placed i (tables_in nowhere i totals [] ks)) (drop_from tables i k there) ∙ ap (λ r. r >> rest) passes) ∙ before placed has

first_due : (failure : Failure) (first rest all : Result (Unit {0}) Refusal) → IsDue first failure → (first >> rest) ≡ all → IsDue all failure
first_due Memory first rest all due e = tt
first_due (Refused r) first rest all due e = sym e ∙ ap (λ x. x >> rest) due

pub due_here : (tables : List Known) (totals : List (List ℕ)) (batch : Batched) (i : ℕ) (k : Known) (own : List ℕ) (failure : Failure) → slice_get tables i ≡ Some k → totals_in i totals ≡ own → IsDue (bound_checked (with_totals k own) (rows_at i batch)) failure → IsDueFrom tables totals batch i
    → (placed : List Placed) → HasRows placed batch → IsDue (bounds_checked placed 0 (tables_in nowhere 0 totals [] tables)) failure
due_here tables totals batch i k own failure there is due before placed has =
    let rest : Result (Unit {0}) Refusal = bounds_checked placed (i + 1) (tables_in nowhere (i + 1) totals [] (drop (i + 1) tables)) in
    let here : bound_checked (table_in nowhere i totals [] k) (rows_for i placed) ≡ bound_checked (with_totals k own) (rows_at i batch) =
    bound_same (table_in nowhere i totals [] k) (rows_for i placed) (rows_at i batch) (sym (has.totals i (columns_of k.lineage))) ∙ ap (λ ts. bound_checked (with_totals k ts) (rows_at i batch)) is in
    first_due failure (bound_checked (with_totals k own) (rows_at i batch)) rest _ due
    (ap (λ r. r >> rest) (sym here) ∙ sym (ap (λ ks. bounds_checked placed i (tables_in nowhere i totals [] ks)) (drop_from tables i k there)) ∙ before placed has)

-- ---- a table's rows of a batch

-- no rows, or some, by their number
pub counted_none : (rows : List Row) (n : ℕ) → n ≡ length rows → n ≡ 0 → true ≡ (length rows == 0)
counted_none rows n e none = grind (arith, nat_tests)

pub counted_some : (rows : List Row) (n : ℕ) → n ≡ length rows → (n ≡ 0 → ⊥) → false ≡ (length rows == 0)
counted_some rows n e some = grind (arith, nat_tests)

pub is_nil : (shown rows : List Row) → shown ≡ rows → true ≡ (length shown == 0) → rows ≡ []
is_nil shown rows e t = sym e ∙ nil_from_length shown (eqb-true (length shown) 0 (sym t))

pub not_nil : (shown rows : List Row) → shown ≡ rows → false ≡ (length shown == 0) → rows ≡ [] → ⊥
not_nil shown rows e t none = let no : false ≡ true = t ∙ ap (λ (xs : List Row). length xs == 0) (e ∙ none) in cc

pub no_more : (s : Columns) (totals : List ℕ) (rows : List Row) → HasTotals s totals → rows ≡ [] → totals_with totals (abs_totals s rows) ≡ totals
no_more s totals rows has none = ap (λ rs. totals_with totals (abs_totals s rs)) none ∙ with_nothing (sum_places 0 (aggs_of s)) totals has.count

pub no_more-bound : (s : Columns) (totals : List ℕ) (rows : List Row) → HasTotals s totals → rows ≡ [] → over_bound totals (abs_totals s rows) ≡ None
no_more-bound s totals rows has none = within_bound totals (abs_totals s rows) (subst (AllByRecursion (λ total. total < sum_bound)) (sym (no_more s totals rows has none)) has.bound)

pub as_many : (s : Columns) (totals : List ℕ) (rows : List Row) → HasTotals s totals → length totals ≡ length (abs_totals s rows)
as_many s totals rows has = has.count ∙ sym (length-map (sum_places 0 (aggs_of s)) (λ column. abs_total column rows))

pub more_is : (s : Columns) (b : Batched) (number : ℕ) (shown : List Row) (more : List ℕ) → shown ≡ rows_at number b → false ≡ (length shown == 0) → ((rows_at number b ≡ [] → ⊥) → columns_for number b ≡ s)
    → more ≡ capped (abs_totals (columns_for number b) (rows_at number b)) → more ≡ capped (abs_totals s (rows_at number b))
more_is s b number shown more e t columns is = is ∙ ap (λ cs. capped (abs_totals cs (rows_at number b))) (columns (not_nil shown (rows_at number b) e t))

pub over_is : (totals more whole : List ℕ) (over : Option ℕ) → over ≡ over_bound totals more → more ≡ capped whole → over_bound totals whole ≡ over
over_is totals more whole over e is = sym (e ∙ ap (over_bound totals) is ∙ over-capped totals whole)
