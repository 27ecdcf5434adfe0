-- The sums of rows that are filtered and grouped keep their bound.
use Rattle.std.proofs.Common.{◌≡◌, ◌<◌, ◌≤◌, ◌+◌, ℕ, zero, suc, List, [], ◌∷◌, ◌++◌, length, map, take, get_or, true, false, Bool, cond, refl, sym, ◌∙◌, ap, subst, arith, zero-add, Option, Some, None}
use Rattle.std.specs.Prelude.{pos, nat_abs, nat_lt, filter, slice_get, sum_by}
use Rattle.std.specs.List.{list_all}
use Rattle.std.proofs.lemmas.List.{append-nil, length-map, map-append}
use Rattle.std.proofs.lemmas.List.Sums.{sum_by-append, sum_by-cons}
use Rattle.mesa_value.specs.declared.Agg.{Agg}
use Rattle.mesa_value.specs.declared.Agg.TheVariants.{Sum}
use Rattle.mesa_model.specs.mesa_columns.declared.rows.Row.{Row}
use Rattle.mesa_model.specs.mesa_columns.declared.columns.ValueColumn.{ValueColumn}
use Rattle.mesa_model.specs.mesa_columns.Columns.{Columns, aggs_of, chosen}
use Rattle.mesa_model.specs.mesa_fold.Folded.{folded, grouped, regrouped}
use Rattle.mesa_model.specs.mesa_fold.Laws.{AreFull}
use Rattle.mesa_model.specs.mesa_columns.Rows.{AreRowsOf}
use Rattle.mesa_batch.specs.Totals.{abs_total, sum_bound}
use Rattle.mesa_batch.specs.Bound.{KeepsBound}
use Rattle.mesa_batch.proofs.Merged.{folds_totals}
use Rattle.mesa_filter.specs.Query.{are_places}
use Rattle.mesa_answer.specs.Answering.{KeepsSums, grouped_columns}
use Rattle.mesa_answer.specs.Gathering.{Wanted, first_groups, rows_behind}
use Rattle.mesa_answer.specs.Held.{is_behind}
use Rattle.mesa_answer.proofs.Picked.{From, chosen-map, length-chosen, picked}

-- ---- fewer rows

pub fewer : (weigh : Row → ℕ) (test : Row → Bool) (rows : List Row) → sum_by weigh (filter test rows) ≤ sum_by weigh rows
fewer weigh test [] = omega arith
fewer weigh test (row ∷ rows) =
    let rest = fewer weigh test rows in
    elim (test row) as (λ t. sum_by weigh (cond t (row ∷ filter test rows) (filter test rows)) ≤ sum_by weigh (row ∷ rows)) [
      | true ↦ omega (arith, rest, sum_by-cons weigh row rows, sum_by-cons weigh row (filter test rows))
      | false ↦ omega (arith, rest, sum_by-cons weigh row rows)
    ]

fewer_after : (weigh : Row → ℕ) (closed : Bool) (resume : Option (List ℕ)) (rows : List Row) → sum_by weigh (rows_behind closed resume rows) ≤ sum_by weigh rows
fewer_after weigh closed None rows = omega arith
fewer_after weigh closed (Some key) rows = fewer weigh (λ (row : Row). is_behind closed (Some key) row.key) rows

fewer_taken : (weigh : Row → ℕ) (n : ℕ) (rows : List Row) → sum_by weigh (take n rows) ≤ sum_by weigh rows
fewer_taken weigh zero rows = omega arith
fewer_taken weigh (suc n) [] = omega arith
fewer_taken weigh (suc n) (row ∷ rows) = omega (arith, fewer_taken weigh n rows, sum_by-cons weigh row rows, sum_by-cons weigh row (take n rows))

-- ---- chosen values

pub full_regrouped : (s : Columns) (columns values : List ℕ) (rows : List Row) → AreRowsOf s rows → AreFull (chosen values (aggs_of s)) (map (regrouped s columns values) rows)
full_regrouped s columns values [] all = tt
full_regrouped s columns values (row ∷ rows) all =
    (length-chosen values row.values (aggs_of s) (all.0.values ∙ sym (length-map s.values (λ (c : ValueColumn). c.agg))), full_regrouped s columns values rows all.1)

total_regrouped : (s : Columns) (columns values : List ℕ) (c : ℕ) (y : Agg) (from : From values (aggs_of s) c y) (rows : List Row) → AreRowsOf s rows
    → abs_total c (map (regrouped s columns values) rows) ≡ abs_total from.place rows
total_regrouped s columns values c y from [] all = refl
total_regrouped s columns values c y from (row ∷ rows) all =
    let weigh : Row → ℕ = λ (r : Row). nat_abs (get_or r.values c (pos 0)) in
    let other : Row → ℕ = λ (r : Row). nat_abs (get_or r.values from.place (pos 0)) in
    let here : weigh (regrouped s columns values row) ≡ other row = ap nat_abs (from.same row.values (all.0.values ∙ sym (length-map s.values (λ (k : ValueColumn). k.agg)))) in
    let rest : sum_by weigh (map (regrouped s columns values) rows) ≡ sum_by other rows = total_regrouped s columns values c y from rows all.1 in
    sum_by-cons weigh (regrouped s columns values row) (map (regrouped s columns values) rows) ∙ (λ i. here i + rest i) ∙ sym (sum_by-cons other row rows)

pub bound_regrouped : (s : Columns) (columns values : List ℕ) (rows : List Row) → are_places (aggs_of s) values ≡ true → AreRowsOf s rows → KeepsSums s rows
    → KeepsBound (chosen values (aggs_of s)) [] (map (regrouped s columns values) rows)
bound_regrouped s columns values rows there all keeps c p =
    let from = picked values (aggs_of s) c Sum there p in
    subst (λ n. 0 + n < sum_bound) (sym (total_regrouped s columns values c Sum from rows all)) (subst (λ n. n < sum_bound) (sym (zero-add (abs_total from.place rows))) (keeps from.place from.there))

places_of_aggs : (s : Columns) (values : List ℕ) → are_places s.values values ≡ true → are_places (aggs_of s) values ≡ true
places_of_aggs s values h = ap (λ n. list_all (λ place. nat_lt place n) values) (length-map s.values (λ (c : ValueColumn). c.agg)) ∙ h

-- the absolute totals of groups are at most those of their rows
total_grouped : (s : Columns) (columns values : List ℕ) (rows : List Row) (c : ℕ) → slice_get (chosen values (aggs_of s)) c ≡ Some Sum → AreRowsOf s rows
    → abs_total c (grouped s columns values rows) ≤ abs_total c (map (regrouped s columns values) rows)
total_grouped s columns values rows c p all =
    let f : Row → Row = regrouped s columns values in
    let aggs : List Agg = chosen values (aggs_of s) in
    let one : map f rows ++ [] ≡ map f rows = append-nil (map f rows) in
    subst (λ (xs : List Row). abs_total c (folded aggs (map f rows ∷ [])) ≤ abs_total c xs) one
    (folds_totals aggs (map f rows ∷ []) c p (subst (AreFull aggs) (sym one) (full_regrouped s columns values rows all)))

-- So the sums of groups keep the bound that their rows keep.
pub sums_grouped : (s : Columns) (columns values : List ℕ) (rows : List Row) → are_places s.values values ≡ true → AreRowsOf s rows → KeepsSums s rows → KeepsSums (grouped_columns s columns values) (grouped s columns values rows)
sums_grouped s columns values rows there all keeps c p =
    let q : slice_get (chosen values (aggs_of s)) c ≡ Some Sum = subst (λ aggs. slice_get aggs c ≡ Some Sum) (chosen-map (λ (k : ValueColumn). k.agg) values s.values) p in
    omega (arith, bound_regrouped s columns values rows (places_of_aggs s values there) all keeps c q, total_grouped s columns values rows c q all)

-- The first groups and one row more keep the bound that all rows keep.
pub first_bound : (w : Wanted) (rows : List Row) (row : Row) → are_places w.schema.values w.values ≡ true → AreRowsOf w.schema (rows ++ row ∷ []) → AreRowsOf w.schema rows → KeepsSums w.schema (rows ++ row ∷ [])
    → KeepsBound (chosen w.values (aggs_of w.schema)) (first_groups w rows) (regrouped w.schema w.columns w.values row ∷ [])
first_bound w rows row there form part keeps c p =
    let f : Row → Row = regrouped w.schema w.columns w.values in
    let weigh : Row → ℕ = λ (r : Row). nat_abs (get_or r.values c (pos 0)) in
    let groups : List Row = grouped w.schema w.columns w.values rows in
    let all : 0 + sum_by weigh (map f (rows ++ row ∷ [])) < sum_bound = bound_regrouped w.schema w.columns w.values (rows ++ row ∷ []) (places_of_aggs w.schema w.values there) form keeps c p in
    let parts : sum_by weigh (map f (rows ++ row ∷ [])) ≡ sum_by weigh (map f rows) + sum_by weigh (f row ∷ []) = ap (sum_by weigh) (map-append f rows (row ∷ [])) ∙ sum_by-append weigh (map f rows) (f row ∷ []) in
    let put : sum_by weigh groups ≤ sum_by weigh (map f rows) = total_grouped w.schema w.columns w.values rows c p part in
    omega (arith, all, parts, put, fewer_after weigh w.inclusive w.resume groups, fewer_taken weigh w.most (rows_behind w.inclusive w.resume groups))

-- ---- rows of a list, put in one by one

front : (weigh : Row → ℕ) (i : ℕ) (rows : List Row) (row : Row) → i < length rows → row ≡ get_or rows i row → sum_by weigh (take i rows) + weigh row ≤ sum_by weigh rows
front weigh i [] row lt is = absurd (omega arith)
front weigh zero (x ∷ xs) row lt is = subst (λ r. 0 + weigh r ≤ sum_by weigh (x ∷ xs)) (sym is) (omega (arith, sum_by-cons weigh x xs))
front weigh (suc i) (x ∷ xs) row lt is = omega (arith, front weigh i xs row (omega arith) is, sum_by-cons weigh x xs, sum_by-cons weigh x (take i xs))

-- What keeps the sums of a list keeps those of its first rows, all or those that pass a test.
pub sums_filtered : (s : Columns) (test : Row → Bool) (i : ℕ) (rows : List Row) (row : Row) → i < length rows → row ≡ get_or rows i row → KeepsSums s rows → KeepsSums s (filter test (take i rows) ++ row ∷ [])
sums_filtered s test i rows row lt is keeps c p =
    let weigh : Row → ℕ = λ (r : Row). nat_abs (get_or r.values c (pos 0)) in
    let all : sum_by weigh rows < sum_bound = keeps c p in
    let one : sum_by weigh (filter test (take i rows) ++ row ∷ []) ≡ sum_by weigh (filter test (take i rows)) + sum_by weigh (row ∷ []) = sum_by-append weigh (filter test (take i rows)) (row ∷ []) in
    omega (arith, all, one, sum_by-cons weigh row [], front weigh i rows row lt is, fewer weigh test (take i rows))

pub sums_taken : (s : Columns) (i : ℕ) (rows : List Row) (row : Row) → i < length rows → row ≡ get_or rows i row → KeepsSums s rows → KeepsSums s (take i rows ++ row ∷ [])
sums_taken s i rows row lt is keeps c p =
    let weigh : Row → ℕ = λ (r : Row). nat_abs (get_or r.values c (pos 0)) in
    let all : sum_by weigh rows < sum_bound = keeps c p in
    let one : sum_by weigh (take i rows ++ row ∷ []) ≡ sum_by weigh (take i rows) + sum_by weigh (row ∷ []) = sum_by-append weigh (take i rows) (row ∷ []) in
    omega (arith, all, one, sum_by-cons weigh row [], front weigh i rows row lt is)
