-- Sums that stay in their type.
use Rattle.std.proofs.Common.{◌≡◌, ℕ, zero, suc, ◌+◌, ◌<◌, ◌≤◌, List, [], ◌∷◌, ◌++◌, refl, sym, ◌∙◌, ap, subst, length, get_or, set, arith, length-append}
use Rattle.std.proofs.lemmas.List.Sums.{sum_by-append}
use Rattle.std.specs.Prelude.{pos, nat_abs, Option, None, Some, slice_get, Bool, true, false, cond, filter}
use Rattle.mesa_value.specs.declared.Agg.{Agg}
use Rattle.mesa_value.specs.declared.Agg.TheVariants.{Sum}
use Rattle.mesa_scan.specs.mesa_columns.declared.rows.Row.{Row}
use Rattle.mesa_scan.specs.mesa_columns.Columns.{Columns, aggs_of}
use Rattle.mesa_scan.specs.mesa_fold.Folded.{AllCombine, folded, rows_of}
use Rattle.mesa_scan.specs.mesa_fold.Laws.{AreFull}
use Rattle.mesa_scan.specs.mesa_columns.Rows.{AreRowsOf}
use Rattle.mesa_batch.specs.Totals.{abs_total, sum_bound}
use Rattle.mesa_scan.specs.Cut.{cut, lies_in}
use Rattle.mesa_batch.specs.Bound.{FoldsTotals, KeepsBound}
use Rattle.mesa_batch.proofs.Sums.{AllCombine-at}
use Rattle.mesa_merge.proofs.Ending.{AreFronts}

abs_at : ℕ → Row → ℕ
abs_at c row = nat_abs (get_or row.values c (pos 0))

abs_append : (c : ℕ) (xs ys : List Row) → abs_total c (xs ++ ys) ≡ abs_total c xs + abs_total c ys
abs_append c xs ys = sum_by-append (λ (row : Row). nat_abs (get_or row.values c (pos 0))) xs ys

-- a part gets a row more
abs_set : (c : ℕ) (gs : List (List Row)) (i : ℕ) (row : Row) → i < length gs → abs_total c (rows_of (set gs i (get_or gs i [] ++ row ∷ []))) ≡ abs_total c (rows_of gs) + abs_total c (row ∷ [])
abs_set c [] i row lt = absurd (omega (arith, lt))
abs_set c (g ∷ gs) zero row lt = omega (arith, abs_append c (g ++ row ∷ []) (rows_of gs), abs_append c g (row ∷ []), abs_append c g (rows_of gs))
abs_set c (g ∷ gs) (suc i) row lt = omega (arith, abs_append c g (rows_of (set gs i (get_or gs i [] ++ row ∷ []))), abs_append c g (rows_of gs), abs_set c gs i row (omega (arith, lt)))

-- rows that a test passes have at most as much
abs_filter : (c : ℕ) (p : Row → Bool) (rows : List Row) → abs_total c (filter p rows) ≤ abs_total c rows
abs_filter c p [] = omega arith
abs_filter c p (x ∷ xs) = elim (p x) as (λ b. abs_total c (cond b (x ∷ filter p xs) (filter p xs)) ≤ abs_total c (x ∷ xs)) [
  | true ↦ omega (arith, abs_append c (x ∷ []) (filter p xs), abs_append c (x ∷ []) xs, abs_filter c p xs)
  | false ↦ omega (arith, abs_append c (x ∷ []) xs, abs_filter c p xs)
]

-- and so have fronts of those from a key on
pub abs_fronts : (c : ℕ) (low : Option (List ℕ)) (gs parts : List (List Row)) → AreFronts low gs parts → abs_total c (rows_of gs) ≤ abs_total c (rows_of parts)
abs_fronts c low [] parts fronts = omega arith
abs_fronts c low (g ∷ gs) [] fronts = absurd fronts
abs_fronts c low (g ∷ gs) (part ∷ parts) fronts =
    let one : abs_total c (cut low None part) ≡ abs_total c g + abs_total c fronts.0.0 = ap (abs_total c) fronts.0.1 ∙ abs_append c g fronts.0.0 in
    let less : abs_total c (cut low None part) ≤ abs_total c part = abs_filter c (λ (row : Row). lies_in low None row.key) part in
    omega (arith, one, less, abs_append c g (rows_of gs), abs_append c part (rows_of parts), abs_fronts c low gs parts fronts.1)

-- ---- rows that have a value for each column

full_rows : (s : Columns) (rows : List Row) → AreRowsOf s rows → length (aggs_of s) ≡ length s.values → AreFull (aggs_of s) rows
full_rows s [] all e = tt
full_rows s (row ∷ rows) all e = (all.0.values ∙ sym e, full_rows s rows all.1 e)

full_append : (aggs : List Agg) (xs ys : List Row) → AreFull aggs xs → AreFull aggs ys → AreFull aggs (xs ++ ys)
full_append aggs [] ys p q = q
full_append aggs (x ∷ xs) ys p q = (p.0, full_append aggs xs ys p.1 q)

pub full_all : (s : Columns) (gs : List (List Row)) → ((j : ℕ) → AreRowsOf s (get_or gs j [])) → length (aggs_of s) ≡ length s.values → AreFull (aggs_of s) (rows_of gs)
full_all s [] formed e = tt
full_all s (g ∷ gs) formed e = full_append (aggs_of s) g (rows_of gs) (full_rows s g (formed 0) e) (full_all s gs (λ j. formed (suc j)) e)

last_of : (front : List Row) (row : Row) → get_or (front ++ row ∷ []) (length front) row ≡ row
last_of [] row = refl
last_of (x ∷ xs) row = last_of xs row

-- where the absolute values of all rows keep the bound, a row of the fold so far and a further one have values together
pub sum_stays : FoldsTotals → (low : Option (List ℕ)) (s : Columns) (gs parts : List (List Row)) (front : List Row) (row more : Row) (i : ℕ) → length (aggs_of s) ≡ length s.values → ((j : ℕ) → AreRowsOf s (get_or gs j [])) → folded (aggs_of s) gs ≡ front ++ row ∷ []
    → i < length gs → AreFronts low (set gs i (get_or gs i [] ++ more ∷ [])) parts → KeepsBound (aggs_of s) [] (rows_of parts) → AllCombine (aggs_of s) row.values more.values
sum_stays law low s gs parts front row more i e formed is lt fronts bound =
    let count : length (front ++ row ∷ []) ≡ length front + 1 = length-append front (row ∷ []) in
    let within : length front < length (front ++ row ∷ []) = omega (arith, count) in
    let keeps : (c : ℕ) → slice_get (aggs_of s) c ≡ Some Sum → abs_total c (front ++ row ∷ []) + abs_total c (more ∷ []) < sum_bound = λ c sum.
    let less : abs_total c (front ++ row ∷ []) ≤ abs_total c (rows_of gs) = subst (λ rows. abs_total c rows ≤ abs_total c (rows_of gs)) is (law (aggs_of s) gs c sum (full_all s gs formed e)) in
    omega (arith, less, abs_set c gs i more lt, abs_fronts c low _ parts fronts, bound c sum) in
    subst (λ (r : Row). AllCombine (aggs_of s) r.values more.values) (last_of front row) (AllCombine-at (aggs_of s) (front ++ row ∷ []) more (length front) row within keeps)
