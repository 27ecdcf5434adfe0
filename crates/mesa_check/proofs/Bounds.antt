-- Absolute totals of some of the rows of a table, and of all of them.
use Rattle.std.proofs.Common.{◌≡◌, ◌≤◌, ◌<◌, ℕ, zero, suc, ◌+◌, List, [], ◌∷◌, ◌++◌, map, take, drop, length, true, nat_le, nat_lt, refl, sym, ◌∙◌, ap, arith}
use Rattle.std.proofs.lemmas.Bool.Decides.{nat_tests}
use Rattle.std.proofs.lemmas.List.{length-map, map-append, take-append-drop}
use Rattle.std.specs.Prelude.{slice_get, Some}
use Rattle.std.specs.List.{AllByRecursion, list_all}
use Rattle.mesa_pick_files.specs.mesa_value.declared.Agg.{Agg}
use Rattle.mesa_pick_files.specs.mesa_value.declared.Agg.TheVariants as agg
use Rattle.mesa_pick_files.specs.mesa_columns.declared.rows.Row.{Row}
use Rattle.mesa_pick_files.specs.mesa_columns.Columns.{Columns, aggs_of}
use Rattle.mesa_pick_files.specs.mesa_columns.declared.columns.ValueColumn.{ValueColumn}
use Rattle.mesa_schema.specs.mesa_fold.Folded.{folded, rows_of}
use Rattle.mesa_schema.specs.mesa_fold.Laws.{AreFull}
use Rattle.mesa_pick_files.specs.mesa_columns.Rows.{AreRowsOf, IsRowOf}
use Rattle.mesa_pick_files.proofs.mesa_fold.Folds.{rows_of-append}
use Rattle.mesa_schema.proofs.mesa_columns.Lists.{all_so}
use Rattle.mesa_batch.proofs.Merged.{folds_totals}
use Rattle.mesa_batch.specs.Totals.{AreAtMost, abs_total, abs_totals, sum_bound, sum_places}
use Rattle.mesa_batch.proofs.Sums.{abs_total-next}
use Rattle.mesa_check.specs.Faults.{are_at_most, keep_bound}
use Rattle.mesa_check.proofs.KeyLists.{and_true, true_parts}

-- ---- totals that are at most others

is_le : (a b : ℕ) → nat_le a b ≡ true → a ≤ b
is_le a b e = grind (arith, nat_tests)

le_is : (a b : ℕ) → a ≤ b → nat_le a b ≡ true
le_is a b e = grind (arith, nat_tests)

pub at_most_is : (xs ys : List ℕ) → are_at_most xs ys ≡ true → AreAtMost xs ys
at_most_is [] [] e = tt
at_most_is [] (y ∷ ys) e = absurd cc
at_most_is (x ∷ xs) [] e = absurd cc
at_most_is (x ∷ xs) (y ∷ ys) e = let parts = true_parts (nat_le x y) (are_at_most xs ys) e in (is_le x y parts.0, at_most_is xs ys parts.1)

pub is_at_most : (xs ys : List ℕ) → AreAtMost xs ys → are_at_most xs ys ≡ true
is_at_most [] [] all = refl
is_at_most [] (y ∷ ys) all = absurd all
is_at_most (x ∷ xs) [] all = absurd all
is_at_most (x ∷ xs) (y ∷ ys) all = and_true (nat_le x y) (are_at_most xs ys) (le_is x y all.0) (is_at_most xs ys all.1)

-- the totals of no rows are at most any that are as many
pub none_at_most : (places totals : List ℕ) → length totals ≡ length places → are_at_most (map (λ c. abs_total c []) places) totals ≡ true
none_at_most [] [] e = refl
none_at_most [] (y ∷ ys) e = absurd (omega (arith, e))
none_at_most (c ∷ places) [] e = absurd (omega (arith, e))
none_at_most (c ∷ places) (y ∷ ys) e = and_true (nat_le 0 y) (are_at_most (map (λ c. abs_total c []) places) ys) (le_is 0 y (omega arith)) (none_at_most places ys (omega (arith, e)))

-- ---- some of the rows

-- in each of these columns the absolute values of rows add up to at most those of others
abbrev pub AddUpToLess : List ℕ → List Row → List Row → Type 0
AddUpToLess places rows all = AllByRecursion (λ c. abs_total c rows ≤ abs_total c all) places

total_append : (c : ℕ) (xs ys : List Row) → abs_total c (xs ++ ys) ≡ abs_total c xs + abs_total c ys
total_append c [] ys = omega arith
total_append c (x ∷ xs) ys =
    let rest = total_append c xs ys in
    let one = abs_total-next c x (xs ++ ys) in
    let two = abs_total-next c x xs in
    omega (arith, rest, one, two)

pub front_less : (places : List ℕ) (xs ys all : List Row) → all ≡ xs ++ ys → AddUpToLess places xs all
front_less [] xs ys all is = tt
front_less (c ∷ places) xs ys all is =
    let sum : abs_total c all ≡ abs_total c xs + abs_total c ys = ap (abs_total c) is ∙ total_append c xs ys in
    (omega (arith, sum), front_less places xs ys all is)

pub back_less : (places : List ℕ) (xs ys all : List Row) → all ≡ xs ++ ys → AddUpToLess places ys all
back_less [] xs ys all is = tt
back_less (c ∷ places) xs ys all is =
    let sum : abs_total c all ≡ abs_total c xs + abs_total c ys = ap (abs_total c) is ∙ total_append c xs ys in
    (omega (arith, sum), back_less places xs ys all is)

pub less_less : (places : List ℕ) (xs ys zs : List Row) → AddUpToLess places xs ys → AddUpToLess places ys zs → AddUpToLess places xs zs
less_less [] xs ys zs p q = tt
less_less (c ∷ places) xs ys zs p q = let a = p.0 in let b = q.0 in (omega (arith, a, b), less_less places xs ys zs p.1 q.1)

less_bound : (places totals : List ℕ) (rows all : List Row) → AddUpToLess places rows all → AreAtMost (map (λ c. abs_total c all) places) totals → AllByRecursion (λ total. total < sum_bound) totals
    → list_all (λ total. nat_lt total sum_bound) (map (λ c. abs_total c rows) places) ≡ true
less_bound [] totals rows all less most bounded = refl
less_bound (c ∷ places) [] rows all less most bounded = absurd most
less_bound (c ∷ places) (y ∷ ys) rows all less most bounded =
    let a = less.0 in let b = most.0 in let d = bounded.0 in
    let under : abs_total c rows < sum_bound = omega (arith, a, b, d) in
    and_true (nat_lt (abs_total c rows) sum_bound) (list_all (λ total. nat_lt total sum_bound) (map (λ k. abs_total k rows) places)) (lt_is (abs_total c rows) sum_bound under) (less_bound places ys rows all less.1 most.1 bounded.1)
  where
    lt_is : (a b : ℕ) → a < b → nat_lt a b ≡ true
    lt_is a b e = grind (arith, nat_tests)

-- Some of the rows whose absolute values are at most totals within the bound keep the bound.
pub some_keep_bound : (s : Columns) (rows all : List Row) (totals : List ℕ) → AddUpToLess (sum_places 0 (aggs_of s)) rows all → AreAtMost (abs_totals s all) totals → AllByRecursion (λ total. total < sum_bound) totals → keep_bound s rows ≡ true
some_keep_bound s rows all totals less most bounded = less_bound (sum_places 0 (aggs_of s)) totals rows all less most bounded

-- ---- folded rows

drop_next : {A : Type 0} (i : ℕ) (all : List A) (x : A) (xs : List A) → drop i all ≡ x ∷ xs → (slice_get all i ≡ Some x) × (drop (i + 1) all ≡ xs)
drop_next zero [] x xs e = absurd cc
drop_next zero (y ∷ ys) x xs e = (let same : y ≡ x = cc in ap Some same, cc)
drop_next (suc i) [] x xs e = absurd cc
drop_next (suc i) (y ∷ ys) x xs e =
    let next = drop_next i ys x xs e in
    let behind : suc i + 1 ≡ suc (i + 1) = omega arith in
    (next.0, ap (λ n. drop n (y ∷ ys)) behind ∙ next.1)

-- the places of sum columns are those
sums_at : (all : List Agg) (i : ℕ) (aggs : List Agg) → drop i all ≡ aggs → AllByRecursion (λ c. slice_get all c ≡ Some agg.Sum) (sum_places i aggs)
sums_at all i [] e = tt
sums_at all i (agg.Sum ∷ aggs) e = let next = drop_next i all agg.Sum aggs e in (next.0, sums_at all (i + 1) aggs next.1)
sums_at all i (agg.Min ∷ aggs) e = sums_at all (i + 1) aggs (drop_next i all agg.Min aggs e).1
sums_at all i (agg.Max ∷ aggs) e = sums_at all (i + 1) aggs (drop_next i all agg.Max aggs e).1
sums_at all i (agg.Replace ∷ aggs) e = sums_at all (i + 1) aggs (drop_next i all agg.Replace aggs e).1

are_full : (s : Columns) (rows : List Row) → AreRowsOf s rows → AreFull (aggs_of s) rows
are_full s rows all = all_so (IsRowOf s) (λ (row : Row). length row.values ≡ length (aggs_of s)) rows (λ row form. form.values ∙ sym (length-map s.values (λ (c : ValueColumn). c.agg))) all

-- A fold's absolute values add up to at most those of its parts.
pub fold_less : (s : Columns) (parts : List (List Row)) → AreRowsOf s (rows_of parts) → AddUpToLess (sum_places 0 (aggs_of s)) (folded (aggs_of s) parts) (rows_of parts)
fold_less s parts forms =
    all_so (λ c. slice_get (aggs_of s) c ≡ Some agg.Sum) (λ c. abs_total c (folded (aggs_of s) parts) ≤ abs_total c (rows_of parts)) (sum_places 0 (aggs_of s))
    (λ c sum. folds_totals (aggs_of s) parts c sum (are_full s (rows_of parts) forms)) (sums_at (aggs_of s) 0 (aggs_of s) refl)

-- ---- rows of some of the deltas

module _ {D : Type 0} (f : D → List Row) (places : List ℕ) where
  split_parts : (xs ys : List D) → rows_of (map f (xs ++ ys)) ≡ rows_of (map f xs) ++ rows_of (map f ys)
  split_parts xs ys = ap rows_of (map-append f xs ys) ∙ rows_of-append (map f xs) (map f ys)

  -- those of the first so many of the last
  pub taken_less : (xs ys : List D) (n : ℕ) → AddUpToLess places (rows_of (map f (take n ys))) (rows_of (map f (xs ++ ys)))
  taken_less xs ys n =
      less_less places (rows_of (map f (take n ys))) (rows_of (map f ys)) (rows_of (map f (xs ++ ys)))
      (front_less places (rows_of (map f (take n ys))) (rows_of (map f (drop n ys))) (rows_of (map f ys)) (ap (λ zs. rows_of (map f zs)) (sym (take-append-drop n ys)) ∙ split_parts (take n ys) (drop n ys)))
      (back_less places (rows_of (map f xs)) (rows_of (map f ys)) (rows_of (map f (xs ++ ys))) (split_parts xs ys))

  -- those of each
  pub each_less : (xs : List D) → AllByRecursion (λ x. AddUpToLess places (f x) (rows_of (map f xs))) xs
  each_less [] = tt
  each_less (x ∷ xs) = (
    front_less places (f x) (rows_of (map f xs)) (rows_of (map f (x ∷ xs))) refl,
    all_so (λ y. AddUpToLess places (f y) (rows_of (map f xs))) (λ y. AddUpToLess places (f y) (rows_of (map f (x ∷ xs)))) xs
        (λ y less. less_less places (f y) (rows_of (map f xs)) (rows_of (map f (x ∷ xs))) less (back_less places (f x) (rows_of (map f xs)) (rows_of (map f (x ∷ xs))) refl)) (each_less xs),
  )
