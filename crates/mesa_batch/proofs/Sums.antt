-- No sum of values that are put together leaves its type.
use Rattle.std.proofs.Common.{◌≡◌, ◌<◌, ◌≤◌, ◌+◌, ℕ, zero, suc, ℤ, pos, negsuc, ◌+ℤ◌, List, [], ◌∷◌, length, get_or, refl, ap, ◌∙◌, arith, zero-add}
use Rattle.std.specs.Prelude.{Some, slice_get, nat_abs}
use Rattle.std.specs.declared.cmp.Ordering.{Ordering}
use Rattle.std.specs.declared.cmp.Ordering.TheVariants.{Less, Equal, Greater}
use Rattle.std.specs.FinMap.Entries.{by_order}
use Rattle.std.proofs.lemmas.Int.{ints}
use Rattle.std.proofs.lemmas.List.Sums.{sum_by-append}
use Rattle.mesa_schema.specs.mesa_value.declared.Agg.{Agg}
use Rattle.mesa_schema.specs.mesa_value.declared.Agg.TheVariants.{Sum, Min, Max, Replace}
use Rattle.mesa_schema.specs.mesa_value.Agg.{Combines}
use Rattle.mesa_schema.specs.mesa_key.Order.{byte_cmp}
use Rattle.mesa_schema.specs.mesa_columns.declared.rows.Row.{Row}
use Rattle.mesa_schema.specs.mesa_fold.Folded.{AllCombine, row_combined}
use Rattle.mesa_schema.specs.mesa_fold.Laws.{AreFull}
use Rattle.mesa_batch.specs.Totals.{abs_total, sum_bound}
use Rattle.mesa_schema.specs.mesa_fold.Put.{put_row}

sum-fits : (o n : ℤ) → nat_abs o + nat_abs n < sum_bound → Combines Sum o n
sum-fits (pos a) (pos b) h = omega (arith, ints)
sum-fits (pos a) (negsuc b) h = omega (arith, ints)
sum-fits (negsuc a) (pos b) h = omega (arith, ints)
sum-fits (negsuc a) (negsuc b) h = omega (arith, ints)

combines-one : (agg : Agg) (o n : ℤ) → (agg ≡ Sum → nat_abs o + nat_abs n < sum_bound) → Combines agg o n
combines-one Sum o n h = sum-fits o n (h refl)
combines-one Min o n h = tt
combines-one Max o n h = tt
combines-one Replace o n h = tt

AllCombine-from : (aggs : List Agg) (os ns : List ℤ) → ((c : ℕ) → slice_get aggs c ≡ Some Sum → nat_abs (get_or os c (pos 0)) + nat_abs (get_or ns c (pos 0)) < sum_bound) → AllCombine aggs os ns
AllCombine-from [] os ns h = tt
AllCombine-from (g ∷ aggs) [] ns h = tt
AllCombine-from (g ∷ aggs) (o ∷ os) [] h = tt
AllCombine-from (g ∷ aggs) (o ∷ os) (n ∷ ns) h = (combines-one g o n (λ e. h zero (ap Some e)), AllCombine-from aggs os ns (λ c p. h (suc c) p))

sum-abs : (o n : ℤ) → nat_abs (o +ℤ n) ≤ nat_abs o + nat_abs n
sum-abs (pos a) (pos b) = omega arith
sum-abs (pos a) (negsuc b) = grind (arith, ints)
sum-abs (negsuc a) (pos b) = grind (arith, ints)
sum-abs (negsuc a) (negsuc b) = omega arith

combined-abs : (aggs : List Agg) (os ns : List ℤ) (c : ℕ) → slice_get aggs c ≡ Some Sum → length os ≡ length aggs → length ns ≡ length aggs
    → nat_abs (get_or (row_combined aggs os ns) c (pos 0)) ≤ nat_abs (get_or os c (pos 0)) + nat_abs (get_or ns c (pos 0))
combined-abs [] os ns c p a b = omega arith
combined-abs (g ∷ aggs) [] ns c p a b = absurd (omega arith)
combined-abs (g ∷ aggs) (o ∷ os) [] c p a b = absurd (omega arith)
combined-abs (g ∷ aggs) (o ∷ os) (n ∷ ns) zero p a b =
    let sum : g ≡ Sum = cc p in
    rw sum (sum-abs o n)
combined-abs (g ∷ aggs) (o ∷ os) (n ∷ ns) (suc c) p a b = combined-abs aggs os ns c p (omega arith) (omega arith)

length-row_combined : (aggs : List Agg) (os ns : List ℤ) → length os ≡ length aggs → length ns ≡ length aggs → length (row_combined aggs os ns) ≡ length aggs
length-row_combined [] os ns a b = refl
length-row_combined (g ∷ aggs) [] ns a b = absurd (omega arith)
length-row_combined (g ∷ aggs) (o ∷ os) [] a b = absurd (omega arith)
length-row_combined (g ∷ aggs) (o ∷ os) (n ∷ ns) a b = ap suc (length-row_combined aggs os ns (omega arith) (omega arith))

-- what `put_row` makes of a row and those behind it, by how the keys stand
abbrev put_at : List Agg → Row → Row → List Row → Ordering → List Row
put_at aggs row x xs o = by_order o (row ∷ x ∷ xs) (record x { values = row_combined aggs x.values row.values } ∷ xs) (x ∷ put_row aggs row xs)

at-full : (aggs : List Agg) (row x : Row) (xs : List Row) (o : Ordering) → length row.values ≡ length aggs → AreFull aggs (x ∷ xs) → AreFull aggs (put_row aggs row xs) → AreFull aggs (put_at aggs row x xs o)
at-full aggs row x xs Less r all more = (r, all)
at-full aggs row x xs Equal r all more = (length-row_combined aggs x.values row.values all.0 r, all.1)
at-full aggs row x xs Greater r all more = (all.0, more)

-- a row with a value for each column, put among such rows
pub AreFull-put_row : (aggs : List Agg) (row : Row) (rows : List Row) → length row.values ≡ length aggs → AreFull aggs rows → AreFull aggs (put_row aggs row rows)
AreFull-put_row aggs row [] r all = (r, tt)
AreFull-put_row aggs row (x ∷ xs) r all = at-full aggs row x xs (byte_cmp row.key x.key) r all (AreFull-put_row aggs row xs r all.1)

-- the absolute value of a row in a column
abbrev pub abs_at : ℕ → Row → ℕ
abs_at c row = nat_abs (get_or row.values c (pos 0))

pub abs_total-next : (c : ℕ) (row : Row) (rows : List Row) → abs_total c (row ∷ rows) ≡ abs_at c row + abs_total c rows
abs_total-next c row rows = sum_by-append (abs_at c) (row ∷ []) rows ∙ ap (λ n. n + abs_total c rows) (zero-add (abs_at c row))

at-abs : (aggs : List Agg) (row x : Row) (xs : List Row) (o : Ordering) (c : ℕ) → slice_get aggs c ≡ Some Sum → length row.values ≡ length aggs → length x.values ≡ length aggs
    → abs_total c (put_row aggs row xs) ≤ abs_total c xs + abs_at c row → abs_total c (put_at aggs row x xs o) ≤ abs_total c (x ∷ xs) + abs_at c row
at-abs aggs row x xs Less c p r f more = omega (arith, abs_total-next c row (x ∷ xs))
at-abs aggs row x xs Equal c p r f more =
    let both : Row = record x { values = row_combined aggs x.values row.values } in
    rw (abs_total-next c both xs, abs_total-next c x xs) (omega (arith, combined-abs aggs x.values row.values c p f r))
at-abs aggs row x xs Greater c p r f more = omega (arith, abs_total-next c x (put_row aggs row xs), abs_total-next c x xs)

-- putting a row adds at most its absolute values
pub abs_total-put_row : (aggs : List Agg) (row : Row) (rows : List Row) (c : ℕ) → slice_get aggs c ≡ Some Sum → length row.values ≡ length aggs → AreFull aggs rows
    → abs_total c (put_row aggs row rows) ≤ abs_total c rows + abs_at c row
abs_total-put_row aggs row [] c p r all = omega (arith, abs_total-next c row [])
abs_total-put_row aggs row (x ∷ xs) c p r all = at-abs aggs row x xs (byte_cmp row.key x.key) c p r all.0 (abs_total-put_row aggs row xs c p r all.1)

abs_total-at : (c : ℕ) (rows : List Row) (i : ℕ) (d : Row) → i < length rows → abs_at c (get_or rows i d) ≤ abs_total c rows
abs_total-at c [] i d lt = absurd (omega arith)
abs_total-at c (x ∷ xs) zero d lt = omega (arith, abs_total-next c x xs)
abs_total-at c (x ∷ xs) (suc i) d lt = omega (arith, abs_total-next c x xs, abs_total-at c xs i d (omega arith))

-- the values of a row and of one among rows that keep the bound have values together
pub AllCombine-at : (aggs : List Agg) (rows : List Row) (row : Row) (i : ℕ) (d : Row) → i < length rows → ((c : ℕ) → slice_get aggs c ≡ Some Sum → abs_total c rows + abs_total c (row ∷ []) < sum_bound)
    → AllCombine aggs (get_or rows i d).values row.values
AllCombine-at aggs rows row i d lt bounded = AllCombine-from aggs _ _ (λ c p. omega (arith, bounded c p, abs_total-at c rows i d lt, abs_total-next c row []))

pub full-at : (aggs : List Agg) (rows : List Row) (i : ℕ) (d : Row) → i < length rows → AreFull aggs rows → length (get_or rows i d).values ≡ length aggs
full-at aggs [] i d lt all = absurd (omega arith)
full-at aggs (x ∷ xs) zero d lt all = all.0
full-at aggs (x ∷ xs) (suc i) d lt all = full-at aggs xs i d (omega arith) all.1
