-- Rows put among others that stand in the order of their keys, from the first on.
use Rattle.std.proofs.Common.{◌≡◌, ℕ, zero, suc, ◌<◌, ◌≤◌, ◌+◌, List, [], ◌∷◌, ◌++◌, refl, sym, ◌∙◌, ap, subst, length, get_or, take, drop, ◌-◌, arith, length-drop, append_assoc}
use Rattle.std.proofs.lemmas.List.{take_all}
use Rattle.std.specs.Prelude.{T, ◌&&◌, Some, slice_get}
use Rattle.std.specs.List.{AllWithin}
use Rattle.std.specs.Ordering.{is_lt}
use Rattle.std.specs.declared.cmp.Ordering.TheVariants.{Less, Equal, Greater}
use Rattle.std.specs.FinMap.{slice_cmp-IsAntisymmetric, nat_cmp-IsAntisymmetric}
use Rattle.std.specs.FinMap.Entries.{by_order, below_all}
use Rattle.mesa_schema.specs.mesa_value.declared.Agg.{Agg}
use Rattle.mesa_schema.specs.mesa_value.declared.Agg.TheVariants.{Sum}
use Rattle.mesa_schema.specs.mesa_key.Order.{byte_cmp}
use Rattle.mesa_schema.specs.mesa_columns.declared.rows.Row.{Row}
use Rattle.mesa_schema.specs.mesa_fold.Folded.{folded, row_combined, rows_of}
use Rattle.mesa_schema.specs.mesa_fold.Laws.{AreFull}
use Rattle.mesa_batch.specs.Totals.{abs_total}
use Rattle.mesa_schema.specs.mesa_fold.Put.{put_row, put_rows}
use Rattle.mesa_batch.specs.Put.{AreRising, IsFold}
use Rattle.mesa_schema.proofs.mesa_fold.Keys.{pairs}
use Rattle.mesa_schema.proofs.mesa_fold.Folds.{keys, both_false}
use Rattle.mesa_schema.proofs.mesa_fold.Folding.{below_less, is_less, put_all}
use Rattle.mesa_batch.proofs.Kept.{IsFold-put_row}
use Rattle.mesa_batch.proofs.Place.{flipped, rising-at}
use Rattle.mesa_batch.proofs.Sums.{AreFull-put_row, abs_total-next, abs_total-put_row}

-- the row is below each of the others
abbrev pub IsBelow : Row → List Row → Type 0
IsBelow x rows = T (below_all byte_cmp x.key (pairs (keys rows)))

-- a row below all that are put stays the first
pub first_stays : (aggs : List Agg) (x : Row) (xs rows : List Row) → IsBelow x rows → put_rows aggs (x ∷ xs) rows ≡ x ∷ put_rows aggs xs rows
first_stays aggs x xs [] p = refl
first_stays aggs x xs (row ∷ rows) p =
    let parts = both_false _ _ p in
    let above : byte_cmp row.key x.key ≡ Greater = flipped row.key x.key Less (is_less _ parts.0) in
    ap (λ o. put_rows aggs (by_order o (row ∷ x ∷ xs) (record x { values = row_combined aggs x.values row.values } ∷ xs) (x ∷ put_row aggs row xs)) rows) above
    ∙ first_stays aggs x (put_row aggs row xs) rows parts.1

-- a key below the first of rising rows is below them all
below_rising : (x row : Row) (rows : List Row) → byte_cmp x.key row.key ≡ Less → AreRising (row ∷ rows) → IsBelow x (row ∷ rows)
below_rising x row rows less rising = subst (λ o. T (is_lt o && below_all byte_cmp x.key (pairs (keys rows)))) (sym less) (below_less x.key row.key (keys rows) less (both_false _ _ rising).0)

-- what is put first where its key was found
pub merged-found : (aggs : List Agg) (row : Row) (rest rows : List Row) (i : ℕ) (d : Row) → AreRising rest → AreRising (row ∷ rows) → i < length rest → byte_cmp (get_or rest i d).key row.key ≡ Equal
    → put_rows aggs rest (row ∷ rows) ≡ take i rest ++ record (get_or rest i d) { values = row_combined aggs (get_or rest i d).values row.values } ∷ put_rows aggs (drop (suc i) rest) rows
merged-found aggs row [] rows i d p q lt e = absurd (omega arith)
merged-found aggs row (x ∷ xs) rows zero d p q lt e =
    let both : Row = record x { values = row_combined aggs x.values row.values } in
    let same : x.key ≡ row.key = slice_cmp-IsAntisymmetric nat_cmp-IsAntisymmetric _ _ e in
    ap (λ o. put_rows aggs (by_order o (row ∷ x ∷ xs) (both ∷ xs) (x ∷ put_row aggs row xs)) rows) (flipped row.key x.key Equal e)
    ∙ first_stays aggs both xs rows (subst (λ k. T (below_all byte_cmp k (pairs (keys rows)))) (sym same) (both_false _ _ q).0)
merged-found aggs row (x ∷ xs) rows (suc i) d p q lt e =
    let within : i < length xs = omega arith in
    let same : (get_or xs i d).key ≡ row.key = slice_cmp-IsAntisymmetric nat_cmp-IsAntisymmetric _ _ e in
    let less : byte_cmp x.key row.key ≡ Less = subst (λ k. byte_cmp x.key k ≡ Less) same (rising-at (x ∷ xs) zero (suc i) d p (omega arith) lt) in
    first_stays aggs x xs (row ∷ rows) (below_rising x row rows less q) ∙ ap (λ ys. x ∷ ys) (merged-found aggs row xs rows i d (both_false _ _ p).1 q within e)

-- and where it was not
pub merged-missing : (aggs : List Agg) (row : Row) (rest rows : List Row) (i : ℕ) → AreRising (row ∷ rows) → i ≤ length rest
    → AllWithin (λ (y : Row). byte_cmp y.key row.key ≡ Less) rest 0 i → AllWithin (λ (y : Row). byte_cmp y.key row.key ≡ Greater) rest i (length rest)
    → put_rows aggs rest (row ∷ rows) ≡ take i rest ++ row ∷ put_rows aggs (drop i rest) rows
merged-missing aggs row [] rows zero q le less greater = first_stays aggs row [] rows (both_false _ _ q).0
merged-missing aggs row [] rows (suc i) q le less greater = absurd (omega arith)
merged-missing aggs row (x ∷ xs) rows zero q le less greater =
    let above : byte_cmp x.key row.key ≡ Greater = greater zero x (omega arith) (omega arith) in
    ap (λ o. put_rows aggs (by_order o (row ∷ x ∷ xs) (record x { values = row_combined aggs x.values row.values } ∷ xs) (x ∷ put_row aggs row xs)) rows) (flipped row.key x.key Greater above)
    ∙ first_stays aggs row (x ∷ xs) rows (both_false _ _ q).0
merged-missing aggs row (x ∷ xs) rows (suc i) q le less greater =
    let below : byte_cmp x.key row.key ≡ Less = less zero x (omega arith) (omega arith) in
    first_stays aggs x xs (row ∷ rows) (below_rising x row rows below q)
    ∙ ap (λ ys. x ∷ ys) (merged-missing aggs row xs rows i q (omega arith) (λ k d lo hi. less (suc k) d (omega arith) (omega arith)) (λ k d lo hi. greater (suc k) d (omega arith) (omega arith)))

-- what all the rows come to
pub IsFold-put_rows : (aggs : List Agg) (content rows : List Row) → IsFold aggs content → IsFold aggs (put_rows aggs content rows)
IsFold-put_rows aggs content [] fold = fold
IsFold-put_rows aggs content (row ∷ rows) fold = IsFold-put_rows aggs (put_row aggs row content) rows (IsFold-put_row aggs row content fold)

pub AreFull-put_rows : (aggs : List Agg) (content rows : List Row) → AreFull aggs content → AreFull aggs rows → AreFull aggs (put_rows aggs content rows)
AreFull-put_rows aggs content [] full more = full
AreFull-put_rows aggs content (row ∷ rows) full more = AreFull-put_rows aggs (put_row aggs row content) rows (AreFull-put_row aggs row content more.0 full) more.1

pub abs_total-put_rows : (aggs : List Agg) (content rows : List Row) (c : ℕ) → slice_get aggs c ≡ Some Sum → AreFull aggs content → AreFull aggs rows
    → abs_total c (put_rows aggs content rows) ≤ abs_total c content + abs_total c rows
abs_total-put_rows aggs content [] c p full more = omega arith
abs_total-put_rows aggs content (row ∷ rows) c p full more =
    omega (arith, abs_total-put_rows aggs (put_row aggs row content) rows c p (AreFull-put_row aggs row content more.0 full) more.1, abs_total-put_row aggs row content c p more.0 full, abs_total-next c row rows)

-- The absolute totals of a fold are at most those of its rows.
pub folds_totals : (aggs : List Agg) (parts : List (List Row)) (c : ℕ) → slice_get aggs c ≡ Some Sum → AreFull aggs (rows_of parts) → abs_total c (folded aggs parts) ≤ abs_total c (rows_of parts)
folds_totals aggs parts c sum full =
    let put : put_rows aggs [] (rows_of parts) ≡ folded aggs parts = put_all aggs [] (rows_of parts) in
    let most : abs_total c (put_rows aggs [] (rows_of parts)) ≤ abs_total c (rows_of parts) = omega (arith, abs_total-put_rows aggs [] (rows_of parts) c sum tt full) in
    subst (λ rows. abs_total c rows ≤ abs_total c (rows_of parts)) put most

-- ---- a part of rows

pub rising-drop : (n : ℕ) (rows : List Row) → AreRising rows → AreRising (drop n rows)
rising-drop zero rows p = p
rising-drop (suc n) [] p = p
rising-drop (suc n) (x ∷ xs) p = rising-drop n xs (both_false _ _ p).1

pub full-drop : (aggs : List Agg) (n : ℕ) (rows : List Row) → AreFull aggs rows → AreFull aggs (drop n rows)
full-drop aggs zero rows p = p
full-drop aggs (suc n) [] p = p
full-drop aggs (suc n) (x ∷ xs) p = full-drop aggs n xs p.1

pub abs_total-drop : (c n : ℕ) (rows : List Row) → abs_total c (drop n rows) ≤ abs_total c rows
abs_total-drop c zero rows = omega arith
abs_total-drop c (suc n) [] = omega arith
abs_total-drop c (suc n) (x ∷ xs) = omega (arith, abs_total-drop c n xs, abs_total-next c x xs)

pub drop-whole : (n : ℕ) (rows : List Row) → take (length rows - n) (drop n rows) ≡ drop n rows
drop-whole n rows = take_all (length rows - n) (drop n rows) (omega (arith, length-drop n rows))

-- rows added behind others, and then one
pub added_behind : (xs ys zs : List Row) (x : Row) → xs ++ ys ++ x ∷ [] ++ zs ≡ xs ++ (ys ++ x ∷ zs)
added_behind xs ys zs x = simp append_assoc
