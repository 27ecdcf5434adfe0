-- A row put at the place that a binary search finds for its key.
use Rattle.std.proofs.Common.{◌≡◌, ℕ, zero, suc, ◌<◌, ◌≤◌, List, [], ◌∷◌, refl, sym, ◌∙◌, ap, subst, length, get_or, set, arith, lit≤, inl, inr}
use Rattle.std.proofs.Math.Nat.{eq-or-lt_of_le}
use Rattle.std.specs.Prelude.{insert, T}
use Rattle.std.specs.List.{AllWithin}
use Rattle.std.specs.List.Sorted.{IsNonDecreasingBy}
use Rattle.std.specs.Ordering.{ordering_index, ordering_reverse}
use Rattle.std.specs.declared.cmp.Ordering.{Ordering}
use Rattle.std.specs.declared.cmp.Ordering.TheVariants.{Less, Equal, Greater}
use Rattle.std.specs.Cmp.Lexicographic.{nat_list_cmp_total}
use Rattle.std.specs.FinMap.{slice_cmp-IsAntisymmetric, nat_cmp-IsAntisymmetric}
use Rattle.std.specs.FinMap.Entries.{by_order, below_all}
use Rattle.mesa_schema.specs.mesa_value.declared.Agg.{Agg}
use Rattle.mesa_schema.specs.mesa_key.Order.{byte_cmp}
use Rattle.mesa_schema.specs.mesa_columns.declared.rows.Row.{Row}
use Rattle.mesa_schema.specs.mesa_fold.Folded.{row_combined}
use Rattle.mesa_schema.specs.mesa_fold.Put.{put_row}
use Rattle.mesa_schema.proofs.mesa_fold.Keys.{is_rising, pairs}
use Rattle.mesa_schema.proofs.mesa_fold.Folds.{keys, both_false}
use Rattle.mesa_schema.proofs.mesa_fold.Folding.{is_less}

pub flipped : (a b : List ℕ) (o : Ordering) → byte_cmp b a ≡ o → byte_cmp a b ≡ ordering_reverse o
flipped a b o e = nat_list_cmp_total.antisymm a b ∙ ap ordering_reverse e

-- what is below the keys of rows is below the key at a place
below-at : (k : List ℕ) (rows : List Row) (i : ℕ) (d : Row) → T (below_all byte_cmp k (pairs (keys rows))) → i < length rows → byte_cmp k (get_or rows i d).key ≡ Less
below-at k [] i d p lt = absurd (omega arith)
below-at k (x ∷ xs) zero d p lt = is_less _ (both_false _ _ p).0
below-at k (x ∷ xs) (suc i) d p lt = below-at k xs i d (both_false _ _ p).1 (omega arith)

-- an earlier key of rising keys is the lesser
pub rising-at : (rows : List Row) (i j : ℕ) (d : Row) → T (is_rising (keys rows)) → i < j → j < length rows → byte_cmp (get_or rows i d).key (get_or rows j d).key ≡ Less
rising-at [] i j d p lt in_range = absurd (omega arith)
rising-at (x ∷ xs) i zero d p lt in_range = absurd (omega arith)
rising-at (x ∷ xs) zero (suc j) d p lt in_range = below-at x.key xs j d (both_false _ _ p).0 (omega arith)
rising-at (x ∷ xs) (suc i) (suc j) d p lt in_range = rising-at xs i j d (both_false _ _ p).1 (omega arith) (omega arith)

index-below : (a b key : List ℕ) (o : Ordering) → byte_cmp a key ≡ o → byte_cmp a b ≡ Less → ordering_index o ≤ ordering_index (byte_cmp b key)
index-below a b key Less e less = omega arith
index-below a b key Equal e less =
    let same : a ≡ key = slice_cmp-IsAntisymmetric nat_cmp-IsAntisymmetric a key e in
    let above : byte_cmp b key ≡ Greater = flipped b key Less (subst (λ k. byte_cmp k b ≡ Less) same less) in
    subst (λ (o : Ordering). 1 ≤ ordering_index o) (sym above) (lit≤ tt)
index-below a b key Greater e less =
    let below : byte_cmp key b ≡ Less = nat_list_cmp_total.trans key a b (flipped key a Greater e) less in
    subst (λ (o : Ordering). 2 ≤ ordering_index o) (sym (flipped b key Less below)) (lit≤ tt)

-- so a binary search by key finds its place among them
pub comparisons-rise : (rows : List Row) (key : List ℕ) → T (is_rising (keys rows)) → IsNonDecreasingBy (λ (row : Row). ordering_index (byte_cmp row.key key)) rows
comparisons-rise rows key p i j d le in_range = elim (eq-or-lt_of_le le) [
  | inl same ↦ subst (λ n. ordering_index (byte_cmp (get_or rows i d).key key) ≤ ordering_index (byte_cmp (get_or rows n d).key key)) same (omega arith)
  | inr lt ↦ index-below _ _ key _ refl (rising-at rows i j d p lt in_range)
]

-- what is put where the row's key was found
pub put_row-found : (aggs : List Agg) (row : Row) (rows : List Row) (i : ℕ) (d : Row) → T (is_rising (keys rows)) → i < length rows → byte_cmp (get_or rows i d).key row.key ≡ Equal
    → put_row aggs row rows ≡ set rows i (record (get_or rows i d) { values = row_combined aggs (get_or rows i d).values row.values })
put_row-found aggs row [] i d p lt e = absurd (omega arith)
put_row-found aggs row (x ∷ xs) zero d p lt e =
    ap (λ o. by_order o (row ∷ x ∷ xs) (record x { values = row_combined aggs x.values row.values } ∷ xs) (x ∷ put_row aggs row xs)) (flipped row.key x.key Equal e)
put_row-found aggs row (x ∷ xs) (suc i) d p lt e =
    let within : i < length xs = omega arith in
    let same : (get_or xs i d).key ≡ row.key = slice_cmp-IsAntisymmetric nat_cmp-IsAntisymmetric _ _ e in
    let less : byte_cmp x.key row.key ≡ Less = subst (λ k. byte_cmp x.key k ≡ Less) same (below-at x.key xs i d (both_false _ _ p).0 within) in
    ap (λ o. by_order o (row ∷ x ∷ xs) (record x { values = row_combined aggs x.values row.values } ∷ xs) (x ∷ put_row aggs row xs)) (flipped row.key x.key Less less)
    ∙ ap (λ ys. x ∷ ys) (put_row-found aggs row xs i d (both_false _ _ p).1 within e)

-- and where it was not
pub put_row-missing : (aggs : List Agg) (row : Row) (rows : List Row) (i : ℕ) → i ≤ length rows
    → AllWithin (λ (y : Row). byte_cmp y.key row.key ≡ Less) rows 0 i → AllWithin (λ (y : Row). byte_cmp y.key row.key ≡ Greater) rows i (length rows) → put_row aggs row rows ≡ insert rows i row
put_row-missing aggs row [] zero le less greater = refl
put_row-missing aggs row [] (suc i) le less greater = absurd (omega arith)
put_row-missing aggs row (x ∷ xs) zero le less greater =
    let above : byte_cmp x.key row.key ≡ Greater = greater zero x (omega arith) (omega arith) in
    ap (λ o. by_order o (row ∷ x ∷ xs) (record x { values = row_combined aggs x.values row.values } ∷ xs) (x ∷ put_row aggs row xs)) (flipped row.key x.key Greater above)
put_row-missing aggs row (x ∷ xs) (suc i) le less greater =
    let below : byte_cmp x.key row.key ≡ Less = less zero x (omega arith) (omega arith) in
    ap (λ o. by_order o (row ∷ x ∷ xs) (record x { values = row_combined aggs x.values row.values } ∷ xs) (x ∷ put_row aggs row xs)) (flipped row.key x.key Less below)
    ∙ ap (λ ys. x ∷ ys) (put_row-missing aggs row xs i (omega arith) (λ k d lo hi. less (suc k) d (omega arith) (omega arith)) (λ k d lo hi. greater (suc k) d (omega arith) (omega arith)))
