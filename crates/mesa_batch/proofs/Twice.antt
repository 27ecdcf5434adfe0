-- Which row has the table and the key of an earlier one, by the order of all.
use Rattle.std.proofs.Common.{◌≡◌, ℕ, zero, suc, drop, ◌+◌, ◌-◌, ◌<◌, ◌≤◌, List, [], ◌∷◌, ◌++◌, length, map, take, get_or, refl, sym, ◌∙◌, ap, subst, arith, inl, inr, Some, None, Option, Ok, Err, drop-cons, add-one}
use Rattle.std.specs.Prelude.{Bool, true, false, ◌⊎◌, nat_le, nat_lt, if◌then◌else◌, IfSome, position, slice_index_or}
use Rattle.std.specs.List.{AllByRecursion, Contains, IsDistinct, range_with_len}
use Rattle.std.specs.List.Sorted.{IsPermutation, IsSorted, IsStrictlyIncreasing, IsStrictlySortedBy}
use Rattle.std.specs.declared.cmp.Ordering.{Ordering}
use Rattle.std.specs.declared.cmp.Ordering.TheVariants.{Less, Equal, Greater}
use Rattle.std.specs.Ordering.{is_eq, is_lt, nat_cmp, ordering_then, ordering_reverse, eq_by_cmp}
use Rattle.std.specs.Cmp.{IsTotalOrder, nat_cmp_total, then_total, on_total, tied_back, eq_by_cmp_equiv}
use Rattle.std.specs.Bool.{then_some}
use Rattle.std.specs.Option.{option_or}
use Rattle.std.proofs.lemmas.Bool.{cases_eq, false≢true}
use Rattle.std.proofs.lemmas.Bool.Decides.{nat_tests}
use Rattle.std.proofs.lemmas.List.{get_or_default, get_or-map, length-map, length-take-le}
use Rattle.std.proofs.lemmas.List.FromFn.{length-range_with_len, get_or-range_with_len}
use Rattle.std.proofs.lemmas.Map.Keys.{IsDistinct-IsPermutation, IsDistinct-from_sorted, sorted_from_strictly_increasing}
use Rattle.std.proofs.Math.Seq.{take-suc}
use Rattle.std.proofs.Math.ListN.{drop_of_length-le}
use Rattle.mesa_schema.proofs.mesa_fold.Folds.{is_equal}
use Rattle.mesa_batch.proofs.NameNumbers.{position-push}
use Rattle.std.proofs.lemmas.List.Sorted.{Contains-permutation, IsPermutation-sym, ranks_by, sorted_far}
use Rattle.mesa_list.specs.Checks.{◌>>◌}
use Rattle.mesa_batch.specs.declared.words.BatchError.TheVariants.{DuplicateKey}
use Rattle.mesa_batch.specs.Batch.{Placed, is_at, refuse_twice}
use Rattle.mesa_batch.specs.Gathered.{each_once, once_behind}
use Rattle.mesa_batch.specs.Flat.{IsFirstTwice, earlier_twice, is_twice, placed_at, placed_cmp, spot_cmp}
use Rattle.mesa_batch.proofs.Reordered.{placed_total, tied_rows}

-- ---- neighbours, one pair after another

pub twice_next : (rows : List Placed) (order : List ℕ) (i : ℕ) (found : Option (ℕ × ℕ)) (pair : ℕ × ℕ) → 1 ≤ i → i < length order → pair.0 ≡ get_or order (i - 1) 0 → pair.1 ≡ get_or order i 0 → IsFirstTwice rows order i found
    → IsFirstTwice rows order (i + 1) (earlier_twice (is_twice rows pair.0 pair.1) found pair)
twice_next rows order i found pair h top first second before = by (is_twice rows pair.0 pair.1) found refl refl
  where
    Pair : ℕ × ℕ → Type 0
    Pair w = (k : ℕ) × (k + 1 < length order) × (slice_index_or order k 0 ≡ w.0) × (slice_index_or order (k + 1) 0 ≡ w.1) × (is_twice rows w.0 w.1 ≡ true)

    some_same : {v w : ℕ × ℕ} → Some v ≡ Some w → v ≡ w
    some_same e = cc

    here : is_twice rows pair.0 pair.1 ≡ true → Pair pair
    here t = (i - 1, omega (arith, h, top), sym first, (let e : i - 1 + 1 ≡ i = omega (arith, h) in ap (λ n. get_or order n 0) e ∙ sym second), t)

    by : (b : Bool) (o : Option (ℕ × ℕ)) → is_twice rows pair.0 pair.1 ≡ b → found ≡ o → IsFirstTwice rows order (i + 1) (earlier_twice b o pair)
    by false o t e = record {
      pair = subst (λ o. IfSome o Pair) e before.pair;
      least = λ k lt tw. elim (cases_eq k (i - 1)) [
        | inl same ↦ absurd (false≢true (sym t ∙ subst (λ n. is_twice rows n pair.1 ≡ true) (sym first) (subst (λ n. is_twice rows (get_or order (i - 1) 0) n ≡ true) (ap (λ n. get_or order n 0) (omega (arith, h, same)) ∙ sym second) (subst (λ n. is_twice rows (get_or order n 0) (get_or order (k + 1) 0) ≡ true) same tw))))
        | inr other ↦ let was = before.least k (omega (arith, lt, other)) tw in (was.0, sym e ∙ was.1, was.2)
      ];
    }
    by true None t e = record {
      pair = here t;
      least = λ k lt tw. elim (cases_eq k (i - 1)) [
        | inl same ↦ (pair, refl, (let j : k + 1 ≡ i = omega (arith, h, same) in let at : get_or order (k + 1) 0 ≡ get_or order i 0 = ap (λ n. get_or order n 0) j in omega (arith, second, at)))
        | inr other ↦ let was = before.least k (omega (arith, lt, other)) tw in absurd (cc)
      ];
    }
    by true (Some w) t e = elim (nat_le w.1 pair.1) as (λ b. nat_le w.1 pair.1 ≡ b → IsFirstTwice rows order (i + 1) (if b then Some w else Some pair)) [
      | true ↦ λ le. let low : w.1 ≤ pair.1 = grind (arith, nat_tests) in record {
        pair = subst (λ o. IfSome o Pair) e before.pair;
        least = λ k lt tw. elim (cases_eq k (i - 1)) [
          | inl same ↦ (w, refl, (let j : k + 1 ≡ i = omega (arith, h, same) in let at : get_or order (k + 1) 0 ≡ get_or order i 0 = ap (λ n. get_or order n 0) j in omega (arith, second, at, low)))
          | inr other ↦ let was = before.least k (omega (arith, lt, other)) tw in (was.0, sym e ∙ was.1, was.2)
        ];
      }
      | false ↦ λ le. let low : pair.1 ≤ w.1 = grind (arith, nat_tests) in record {
        pair = here t;
        least = λ k lt tw. elim (cases_eq k (i - 1)) [
          | inl same ↦ (pair, refl, (let j : k + 1 ≡ i = omega (arith, h, same) in let at : get_or order (k + 1) 0 ≡ get_or order i 0 = ap (λ n. get_or order n 0) j in omega (arith, second, at)))
          | inr other ↦ let was = before.least k (omega (arith, lt, other)) tw in let own : w ≡ was.0 = some_same (sym e ∙ was.1) in (pair, refl, (let l : w.1 ≡ was.0.1 = ap (λ (v : ℕ × ℕ). v.1) own in omega (arith, low, l, was.2)))
        ];
      }
    ] refl

-- no neighbours yet
pub twice_none : (rows : List Placed) (order : List ℕ) → IsFirstTwice rows order 1 None
twice_none rows order = record { pair = tt; least = λ k lt tw. absurd (omega (arith, lt)) }

-- all of them
pub twice_all : (rows : List Placed) (order : List ℕ) (i : ℕ) (found : Option (ℕ × ℕ)) → length order ≤ i → IsFirstTwice rows order i found → IsFirstTwice rows order (length order) found
twice_all rows order i found h all = record { pair = all.pair; least = λ k lt tw. all.least k (omega (arith, lt, h)) tw }

-- ---- what neighbours tell of all

pub spot_total : (rows : List Placed) → IsTotalOrder (spot_cmp rows)
spot_total rows = then_total (on_total (placed_at rows) placed_total) (on_total (λ (n : ℕ). n) nat_cmp_total)

pub twice_ties : (rows : List Placed) (a b : ℕ) → is_twice rows a b ≡ true → placed_cmp (placed_at rows a) (placed_at rows b) ≡ Equal
twice_ties rows a b t = is_equal _ (tied_rows (placed_at rows a) (placed_at rows b) ∙ t)

ties_twice : (rows : List Placed) (a b : ℕ) → placed_cmp (placed_at rows a) (placed_at rows b) ≡ Equal → is_twice rows a b ≡ true
ties_twice rows a b e = sym (tied_rows (placed_at rows a) (placed_at rows b)) ∙ ap is_eq e

less_spot : (rows : List Placed) (a b : ℕ) → is_twice rows a b ≡ true → a < b → is_lt (spot_cmp rows a b) ≡ true
less_spot rows a b t h =
    let less : is_lt (nat_cmp a b) ≡ true = grind (arith, nat_tests) in
    ap (λ o. is_lt (ordering_then o (nat_cmp a b))) (twice_ties rows a b t) ∙ less

not_less : (o p : Ordering) → is_lt (ordering_then o p) ≡ false → o ≡ Less → ⊥
not_less o p h e = false≢true (sym h ∙ ap (λ o. is_lt (ordering_then o p)) e)

level : (r : Ordering) → (r ≡ Less → ⊥) → (ordering_reverse r ≡ Less → ⊥) → r ≡ Equal
level Less f g = absurd (f refl)
level Equal f g = refl
level Greater f g = absurd (g refl)

-- what stands between two rows of one table and key has both
between : (rows : List Placed) (i x j : ℕ) → is_twice rows i j ≡ true → is_lt (spot_cmp rows x i) ≡ false → is_lt (spot_cmp rows j x) ≡ false → is_twice rows x j ≡ true
between rows i x j t low high =
    let R = λ (a b : ℕ). placed_cmp (placed_at rows a) (placed_at rows b) in
    let same : R i x ≡ R j x = placed_total.congr (placed_at rows i) (placed_at rows j) (placed_at rows x) (twice_ties rows i j t) in
    let back : R x i ≡ ordering_reverse (R j x) = placed_total.antisymm (placed_at rows x) (placed_at rows i) ∙ ap ordering_reverse same in
    let equal : R j x ≡ Equal = level (R j x) (not_less (R j x) (nat_cmp j x) high) (λ e. not_less (R x i) (nat_cmp x i) low (back ∙ e)) in
    ties_twice rows x j (tied_back placed_total (placed_at rows j) (placed_at rows x) equal)

abbrev pub IsOrder : List Placed → List ℕ → Type 0
IsOrder rows order = IsPermutation (range_with_len 0 (length rows)) order × IsSorted (spot_cmp rows) order

pub range-push : (a n : ℕ) → range_with_len a (n + 1) ≡ range_with_len a n ++ (a + n) ∷ []
range-push a n = ap (range_with_len a) (add-one n) ∙ by a n
  where
    by : (a n : ℕ) → range_with_len a (suc n) ≡ range_with_len a n ++ (a + n) ∷ []
    by a zero = let e : a ≡ a + 0 = omega arith in ap (λ x. x ∷ []) e
    by a (suc n) = let e : a + 1 + n ≡ a + suc n = omega arith in ap (λ l. a ∷ l) (by (a + 1) n) ∙ ap (λ x. a ∷ range_with_len (a + 1) n ++ x ∷ []) e

at_range : (n i : ℕ) → i < n → Contains (range_with_len 0 n) i
at_range n i h = (i, omega (arith, h, length-range_with_len 0 n), get_or-range_with_len 0 n i i h ∙ omega arith)

to_zero : (xs : List ℕ) (k v : ℕ) → k < length xs → get_or xs k v ≡ v → get_or xs k 0 ≡ v
to_zero xs k v h e = get_or_default xs k 0 v h ∙ e

order_cases : (p q : ℕ) → (p < q) ⊎ (q ≤ p)
order_cases p q = elim (nat_lt p q) as (λ b. nat_lt p q ≡ b → (p < q) ⊎ (q ≤ p)) [ true ↦ λ e. inl (grind (arith, nat_tests)) | false ↦ λ e. inr (grind (arith, nat_tests)) ] refl

-- no earlier place stands behind a later one
far : (rows : List Placed) (order : List ℕ) → IsOrder rows order → (p q : ℕ) → p ≤ q → q < length order → is_lt (spot_cmp rows (get_or order q 0) (get_or order p 0)) ≡ false
far rows order ordered p q h k = sorted_far (λ a b. is_lt (spot_cmp rows a b)) (ranks_by (spot_total rows) (λ (n : ℕ). n)) order ordered.1 p q 0 h k

-- each place is a row's
pub in_range : (rows : List Placed) (order : List ℕ) → IsOrder rows order → (k : ℕ) → k < length order → get_or order k 0 < length rows
in_range rows order ordered k h =
    let v : ℕ = get_or order k 0 in
    let at = Contains-permutation order (range_with_len 0 (length rows)) v (IsPermutation-sym _ _ ordered.0) (k, h, get_or_default order k v 0 h) in
    let small : at.0 < length rows = omega (arith, at.1, length-range_with_len 0 (length rows)) in
    omega (arith, small, at.2, get_or-range_with_len 0 (length rows) at.0 v small)

least_pair : (rows : List Placed) (order : List ℕ) (found : Option (ℕ × ℕ)) → IsOrder rows order → IsFirstTwice rows order (length order) found
    → (i j : ℕ) → i < j → j < length rows → is_twice rows i j ≡ true → (w : ℕ × ℕ) × (found ≡ Some w) × (w.1 ≤ j)
least_pair rows order found ordered first i j h within t =
    let pi = Contains-permutation _ order i ordered.0 (at_range (length rows) i (omega (arith, h, within))) in
    let pj = Contains-permutation _ order j ordered.0 (at_range (length rows) j within) in
    by pi.0 pi.1 (to_zero order pi.0 i pi.1 pi.2) pj.0 pj.1 (to_zero order pj.0 j pj.1 pj.2)
  where
    by : (p : ℕ) → p < length order → get_or order p 0 ≡ i → (q : ℕ) → q < length order → get_or order q 0 ≡ j → (w : ℕ × ℕ) × (found ≡ Some w) × (w.1 ≤ j)
    by p pl ie q ql je = elim (order_cases p q) [
      | inl lt ↦
          let x : ℕ = get_or order (q - 1) 0 in
          let low : is_lt (spot_cmp rows x i) ≡ false = subst (λ n. is_lt (spot_cmp rows x n) ≡ false) ie (far rows order ordered p (q - 1) (omega (arith, lt)) (omega (arith, ql, lt))) in
          let high : is_lt (spot_cmp rows j x) ≡ false = subst (λ n. is_lt (spot_cmp rows n x) ≡ false) je (far rows order ordered (q - 1) q (omega (arith, lt)) ql) in
          let tw : is_twice rows x j ≡ true = between rows i x j t low high in
          let next : q - 1 + 1 ≡ q = omega (arith, lt) in
          let at : get_or order (q - 1 + 1) 0 ≡ j = ap (λ n. get_or order n 0) next ∙ je in
          let w = first.least (q - 1) (omega (arith, next, ql)) (subst (λ n. is_twice rows x n ≡ true) (sym at) tw) in
          (w.0, w.1, omega (arith, w.2, at))
      | inr le ↦
          let no : is_lt (spot_cmp rows i j) ≡ false = subst (λ n. is_lt (spot_cmp rows n j) ≡ false) ie (subst (λ n. is_lt (spot_cmp rows (get_or order p 0) n) ≡ false) je (far rows order ordered q p le pl)) in
          absurd (false≢true (sym no ∙ less_spot rows i j t h))
    ]

-- ---- where no row comes twice

-- of the rows before a place no two have one table and key
abbrev Apart : List Placed → ℕ → Type 0
Apart rows m = (i j : ℕ) → i < j → j < m → is_twice rows i j ≡ false

is_false : (b : Bool) → (b ≡ true → ⊥) → b ≡ false
is_false true f = absurd (f refl)
is_false false f = refl

none_at : (rows : List Placed) (p : Placed → Bool) (k : ℕ) → k ≤ length rows → ((i : ℕ) → i < k → p (placed_at rows i) ≡ false) → position p (take k rows) ≡ None
none_at rows p zero h all = refl
none_at rows p (suc k) h all =
    ap (position p) (take-suc rows k _ h) ∙ position-push p (take k rows) (placed_at rows k)
    ∙ (λ i. option_or (none_at rows p k (omega (arith, h)) (λ i l. all i (omega (arith, l))) i) (then_some (all k (omega arith) i) (length (take k rows))))

some_at : (rows : List Placed) (p : Placed → Bool) (a k : ℕ) → a < k → k ≤ length rows → p (placed_at rows a) ≡ true → ((i : ℕ) → i < a → p (placed_at rows i) ≡ false) → position p (take k rows) ≡ Some a
some_at rows p a zero h l t all = absurd (omega (arith, h))
some_at rows p a (suc k) h l t all =
    ap (position p) (take-suc rows k _ l) ∙ position-push p (take k rows) (placed_at rows k)
    ∙ elim (cases_eq a k) [
      | inl same ↦
          let here : p (placed_at rows k) ≡ true = subst (λ n. p (placed_at rows n) ≡ true) same t in
          let none : position p (take k rows) ≡ None = none_at rows p k (omega (arith, l)) (λ i b. all i (omega (arith, b, same))) in
          let long : length (take k rows) ≡ a = length-take-le k rows (omega (arith, l)) ∙ sym same in
          λ i. option_or (none i) (then_some (here i) (long i))
      | inr other ↦ ap (λ o. option_or o (then_some (p (placed_at rows k)) (length (take k rows)))) (some_at rows p a k (omega (arith, h, other)) (omega (arith, l)) t all)
    ]

passed : (rows : List Placed) (m : ℕ) → m ≤ length rows → Apart rows m → (k : ℕ) → k ≤ m → each_once rows ≡ once_behind (take k rows) (drop k rows)
passed rows m h apart zero l = refl
passed rows m h apart (suc k) l =
    let lt : k < length rows = omega (arith, l, h) in
    let p : Placed = placed_at rows k in
    let none : position (is_at p.table p.row.key) (take k rows) ≡ None = none_at rows (is_at p.table p.row.key) k (omega (arith, lt)) (λ i b. apart i k b (omega (arith, l))) in
    passed rows m h apart k (omega (arith, l))
    ∙ ap (once_behind (take k rows)) (drop-cons rows k _ lt)
    ∙ ap (λ o. refuse_twice o (length (take k rows) + 1) >> once_behind (take k rows ++ p ∷ []) (drop (suc k) rows)) none
    ∙ ap (λ l. once_behind l (drop (suc k) rows)) (sym (take-suc rows k _ lt))

-- Where no neighbours have one table and key, no row comes twice,
pub all_once : (rows : List Placed) (order : List ℕ) → IsOrder rows order → IsFirstTwice rows order (length order) None → each_once rows ≡ Ok tt
all_once rows order ordered first =
    passed rows (length rows) (omega arith) (λ i j h l. is_false (is_twice rows i j) (λ t. let w = least_pair rows order None ordered first i j h l t in absurd (cc))) (length rows) (omega arith)
    ∙ ap (once_behind (take (length rows) rows)) (drop_of_length-le rows (omega arith))

both_twice : (rows : List Placed) (a b c : ℕ) → is_twice rows a c ≡ true → is_twice rows b c ≡ true → is_twice rows a b ≡ true
both_twice rows a b c t u =
    ties_twice rows a b (placed_total.congr (placed_at rows a) (placed_at rows c) (placed_at rows b) (twice_ties rows a c t) ∙ tied_back placed_total (placed_at rows b) (placed_at rows c) (twice_ties rows b c u))

places_distinct : (rows : List Placed) (order : List ℕ) → IsOrder rows order → IsDistinct (eq_by_cmp nat_cmp) order
places_distinct rows order ordered =
    let n : ℕ = length rows in
    let rises : IsStrictlyIncreasing (range_with_len 0 n) = λ k h.
    let l : k + 1 < n = omega (arith, h, length-range_with_len 0 n) in
    omega (arith, get_or-range_with_len 0 n k 0 (omega (arith, l)), get_or-range_with_len 0 n (k + 1) 0 l) in
    IsDistinct-IsPermutation (eq_by_cmp nat_cmp) (eq_by_cmp_equiv nat_cmp_total).symm (range_with_len 0 n) order ordered.0 (IsDistinct-from_sorted nat_cmp (range_with_len 0 n) (sorted_from_strictly_increasing (range_with_len 0 n) rises))

neighbours_differ : (xs : List ℕ) (k : ℕ) → IsDistinct (eq_by_cmp nat_cmp) xs → k + 1 < length xs → eq_by_cmp nat_cmp (get_or xs k 0) (get_or xs (k + 1) 0) ≡ false
unfolding IsDistinct
neighbours_differ [] k d h = absurd (omega (arith, h))
neighbours_differ (x ∷ []) k d h = absurd (omega (arith, h))
neighbours_differ (x ∷ y ∷ xs) zero d h = d.0.0
neighbours_differ (x ∷ y ∷ xs) (suc k) d h =
    let next : suc (k + 1) ≡ suc k + 1 = omega arith in
    subst (λ n. eq_by_cmp nat_cmp (get_or (y ∷ xs) k 0) (get_or (x ∷ y ∷ xs) n 0) ≡ false) next (neighbours_differ (y ∷ xs) k d.1 (omega (arith, h)))

-- neighbours of one table and key come in their own order
in_turn : (rows : List Placed) (order : List ℕ) (w : ℕ × ℕ) (k : ℕ) → IsOrder rows order → k + 1 < length order → get_or order k 0 ≡ w.0 → get_or order (k + 1) 0 ≡ w.1 → is_twice rows w.0 w.1 ≡ true → w.0 < w.1
in_turn rows order w k ordered h first second t = elim (order_cases w.0 w.1) [
  | inl lt ↦ lt
  | inr le ↦ elim (cases_eq w.1 w.0) [
    | inl same ↦
        let differ : eq_by_cmp nat_cmp w.0 w.1 ≡ false = subst (λ n. eq_by_cmp nat_cmp w.0 n ≡ false) second (subst (λ n. eq_by_cmp nat_cmp n (get_or order (k + 1) 0) ≡ false) first (neighbours_differ order k (places_distinct rows order ordered) h)) in
        absurd (false≢true (sym differ ∙ ap (λ n. eq_by_cmp nat_cmp w.0 n) same ∙ (eq_by_cmp_equiv nat_cmp_total).refl w.0))
    | inr other ↦
        let back : is_twice rows w.1 w.0 ≡ true = ties_twice rows w.1 w.0 (tied_back placed_total (placed_at rows w.0) (placed_at rows w.1) (twice_ties rows w.0 w.1 t)) in
        let no : is_lt (spot_cmp rows w.1 w.0) ≡ false = subst (λ n. is_lt (spot_cmp rows n w.0) ≡ false) second (subst (λ n. is_lt (spot_cmp rows (get_or order (k + 1) 0) n) ≡ false) first (far rows order ordered k (k + 1) (omega arith) h)) in
        absurd (false≢true (sym no ∙ less_spot rows w.1 w.0 back (omega (arith, le, other))))
  ]
]

-- and where some have, the row whose number is least among the second ones is refused.
pub first_refused : (rows : List Placed) (order : List ℕ) (w : ℕ × ℕ) → IsOrder rows order → IsFirstTwice rows order (length order) (Some w) → each_once rows ≡ Err (DuplicateKey (w.0 + 1) (w.1 + 1))
first_refused rows order w ordered first =
    let k = first.pair.0 in
    let b_within : w.1 < length rows = subst (λ n. n < length rows) first.pair.3 (in_range rows order ordered (k + 1) first.pair.1) in
    let a_below : w.0 < w.1 = in_turn rows order w k ordered first.pair.1 first.pair.2 first.pair.3 first.pair.4 in
    let apart : Apart rows w.1 = λ i j h l. is_false (is_twice rows i j) (λ t. let v = least_pair rows order (Some w) ordered first i j h (omega (arith, l, b_within)) t in let same : w ≡ v.0 = cc in let least : w.1 ≡ v.0.1 = ap (λ (x : ℕ × ℕ). x.1) same in omega (arith, v.2, least, l)) in
    let p : Placed = placed_at rows w.1 in
    let at : position (is_at p.table p.row.key) (take w.1 rows) ≡ Some w.0 = some_at rows (is_at p.table p.row.key) w.0 w.1 a_below (omega (arith, b_within)) first.pair.4 (λ i l. is_false _ (λ t. false≢true (sym (apart i w.0 l a_below) ∙ both_twice rows i w.0 w.1 t first.pair.4))) in
    passed rows w.1 (omega (arith, b_within)) apart w.1 (omega arith)
    ∙ ap (once_behind (take w.1 rows)) (drop-cons rows w.1 _ b_within)
    ∙ ap (λ o. refuse_twice o (length (take w.1 rows) + 1) >> once_behind (take w.1 rows ++ p ∷ []) (drop (suc w.1) rows)) at
    ∙ ap (λ n. Err (DuplicateKey (w.0 + 1) (n + 1))) (length-take-le w.1 rows (omega (arith, b_within)))

-- ---- rows in strict order

strictly : {K : Type 0} (R : K → K → Ordering) (o : IsTotalOrder R) (xs : List K) (d : K) → ((k : ℕ) → k + 1 < length xs → R (get_or xs k d) (get_or xs (k + 1) d) ≡ Less) → IsStrictlySortedBy R xs
unfolding IsStrictlySortedBy
strictly R o [] d up = tt
strictly R o (x ∷ []) d up = (tt, tt)
strictly {K} R o (x ∷ y ∷ xs) d up =
    let rest : IsStrictlySortedBy R (y ∷ xs) = strictly R o (y ∷ xs) d (λ k l.
    let next : suc k + 1 ≡ suc (k + 1) = omega arith in
    subst (λ n. R (get_or (y ∷ xs) k d) (get_or (x ∷ y ∷ xs) n d) ≡ Less) next (up (suc k) (omega (arith, l)))) in
    let first : R x y ≡ Less = up 0 (omega arith) in
    ((first, below xs rest.0), rest)
  where
    below : (ys : List K) → AllByRecursion (λ z. R y z ≡ Less) ys → AllByRecursion (λ z. R x z ≡ Less) ys
    below [] all = tt
    below (z ∷ ys) all = (o.trans x y z (up 0 (omega arith)) all.0, below ys all.1)

-- Where no row comes twice, the rows in this order rise strictly.
pub strict_order : (rows : List Placed) (order : List ℕ) → IsOrder rows order → IsFirstTwice rows order (length order) None → IsStrictlySortedBy placed_cmp (map (placed_at rows) order)
strict_order rows order ordered first = strictly placed_cmp placed_total (map (placed_at rows) order) (placed_at rows 0) (λ k l.
    let h : k + 1 < length order = omega (arith, l, length-map order (placed_at rows)) in
    let x : ℕ = get_or order k 0 in
    let y : ℕ = get_or order (k + 1) 0 in
    let apart : is_twice rows x y ≡ false = is_false (is_twice rows x y) (λ t. let w = first.least k h t in absurd (cc)) in
    let less : placed_cmp (placed_at rows x) (placed_at rows y) ≡ Less = upward (placed_cmp (placed_at rows y) (placed_at rows x)) (not_less _ (nat_cmp y x) (far rows order ordered k (k + 1) (omega arith) h))
    (placed_total.antisymm (placed_at rows x) (placed_at rows y)) (λ e. false≢true (sym apart ∙ ties_twice rows x y e)) in
    (λ i. placed_cmp (get_or-map (placed_at rows) order k 0 (placed_at rows 0) (omega (arith, h)) i) (get_or-map (placed_at rows) order (k + 1) 0 (placed_at rows 0) h i)) ∙ less)
  where
    upward : {o : Ordering} (r : Ordering) → (r ≡ Less → ⊥) → o ≡ ordering_reverse r → (o ≡ Equal → ⊥) → o ≡ Less
    upward Less f e g = absurd (f refl)
    upward Equal f e g = absurd (g e)
    upward Greater f e g = e
