-- Rows in another order: what stays, and what the order by table and key makes of them.
use Rattle.std.proofs.Common.{◌≡◌, ℕ, zero, suc, ◌+◌, ◌<◌, List, [], ◌∷◌, length, map, get_or, refl, sym, ◌∙◌, ap, subst, arith, inl, inr}
use Rattle.std.specs.Prelude.{Bool, true, false, ◌&&◌, ◌==◌, cond, T, filter, sum_by, ◌⊎◌, nat_abs, pos, slice_index_or}
use Rattle.std.specs.List.{AllByRecursion, Contains}
use Rattle.std.specs.List.Sorted.{IsPermutation, IsStrictlySortedBy}
use Rattle.std.specs.declared.cmp.Ordering.TheVariants.{Less, Equal}
use Rattle.std.specs.Ordering.{is_eq, is_lt, nat_cmp, ordering_then}
use Rattle.std.specs.Cmp.{IsTotalOrder, nat_cmp_total, then_total, on_total, unsigned_ties, tied_then, eq_by_cmp_equiv}
use Rattle.std.specs.Cmp.Lexicographic.{nat_list_cmp_total, texts_ties}
use Rattle.std.specs.FinMap.Entries.{below_all}
use Rattle.std.proofs.lemmas.Bool.Decides.{nat_tests}
use Rattle.std.proofs.lemmas.List.Sums.{sum_by-cons}
use Rattle.std.proofs.lemmas.List.Sorted.{Contains-permutation, sum_by-IsPermutation}
use Rattle.std.proofs.lemmas.Map.Keys.{sorted_head, sorted_tail}
use Rattle.mesa_list.specs.Bytes.{same_bytes}
use Rattle.mesa_schema.specs.mesa_value.declared.Agg.{Agg}
use Rattle.mesa_schema.specs.mesa_key.Order.{byte_cmp}
use Rattle.mesa_schema.specs.mesa_columns.declared.rows.Row.{Row}
use Rattle.mesa_schema.specs.mesa_columns.Columns.{Columns, aggs_of}
use Rattle.mesa_schema.specs.mesa_fold.Folded.{folded, values_at}
use Rattle.mesa_schema.proofs.mesa_fold.Keys.{is_rising, pairs}
use Rattle.mesa_schema.proofs.mesa_fold.Folds.{is_equal, keys}
use Rattle.mesa_batch.specs.Batch.{Placed, is_at, rows_for}
use Rattle.mesa_batch.specs.Flat.{placed_cmp}
use Rattle.mesa_batch.specs.Totals.{abs_total, abs_totals, sum_places}
use Rattle.mesa_batch.proofs.FoldedRows.{folds_to}
use Rattle.mesa_batch.proofs.NameNumbers.{same_name}

-- ---- tests

pub same_number : (a b n : ℕ) → (a == n) ≡ true → (b == n) ≡ true → (a == b) ≡ true
same_number a b n e f = grind (arith, nat_tests)

pub own_number : (n : ℕ) → (n == n) ≡ true
own_number n = grind (arith, nat_tests)

pub eqb_swap : (a b : ℕ) → (a == b) ≡ (b == a)
eqb_swap a b = grind (arith, nat_tests)

pub and_left : (a b : Bool) → (a && b) ≡ true → a ≡ true
and_left true b e = refl
and_left false b e = e

pub and_right : (a b : Bool) → (a && b) ≡ true → b ≡ true
and_right true b e = e
and_right false b e = absurd (cc)

pub both_true : (a b : Bool) → a ≡ true → b ≡ true → (a && b) ≡ true
both_true a b e f = λ i. e i && f i

and_T : (a b : Bool) → T a → T b → T (a && b)
and_T true b h k = k
and_T false b h k = absurd h

-- ---- the order of rows

pub placed_total : IsTotalOrder placed_cmp
placed_total = then_total (on_total (λ (p : Placed). p.table) nat_cmp_total) (on_total (λ (p : Placed). p.row.key) nat_list_cmp_total)

-- rows tie where both tables and keys do
pub tied_rows : (a b : Placed) → is_eq (placed_cmp a b) ≡ is_at b.table b.row.key a
tied_rows a b = sym (tied_then (nat_cmp a.table b.table) (byte_cmp a.row.key b.row.key)) ∙ λ i. sym (unsigned_ties a.table b.table) i && ((eq_by_cmp_equiv nat_list_cmp_total).symm a.row.key b.row.key ∙ sym (texts_ties b.row.key a.row.key)) i

-- ---- what a filter keeps

pub filter_map : {X Y : Type 0} (f : X → Y) (p : Y → Bool) (xs : List X) → filter p (map f xs) ≡ map f (filter (λ x. p (f x)) xs)
filter_map f p [] = refl
filter_map f p (x ∷ xs) = elim (p (f x)) as (λ b. cond b (f x ∷ filter p (map f xs)) (filter p (map f xs)) ≡ map f (cond b (x ∷ filter (λ x. p (f x)) xs) (filter (λ x. p (f x)) xs))) [
  | true ↦ ap (λ l. f x ∷ l) (filter_map f p xs)
  | false ↦ filter_map f p xs
]

filter_filter : {X : Type 0} (p q : X → Bool) (xs : List X) → filter p (filter q xs) ≡ filter (λ x. q x && p x) xs
filter_filter p q [] = refl
filter_filter {X} p q (x ∷ xs) =
    elim (q x) as (λ b. filter p (cond b (x ∷ filter q xs) (filter q xs)) ≡ cond (b && p x) (x ∷ filter (λ x. q x && p x) xs) (filter (λ x. q x && p x) xs)) [
      | true ↦ ap (λ l. cond (p x) (x ∷ l) l) (filter_filter p q xs)
      | false ↦ filter_filter p q xs
    ]

-- what the rows that pass weigh
sum-filter : {X : Type 0} (f : X → ℕ) (p : X → Bool) (xs : List X) → sum_by f (filter p xs) ≡ sum_by (λ x. cond (p x) (f x) 0) xs
sum-filter f p [] = refl
sum-filter f p (x ∷ xs) =
    elim (p x) as (λ b. sum_by f (cond b (x ∷ filter p xs) (filter p xs)) ≡ cond b (f x) 0 + sum_by (λ x. cond (p x) (f x) 0) xs) [
      | true ↦ sum_by-cons f x (filter p xs) ∙ ap (λ n. f x + n) (sum-filter f p xs)
      | false ↦ let rest : sum_by f (filter p xs) ≡ sum_by (λ x. cond (p x) (f x) 0) xs = sum-filter f p xs in omega arith
    ] ∙ sym (sum_by-cons (λ x. cond (p x) (f x) 0) x xs)

sum-ones : {X : Type 0} (xs : List X) → sum_by (λ x. 1) xs ≡ length xs
sum-ones [] = refl
sum-ones (x ∷ xs) = sum_by-cons (λ x. 1) x xs ∙ (let rest : sum_by (λ x. 1) xs ≡ length xs = sum-ones xs in omega arith)

sum_by-map : {X Y : Type 0} (f : Y → ℕ) (g : X → Y) (xs : List X) → sum_by f (map g xs) ≡ sum_by (λ x. f (g x)) xs
sum_by-map f g [] = refl
sum_by-map f g (x ∷ xs) = sum_by-cons f (g x) (map g xs) ∙ ap (λ n. f (g x) + n) (sum_by-map f g xs) ∙ sym (sum_by-cons (λ x. f (g x)) x xs)

-- as many pass in any order
pub length-filter : {X : Type 0} (p : X → Bool) (xs ys : List X) → IsPermutation xs ys → length (filter p ys) ≡ length (filter p xs)
length-filter p xs ys moved =
    sym (sum-ones (filter p ys)) ∙ sum-filter (λ x. 1) p ys ∙ sum_by-IsPermutation (λ x. cond (p x) 1 0) xs ys moved ∙ sym (sum-filter (λ x. 1) p xs) ∙ sum-ones (filter p xs)

-- what is among those that pass is among all, and passes
pub kept-there : {X : Type 0} (p : X → Bool) (xs : List X) (y : X) → Contains (filter p xs) y → Contains xs y × (p y ≡ true)
kept-there p [] y at = absurd (omega (arith, at.1))
kept-there {X} p (x ∷ xs) y at =
    elim (p x) as (λ b. p x ≡ b → Contains (cond b (x ∷ filter p xs) (filter p xs)) y → Contains (x ∷ xs) y × (p y ≡ true)) [
      | true ↦ λ e at. front (kept-there p xs y) e at.0 at.1 at.2
      | false ↦ λ e at. later (kept-there p xs y at)
    ] refl at
  where
    later : Contains xs y × (p y ≡ true) → Contains (x ∷ xs) y × (p y ≡ true)
    later found = ((suc found.0.0, omega (arith, found.0.1), found.0.2), found.1)

    front : (Contains (filter p xs) y → Contains xs y × (p y ≡ true)) → p x ≡ true → (k : ℕ) → k < length (x ∷ filter p xs) → get_or (x ∷ filter p xs) k y ≡ y → Contains (x ∷ xs) y × (p y ≡ true)
    front rest e zero h same = ((zero, omega arith, same), subst (λ z. p z ≡ true) same e)
    front rest e (suc k) h same = later (rest (k, omega (arith, h), same))

pub there-kept : {X : Type 0} (p : X → Bool) (xs : List X) (y : X) → Contains xs y → p y ≡ true → Contains (filter p xs) y
there-kept p [] y at e = absurd (omega (arith, at.1))
there-kept {X} p (x ∷ xs) y at e = by (λ at. there-kept p xs y at e) at.0 at.1 at.2
  where
    behind : Contains (filter p xs) y → Contains (filter p (x ∷ xs)) y
    behind found = elim (p x) as (λ b. Contains (cond b (x ∷ filter p xs) (filter p xs)) y) [
      | true ↦ (suc found.0, omega (arith, found.1), found.2)
      | false ↦ found
    ]

    by : (Contains xs y → Contains (filter p xs) y) → (k : ℕ) → k < length (x ∷ xs) → get_or (x ∷ xs) k y ≡ y → Contains (filter p (x ∷ xs)) y
    by rest zero h same =
        let here : p x ≡ true = subst (λ z. p z ≡ true) (sym same) e in
        subst (λ b. Contains (cond b (x ∷ filter p xs) (filter p xs)) y) (sym here) (zero, omega arith, same)
    by rest (suc k) h same = behind (rest (k, omega (arith, h), same))

-- where at most one passes, the same one passes in any order
pub filter-same : {X : Type 0} (p : X → Bool) (xs ys : List X) → IsPermutation xs ys → (filter p ys ≡ []) ⊎ ((y : X) × (filter p ys ≡ y ∷ [])) → filter p xs ≡ filter p ys
filter-same {X} p xs ys moved (inl none) = empty (filter p xs) (sym (length-filter p xs ys moved) ∙ ap length none) ∙ sym none
  where
    empty : (l : List X) → length l ≡ 0 → l ≡ []
    empty [] e = refl
    empty (x ∷ l) e = absurd (omega (arith, e))
filter-same {X} p xs ys moved (inr one) = single (filter p xs) refl (sym (length-filter p xs ys moved) ∙ ap length one.1) ∙ sym one.1
  where
    only : (a : X) → Contains (one.0 ∷ []) a → a ≡ one.0
    only a (zero, h, same) = sym same
    only a (suc k, h, same) = absurd (omega (arith, h))

    single : (l : List X) → filter p xs ≡ l → length l ≡ 1 → l ≡ one.0 ∷ []
    single [] e n = absurd (omega (arith, n))
    single (a ∷ []) e n =
        let at : Contains (filter p xs) a = subst (λ l. Contains l a) (sym e) (zero, omega arith, refl) in
        let there = kept-there p xs a at in
        let found : Contains (filter p ys) a = there-kept p ys a (Contains-permutation xs ys a moved there.0) there.1 in
        ap (λ x. x ∷ []) (only a (subst (λ l. Contains l a) one.1 found))
    single (a ∷ b ∷ l) e n = absurd (omega (arith, n))

-- ---- rows of one table, in the order of their keys

own_key : (k : List ℕ) → same_bytes k k ≡ true
own_key k = texts_ties k k ∙ (eq_by_cmp_equiv nat_list_cmp_total).refl k

-- rows of one table that rise have keys that rise
keys_rise : (a b : Placed) (table : ℕ) → (a.table == table) ≡ true → (b.table == table) ≡ true → placed_cmp a b ≡ Less → byte_cmp a.row.key b.row.key ≡ Less
keys_rise a b table e f less =
    let same : (a.table == b.table) ≡ true = same_number a.table b.table table e f in
    let tied : nat_cmp a.table b.table ≡ Equal = is_equal _ (sym (unsigned_ties a.table b.table) ∙ same) in
    sym (ap (λ o. ordering_then o (byte_cmp a.row.key b.row.key)) tied) ∙ less

below_kept : (first : Placed) (table : ℕ) (ps : List Placed) → (first.table == table) ≡ true → AllByRecursion (λ (p : Placed). placed_cmp first p ≡ Less) ps
    → T (below_all byte_cmp first.row.key (pairs (keys (rows_for table ps))))
below_kept first table [] here all = tt
below_kept first table (p ∷ ps) here all =
    elim (p.table == table) as (λ b. (p.table == table) ≡ b
    → T (below_all byte_cmp first.row.key (pairs (keys (map (λ (p : Placed). p.row) (cond b (p ∷ filter (λ (p : Placed). p.table == table) ps) (filter (λ (p : Placed). p.table == table) ps))))))) [
      | true ↦ λ f.
          let less : byte_cmp first.row.key p.row.key ≡ Less = keys_rise first p table here f all.0 in
          and_T _ _ (subst (λ o. T (is_lt o)) (sym less) tt) (below_kept first table ps here all.1)
      | false ↦ λ f. below_kept first table ps here all.1
    ] refl

rising-kept : (table : ℕ) (ps : List Placed) → IsStrictlySortedBy placed_cmp ps → T (is_rising (keys (rows_for table ps)))
rising-kept table [] sorted = tt
rising-kept table (p ∷ ps) sorted =
    elim (p.table == table) as (λ b. (p.table == table) ≡ b
    → T (is_rising (keys (map (λ (p : Placed). p.row) (cond b (p ∷ filter (λ (p : Placed). p.table == table) ps) (filter (λ (p : Placed). p.table == table) ps)))))) [
      | true ↦ λ f. and_T _ _ (below_kept p table ps f (sorted_head placed_cmp p ps sorted)) (rising-kept table ps (sorted_tail placed_cmp p ps sorted))
      | false ↦ λ f. rising-kept table ps (sorted_tail placed_cmp p ps sorted)
    ] refl

none_after : (p : Placed → Bool) → ((a b : Placed) → p a ≡ true → p b ≡ true → placed_cmp a b ≡ Equal) → (e : Placed) → p e ≡ true → (es : List Placed) → AllByRecursion (λ (k : Placed). placed_cmp e k ≡ Less) es → filter p es ≡ []
none_after p ties e t [] all = refl
none_after p ties e t (x ∷ es) all =
    elim (p x) as (λ b. p x ≡ b → cond b (x ∷ filter p es) (filter p es) ≡ []) [
      | true ↦ λ f. let tied : placed_cmp e x ≡ Equal = ties e x t f in let less : placed_cmp e x ≡ Less = all.0 in cc
      | false ↦ λ f. none_after p ties e t es all.1
    ] refl

-- of sorted rows at most one passes a test of a table and a key
at_most_one : (p : Placed → Bool) → ((a b : Placed) → p a ≡ true → p b ≡ true → placed_cmp a b ≡ Equal) → (es : List Placed) → IsStrictlySortedBy placed_cmp es → (filter p es ≡ []) ⊎ ((e : Placed) × (filter p es ≡ e ∷ []))
at_most_one p ties [] sorted = inl refl
at_most_one p ties (e ∷ es) sorted =
    elim (p e) as (λ b. p e ≡ b → (cond b (e ∷ filter p es) (filter p es) ≡ []) ⊎ ((x : Placed) × (cond b (e ∷ filter p es) (filter p es) ≡ x ∷ []))) [
      | true ↦ λ t. inr (e, ap (λ l. e ∷ l) (none_after p ties e t es (sorted_head placed_cmp e es sorted)))
      | false ↦ λ t. at_most_one p ties es (sorted_tail placed_cmp e es sorted)
    ] refl

-- whether a row is this table's of this key
abbrev stands : ℕ → List ℕ → Placed → Bool
stands table key p = (p.table == table) && same_bytes key p.row.key

stands_ties : (table : ℕ) (key : List ℕ) (a b : Placed) → stands table key a ≡ true → stands table key b ≡ true → placed_cmp a b ≡ Equal
stands_ties table key a b e f =
    let same : (a.table == b.table) ≡ true = same_number a.table b.table table (and_left _ _ e) (and_left _ _ f) in
    let keys : b.row.key ≡ a.row.key = sym (same_name key b.row.key (and_right _ _ f)) ∙ same_name key a.row.key (and_right _ _ e) in
    let equal : same_bytes b.row.key a.row.key ≡ true = subst (λ k. same_bytes b.row.key k ≡ true) keys (own_key b.row.key) in
    is_equal _ (tied_rows a b ∙ both_true _ _ same equal)

values_of : (key : List ℕ) (table : ℕ) (ps : List Placed) → values_at key (rows_for table ps) ≡ map (λ (r : Row). r.values) (map (λ (p : Placed). p.row) (filter (stands table key) ps))
values_of key table ps = ap (map (λ (r : Row). r.values)) (
    filter_map (λ (p : Placed). p.row) (λ (r : Row). same_bytes key r.key) (filter (λ (p : Placed). p.table == table) ps)
    ∙ ap (map (λ (p : Placed). p.row)) (filter_filter (λ (p : Placed). same_bytes key p.row.key) (λ (p : Placed). p.table == table) ps))

same_values : (table : ℕ) (xs ys : List Placed) → IsPermutation xs ys → IsStrictlySortedBy placed_cmp ys → (key : List ℕ) → values_at key (rows_for table xs) ≡ values_at key (rows_for table ys)
same_values table xs ys moved sorted key =
    values_of key table xs
    ∙ ap (λ l. map (λ (r : Row). r.values) (map (λ (p : Placed). p.row) l)) (filter-same (stands table key) xs ys moved (at_most_one (stands table key) (stands_ties table key) ys sorted))
    ∙ sym (values_of key table ys)

-- A table's rows in order are the fold of its rows,
pub sorted-folded : (table : ℕ) (aggs : List Agg) (xs ys : List Placed) → IsPermutation xs ys → IsStrictlySortedBy placed_cmp ys → folded aggs (rows_for table xs ∷ []) ≡ rows_for table ys
sorted-folded table aggs xs ys moved sorted = folds_to aggs (rows_for table xs) (rows_for table ys) (rising-kept table ys sorted) (same_values table xs ys moved sorted)

-- and of themselves,
pub sorted-fold : (table : ℕ) (aggs : List Agg) (ys : List Placed) → IsStrictlySortedBy placed_cmp ys → folded aggs (rows_for table ys ∷ []) ≡ rows_for table ys
sorted-fold table aggs ys sorted = folds_to aggs (rows_for table ys) (rows_for table ys) (rising-kept table ys sorted) (λ q. refl)

same_total : (column table : ℕ) (xs ys : List Placed) → IsPermutation xs ys → abs_total column (rows_for table ys) ≡ abs_total column (rows_for table xs)
same_total column table xs ys moved =
    let weigh : Row → ℕ = λ (row : Row). nat_abs (slice_index_or row.values column (pos 0)) in
    let at_table : Placed → Bool = λ p. p.table == table in
    sum_by-map weigh (λ (p : Placed). p.row) (filter at_table ys)
    ∙ sum-filter (λ (p : Placed). weigh p.row) at_table ys
    ∙ sum_by-IsPermutation (λ (p : Placed). cond (at_table p) (weigh p.row) 0) xs ys moved
    ∙ sym (sum-filter (λ (p : Placed). weigh p.row) at_table xs)
    ∙ sym (sum_by-map weigh (λ (p : Placed). p.row) (filter at_table xs))

-- and have their totals.
pub sorted-totals : (s : Columns) (table : ℕ) (xs ys : List Placed) → IsPermutation xs ys → abs_totals s (rows_for table ys) ≡ abs_totals s (rows_for table xs)
sorted-totals s table xs ys moved = λ i. map (λ column. same_total column table xs ys moved i) (sum_places 0 (aggs_of s))
