-- Totals through changes.
use Rattle.std.proofs.Common.{◌≡◌, ℕ, zero, suc, ◌+◌, ◌<◌, ℤ, pos, List, [], ◌∷◌, ◌++◌, length, map, take, drop, get_or, refl, sym, ◌∙◌, ap, subst, arith, append_assoc, add-one, Bool, true, false, cond, zero-add}
use Rattle.std.specs.Prelude.{nat_abs, unwrap_or}
use Rattle.std.specs.List.{AllByRecursion}
use Rattle.std.proofs.lemmas.List.{append-nil, length-map, map-append}
use Rattle.std.proofs.lemmas.List.Sums.{sum_by-cons}
use Rattle.mesa_schema.specs.mesa_value.declared.Agg.{Agg}
use Rattle.mesa_schema.specs.mesa_value.declared.Agg.TheVariants.{Sum, Min, Max, Replace}
use Rattle.mesa_schema.specs.mesa_columns.declared.changes.Change.{Change}
use Rattle.mesa_schema.specs.mesa_columns.declared.changes.Change.TheVariants.{AddKey, AddValue, DropValue}
use Rattle.mesa_schema.specs.mesa_columns.declared.columns.ValueColumn.{ValueColumn}
use Rattle.mesa_schema.specs.mesa_columns.declared.rows.Row.{Row}
use Rattle.mesa_schema.specs.mesa_columns.Columns.{Columns, aggs_of, place_of, value_names}
use Rattle.mesa_schema.specs.mesa_columns.Changes.{changed, lifted_once, without}
use Rattle.mesa_schema.specs.Lineages.{HasDefault}
use Rattle.mesa_schema.specs.mesa_columns.Rows.{AreRowsOf, IsRowOf}
use Rattle.mesa_schema.proofs.mesa_columns.Drops.{without-map, without-nil, without-suc}
use Rattle.mesa_batch.specs.Totals.{AreAtMost, abs_total, abs_totals, is_sum, sum_places, sums_in, totals_after, totals_without}

-- ---- sum columns by a function of their places

sums_of : List Agg → (ℕ → ℕ) → List ℕ
sums_of [] f = []
sums_of (a ∷ aggs) f = cond (is_sum a) (f zero ∷ []) [] ++ sums_of aggs (λ k. f (suc k))

sums_same : (aggs : List Agg) (f g : ℕ → ℕ) → ((k : ℕ) → k < length aggs → f k ≡ g k) → sums_of aggs f ≡ sums_of aggs g
unfolding sums_of
sums_same [] f g same = refl
sums_same (a ∷ aggs) f g same = λ i. cond (is_sum a) (same zero (omega arith) i ∷ []) [] ++ sums_same aggs (λ k. f (suc k)) (λ k. g (suc k)) (λ k lt. same (suc k) (omega (arith, lt))) i

places_sums : (n : ℕ) (aggs : List Agg) (f : ℕ → ℕ) → map f (sum_places n aggs) ≡ sums_of aggs (λ k. f (n + k))
unfolding sums_of
places_sums n [] f = refl
places_sums n (a ∷ aggs) f = first a ∙ ap (λ rest. cond (is_sum a) (f (n + 0) ∷ []) [] ++ rest) (places_sums (n + 1) aggs f ∙ sums_same aggs (λ k. f (n + 1 + k)) (λ k. f (n + suc k)) (λ k lt. let e : n + 1 + k ≡ n + suc k = omega arith in ap f e))
  where
    here : f n ≡ f (n + 0)
    here = let e : n ≡ n + 0 = omega arith in ap f e

    first : (a : Agg) → map f (sum_places n (a ∷ aggs)) ≡ cond (is_sum a) (f (n + 0) ∷ []) [] ++ map f (sum_places (n + 1) aggs)
    first Sum = ap (λ x. x ∷ map f (sum_places (n + 1) aggs)) here
    first Min = refl
    first Max = refl
    first Replace = refl

abs_sums : (s : Columns) (rows : List Row) → abs_totals s rows ≡ sums_of (aggs_of s) (λ k. abs_total k rows)
abs_sums s rows = places_sums 0 (aggs_of s) (λ k. abs_total k rows) ∙ sums_same (aggs_of s) (λ k. abs_total (0 + k) rows) (λ k. abs_total k rows) (λ k lt. ap (λ n. abs_total n rows) (zero-add k))

-- ---- a column more, and a column less

sums_push : (aggs : List Agg) (a : Agg) (f : ℕ → ℕ) → sums_of (aggs ++ a ∷ []) f ≡ sums_of aggs f ++ cond (is_sum a) (f (length aggs) ∷ []) []
unfolding sums_of
sums_push [] a f = append-nil (cond (is_sum a) (f zero ∷ []) [])
sums_push (b ∷ aggs) a f = ap (λ rest. cond (is_sum b) (f zero ∷ []) [] ++ rest) (sums_push aggs a (λ k. f (suc k))) ∙ sym (append_assoc (cond (is_sum b) (f zero ∷ []) []) (sums_of aggs (λ k. f (suc k))) (cond (is_sum a) (f (suc (length aggs)) ∷ []) []))

-- a place, where another one is left out
skip : ℕ → ℕ → ℕ
skip zero k = suc k
skip (suc i) zero = zero
skip (suc i) (suc k) = suc (skip i k)

count_places : (n m : ℕ) (aggs : List Agg) → length (sum_places n aggs) ≡ length (sum_places m aggs)
count_places n m [] = refl
count_places n m (Sum ∷ aggs) = ap suc (count_places (n + 1) (m + 1) aggs)
count_places n m (Min ∷ aggs) = count_places (n + 1) (m + 1) aggs
count_places n m (Max ∷ aggs) = count_places (n + 1) (m + 1) aggs
count_places n m (Replace ∷ aggs) = count_places (n + 1) (m + 1) aggs

sums_first : (a : Agg) (aggs : List Agg) → sums_in (a ∷ aggs) ≡ cond (is_sum a) (suc (sums_in aggs)) (sums_in aggs)
sums_first Sum aggs = ap suc (count_places 1 0 aggs)
sums_first Min aggs = count_places 1 0 aggs
sums_first Max aggs = count_places 1 0 aggs
sums_first Replace aggs = count_places 1 0 aggs

cut_first : (b : Bool) (x : ℕ) (n m : ℕ) (rest : List ℕ) → take (cond b (suc n) n) (cond b (x ∷ []) [] ++ rest) ++ drop (cond b (suc m) m) (cond b (x ∷ []) [] ++ rest) ≡ cond b (x ∷ []) [] ++ (take n rest ++ drop m rest)
cut_first true x n m rest = refl
cut_first false x n m rest = refl

sums_less : (aggs : List Agg) (i : ℕ) (f : ℕ → ℕ) → sums_of (without i aggs) (λ k. f (skip i k)) ≡ totals_without aggs i (sums_of aggs f)
unfolding sums_of skip
sums_less [] zero f = refl
sums_less [] (suc i) f =
    ap (λ gs. sums_of gs (λ k. f (skip (suc i) k))) (without-nil (suc i))
    ∙ ap (λ n. take (sums_in (take (suc i) [])) [] ++ drop (sums_in (take n [])) []) (sym (add-one (suc i)))
sums_less (Sum ∷ aggs) zero f = refl
sums_less (Min ∷ aggs) zero f = refl
sums_less (Max ∷ aggs) zero f = refl
sums_less (Replace ∷ aggs) zero f = refl
sums_less (a ∷ aggs) (suc i) f =
    let rest : List ℕ = sums_of aggs (λ k. f (suc k)) in
    let whole : List ℕ = cond (is_sum a) (f zero ∷ []) [] ++ rest in
    let next : suc i + 1 ≡ suc (i + 1) = omega arith in
    ap (λ gs. sums_of gs (λ k. f (skip (suc i) k))) (without-suc i a aggs)
    ∙ ap (λ less. cond (is_sum a) (f zero ∷ []) [] ++ less) (sums_less aggs i (λ k. f (suc k)))
    ∙ sym (cut_first (is_sum a) (f zero) (sums_in (take i aggs)) (sums_in (take (i + 1) aggs)) rest)
    ∙ sym (λ j. take (sums_first a (take i aggs) j) whole ++ drop ((ap (λ n. sums_in (take n (a ∷ aggs))) next ∙ sums_first a (take (i + 1) aggs)) j) whole)

-- ---- the values of lifted rows

same_total : (P : Row → Type 0) (c d : ℕ) (f : Row → Row) (rows : List Row) → ((row : Row) → P row → get_or (f row).values c (pos 0) ≡ get_or row.values d (pos 0)) → AllByRecursion P rows → abs_total c (map f rows) ≡ abs_total d rows
same_total P c d f [] same all = refl
same_total P c d f (row ∷ rows) same all =
    sum_by-cons (λ (r : Row). nat_abs (get_or r.values c (pos 0))) (f row) (map f rows)
    ∙ (λ i. nat_abs (same row all.0 i) + same_total P c d f rows same all.1 i)
    ∙ sym (sum_by-cons (λ (r : Row). nat_abs (get_or r.values d (pos 0))) row rows)

no_total : (P : Row → Type 0) (c : ℕ) (f : Row → Row) (rows : List Row) → ((row : Row) → P row → get_or (f row).values c (pos 0) ≡ pos 0) → AllByRecursion P rows → abs_total c (map f rows) ≡ 0
no_total P c f [] none all = refl
no_total P c f (row ∷ rows) none all =
    sum_by-cons (λ (r : Row). nat_abs (get_or r.values c (pos 0))) (f row) (map f rows) ∙ (λ i. nat_abs (none row all.0 i) + no_total P c f rows none all.1 i)

before_push : (vs : List ℤ) (v : ℤ) (k : ℕ) → k < length vs → get_or (vs ++ v ∷ []) k (pos 0) ≡ get_or vs k (pos 0)
before_push [] v k lt = absurd (omega arith)
before_push (x ∷ vs) v zero lt = refl
before_push (x ∷ vs) v (suc k) lt = before_push vs v k (omega (arith, lt))

at_push : (vs : List ℤ) (v : ℤ) (k : ℕ) → k ≡ length vs → get_or (vs ++ v ∷ []) k (pos 0) ≡ v
at_push [] v zero e = refl
at_push [] v (suc k) e = absurd (omega arith)
at_push (x ∷ vs) v zero e = absurd (omega arith)
at_push (x ∷ vs) v (suc k) e = at_push vs v k (omega (arith, e))

without_at : (vs : List ℤ) (i k : ℕ) → get_or (without i vs) k (pos 0) ≡ get_or vs (skip i k) (pos 0)
unfolding skip
without_at [] i k = ap (λ xs. get_or xs k (pos 0)) (without-nil i)
without_at (v ∷ vs) zero k = refl
without_at (v ∷ vs) (suc i) zero = ap (λ xs. get_or xs zero (pos 0)) (without-suc i v vs)
without_at (v ∷ vs) (suc i) (suc k) = ap (λ xs. get_or xs (suc k) (pos 0)) (without-suc i v vs) ∙ without_at vs i k

-- ---- totals that are at most others

at_take : (n : ℕ) (xs ys : List ℕ) → AreAtMost xs ys → AreAtMost (take n xs) (take n ys)
at_take zero xs ys h = tt
at_take (suc n) [] [] h = tt
at_take (suc n) [] (y ∷ ys) h = absurd h
at_take (suc n) (x ∷ xs) [] h = absurd h
at_take (suc n) (x ∷ xs) (y ∷ ys) h = (h.0, at_take n xs ys h.1)

at_drop : (n : ℕ) (xs ys : List ℕ) → AreAtMost xs ys → AreAtMost (drop n xs) (drop n ys)
at_drop zero xs ys h = h
at_drop (suc n) [] [] h = tt
at_drop (suc n) [] (y ∷ ys) h = absurd h
at_drop (suc n) (x ∷ xs) [] h = absurd h
at_drop (suc n) (x ∷ xs) (y ∷ ys) h = at_drop n xs ys h.1

at_append : (xs ys us vs : List ℕ) → AreAtMost xs ys → AreAtMost us vs → AreAtMost (xs ++ us) (ys ++ vs)
at_append [] [] us vs h k = k
at_append [] (y ∷ ys) us vs h k = absurd h
at_append (x ∷ xs) [] us vs h k = absurd h
at_append (x ∷ xs) (y ∷ ys) us vs h k = (h.0, at_append xs ys us vs h.1 k)

-- ---- the law

added_totals : (s : Columns) (column : ValueColumn) (d : ℤ) (rows : List Row) → AreRowsOf s rows
    → abs_totals (changed s (AddValue column d)) (map (lifted_once s (AddValue column d)) rows) ≡ abs_totals s rows ++ cond (is_sum column.agg) (abs_total (length (aggs_of s)) (map (lifted_once s (AddValue column d)) rows) ∷ []) []
added_totals s column d rows all =
    let c : Change = AddValue column d in
    let lifted : List Row = map (lifted_once s c) rows in
    let count : length (aggs_of s) ≡ length s.values = length-map s.values (λ (v : ValueColumn). v.agg) in
    abs_sums (changed s c) lifted
    ∙ ap (λ gs. sums_of gs (λ k. abs_total k lifted)) (map-append (λ (v : ValueColumn). v.agg) s.values (column ∷ []))
    ∙ sums_push (aggs_of s) column.agg (λ k. abs_total k lifted)
    ∙ ap (λ xs. xs ++ cond (is_sum column.agg) (abs_total (length (aggs_of s)) lifted ∷ []) [])
    (sums_same (aggs_of s) (λ k. abs_total k lifted) (λ k. abs_total k rows) (λ k lt. same_total (IsRowOf s) k k (lifted_once s c) rows (λ row form. before_push row.values d k (omega (arith, lt, count, form.values))) all)
    ∙ sym (abs_sums s rows))

value_added : (s : Columns) (column : ValueColumn) (d : ℤ) (agg : Agg) (rows : List Row) (totals : List ℕ) → column.agg ≡ agg → HasDefault (AddValue column d) → AreRowsOf s rows → AreAtMost (abs_totals s rows) totals
    → AreAtMost (abs_totals (changed s (AddValue column d)) (map (lifted_once s (AddValue column d)) rows)) (totals_after s (AddValue column d) totals)
value_added s column d agg rows totals e default all most =
    let c : Change = AddValue column d in
    let lifted : List Row = map (lifted_once s c) rows in
    let count : length (aggs_of s) ≡ length s.values = length-map s.values (λ (v : ValueColumn). v.agg) in
    subst (λ xs. AreAtMost xs (totals_after s c totals)) (sym (added_totals s column d rows all)) (
    by agg e default (abs_total (length (aggs_of s)) lifted) (λ z. no_total (IsRowOf s) (length (aggs_of s)) (lifted_once s c) rows (λ row form. at_push row.values d (length (aggs_of s)) (count ∙ sym form.values) ∙ z) all))
  where
    by : (agg : Agg) → column.agg ≡ agg → HasDefault (AddValue column d) → (n : ℕ) → (d ≡ pos 0 → n ≡ 0)
        → AreAtMost (abs_totals s rows ++ cond (is_sum column.agg) (n ∷ []) []) (cond (is_sum column.agg) (totals ++ 0 ∷ []) totals)
    by Sum e default n none =
        let z : d ≡ pos 0 = rw e at default in
        rw e (at_append (abs_totals s rows) totals (n ∷ []) (0 ∷ []) most (omega (arith, none z), tt))
    by Min e default n none = rw (e, append-nil) most
    by Max e default n none = rw (e, append-nil) most
    by Replace e default n none = rw (e, append-nil) most

-- Totals that bound those of rows bound those of the lifted rows after a change.
pub totals_last : (s : Columns) (change : Change) (rows : List Row) (totals : List ℕ) → HasDefault change → AreRowsOf s rows → AreAtMost (abs_totals s rows) totals
    → AreAtMost (abs_totals (changed s change) (map (lifted_once s change) rows)) (totals_after s change totals)
totals_last s (AddValue column d) rows totals default all most = value_added s column d column.agg rows totals refl default all most
totals_last s (DropValue name) rows totals default all most =
    let c : Change = DropValue name in
    let i : ℕ = unwrap_or (place_of name (value_names s)) (length s.values) in
    let lifted : List Row = map (lifted_once s c) rows in
    let less : abs_totals (changed s c) lifted ≡ totals_without (aggs_of s) i (abs_totals s rows) =
    abs_sums (changed s c) lifted
    ∙ ap (λ gs. sums_of gs (λ k. abs_total k lifted)) (without-map (λ (v : ValueColumn). v.agg) i s.values)
    ∙ sums_same (without i (aggs_of s)) (λ k. abs_total k lifted) (λ k. abs_total (skip i k) rows) (λ k lt. same_total (IsRowOf s) k (skip i k) (lifted_once s c) rows (λ row form. without_at row.values i k) all)
    ∙ sums_less (aggs_of s) i (λ k. abs_total k rows)
    ∙ ap (totals_without (aggs_of s) i) (sym (abs_sums s rows)) in
    subst (λ xs. AreAtMost xs (totals_without (aggs_of s) i totals)) (sym less) (
    at_append _ _ _ _ (at_take (sums_in (take i (aggs_of s))) (abs_totals s rows) totals most) (at_drop (sums_in (take (i + 1) (aggs_of s))) (abs_totals s rows) totals most))
totals_last s (AddKey column d) rows totals default all most =
    let c : Change = AddKey column d in
    let same : abs_totals (changed s c) (map (lifted_once s c) rows) ≡ abs_totals s rows =
    abs_sums (changed s c) (map (lifted_once s c) rows)
    ∙ sums_same (aggs_of s) (λ k. abs_total k (map (lifted_once s c) rows)) (λ k. abs_total k rows) (λ k lt. same_total (IsRowOf s) k k (lifted_once s c) rows (λ row form. refl) all)
    ∙ sym (abs_sums s rows) in
    subst (λ xs. AreAtMost xs totals) (sym same) most
