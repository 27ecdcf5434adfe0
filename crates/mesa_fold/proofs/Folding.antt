-- Putting rows one after another is folding them.
use Rattle.std.proofs.Common.{◌≡◌, ℕ, List, [], ◌∷◌, ◌++◌, refl, sym, ◌∙◌, ap, subst, append_assoc}
use Rattle.std.proofs.lemmas.List.{append-nil, map-append}
use Rattle.std.specs.Prelude.{ℤ, Bool, true, false, ◌||◌, ◌&&◌, cond, T, map}
use Rattle.std.specs.declared.cmp.Ordering.{Ordering}
use Rattle.std.specs.declared.cmp.Ordering.TheVariants.{Less, Equal, Greater}
use Rattle.std.specs.Ordering.{eq_by_cmp, is_eq, is_lt}
use Rattle.std.specs.Cmp.Lexicographic.{nat_list_cmp_total, texts_ties}
use Rattle.std.specs.Cmp.{eq_by_cmp_equiv}
use Rattle.std.specs.FinMap.{slice_cmp-IsAntisymmetric, nat_cmp-IsAntisymmetric}
use Rattle.std.specs.FinMap.Entries.{by_order, below_all, is_sorted, is_sorted-put}
use Rattle.std.proofs.lemmas.List.Folds.{list_any-append}
use Rattle.mesa_columns.specs.mesa_value.declared.Agg.{Agg}
use Rattle.mesa_columns.specs.mesa_key.Order.{byte_cmp}
use Rattle.mesa_columns.specs.declared.rows.Row.{Row}
use Rattle.mesa_fold.specs.Folded.{with_key, keys_of, values_at, row_combined, all_combined, folded_at, folded}
use Rattle.mesa_fold.proofs.Keys.{Keys, has, is_rising, pairs, pairs-with_key, has-with_key, same_rising}
use Rattle.mesa_fold.proofs.Folds.{keys, values_at-append, combined_from-append, values_at_none, values_at_some, has-keys_of, rising-keys_of, not_below, both_false, has_tied}
use Rattle.mesa_fold.specs.Put.{put_row, put_rows}

abbrev pub of_rows : List Agg → List Row → List Row
of_rows aggs rows = map (folded_at aggs rows) (keys_of rows)

alike : (q k : List ℕ) → eq_by_cmp byte_cmp q k ≡ eq_by_cmp byte_cmp k q
alike q k = (eq_by_cmp_equiv nat_list_cmp_total).symm q k

-- a row of another key changes nothing at a key
at_other : (aggs : List Agg) (rows : List Row) (row : Row) (x : List ℕ) → eq_by_cmp byte_cmp row.key x ≡ false → folded_at aggs (rows ++ row ∷ []) x ≡ folded_at aggs rows x
at_other aggs rows row x e = ap (λ vs. record { key = x; values = all_combined aggs vs }) (
    values_at-append x rows (row ∷ [])
    ∙ ap (λ vs. values_at x rows ++ vs) (ap (λ b. map (λ (r : Row). r.values) (cond b (row ∷ []) [])) (texts_ties x row.key ∙ alike x row.key ∙ e))
    ∙ append-nil (values_at x rows))

all_other : (aggs : List Agg) (rows : List Row) (row : Row) (ks : Keys) → has row.key ks ≡ false → map (folded_at aggs (rows ++ row ∷ [])) ks ≡ map (folded_at aggs rows) ks
all_other aggs rows row [] e = refl
all_other aggs rows row (x ∷ xs) e =
    elim (eq_by_cmp byte_cmp row.key x) as (λ b. eq_by_cmp byte_cmp row.key x ≡ b → (b || has row.key xs) ≡ false → map (folded_at aggs (rows ++ row ∷ [])) (x ∷ xs) ≡ map (folded_at aggs rows) (x ∷ xs)) [
      | true ↦ λ t f. absurd (subst T f tt)
      | false ↦ λ t f. λ i. at_other aggs rows row x t i ∷ all_other aggs rows row xs f i
    ] refl e

-- at the row's own key its values come last
at_own : (rows : List Row) (row : Row) → values_at row.key (rows ++ row ∷ []) ≡ values_at row.key rows ++ row.values ∷ []
at_own rows row = values_at-append row.key rows (row ∷ []) ∙ ap (λ b. values_at row.key rows ++ map (λ (r : Row). r.values) (cond b (row ∷ []) [])) (texts_ties row.key row.key ∙ (eq_by_cmp_equiv nat_list_cmp_total).refl row.key)

new_key : (aggs : List Agg) (rows : List Row) (row : Row) → has row.key (keys rows) ≡ false → folded_at aggs (rows ++ row ∷ []) row.key ≡ row
new_key aggs rows row e = ap (λ vs. record { key = row.key; values = all_combined aggs vs }) (at_own rows row ∙ ap (λ vs. vs ++ row.values ∷ []) (values_at_none row.key rows e))

old_key : (aggs : List Agg) (rows : List Row) (row : Row) → has row.key (keys rows) ≡ true
    → folded_at aggs (rows ++ row ∷ []) row.key ≡ record { key = row.key; values = row_combined aggs (all_combined aggs (values_at row.key rows)) row.values }
old_key aggs rows row e =
    let some : (v : List ℤ) × (vs : List (List ℤ)) × (values_at row.key rows ≡ v ∷ vs) = values_at_some row.key rows e in
    ap (λ vs. record { key = row.key; values = vs }) (
    ap (all_combined aggs) (at_own rows row ∙ ap (λ vs. vs ++ row.values ∷ []) some.2)
    ∙ combined_from-append aggs some.0 some.1 (row.values ∷ [])
    ∙ ap (λ vs. row_combined aggs (all_combined aggs vs) row.values) (sym some.2))

pub is_less : (o : Ordering) → T (is_lt o) → o ≡ Less
is_less Less p = refl
is_less Equal p = absurd p
is_less Greater p = absurd p

pub below_less : (k x : List ℕ) (ys : Keys) → byte_cmp k x ≡ Less → T (below_all byte_cmp x (pairs ys)) → T (below_all byte_cmp k (pairs ys))
below_less k x [] e p = tt
below_less k x (y ∷ ys) e p =
    let parts : T (is_lt (byte_cmp x y)) × T (below_all byte_cmp x (pairs ys)) = both_false _ _ p in
    let less : byte_cmp k y ≡ Less = nat_list_cmp_total.trans k x y e (is_less _ parts.0) in
    subst (λ o. T (is_lt o && below_all byte_cmp k (pairs ys))) (sym less) (below_less k x ys e parts.1)

-- the keys from x on are above a lesser key
none_from : (k x : List ℕ) (xs : Keys) → byte_cmp k x ≡ Less → T (is_rising (x ∷ xs)) → has k (x ∷ xs) ≡ false
none_from k x xs e p = not_below k (x ∷ xs) (subst (λ o. T (is_lt o && below_all byte_cmp k (pairs xs))) (sym e) (below_less k x xs e (both_false _ _ p).0))

put_among : (aggs : List Agg) (rows : List Row) (row : Row) (ks : Keys) → T (is_rising ks) → has row.key ks ≡ has row.key (keys rows)
    → map (folded_at aggs (rows ++ row ∷ [])) (with_key row.key ks) ≡ put_row aggs row (map (folded_at aggs rows) ks)
put_among aggs rows row [] p e = ap (λ r. r ∷ []) (new_key aggs rows row (sym e))
put_among aggs rows row (x ∷ xs) p e =
    elim (byte_cmp row.key x) as (λ o. byte_cmp row.key x ≡ o
    → map (folded_at aggs (rows ++ row ∷ [])) (by_order o (row.key ∷ x ∷ xs) (x ∷ xs) (x ∷ with_key row.key xs))
    ≡ by_order o (row ∷ map (folded_at aggs rows) (x ∷ xs)) (record (folded_at aggs rows x) { values = row_combined aggs (folded_at aggs rows x).values row.values } ∷ map (folded_at aggs rows) xs) (folded_at aggs rows x ∷ put_row aggs row (map (folded_at aggs rows) xs))) [
      | Less ↦ λ t.
          let none : has row.key (x ∷ xs) ≡ false = none_from row.key x xs t p in
          λ i. new_key aggs rows row (sym e ∙ none) i ∷ all_other aggs rows row (x ∷ xs) none i
      | Equal ↦ λ t.
          let same : row.key ≡ x = slice_cmp-IsAntisymmetric nat_cmp-IsAntisymmetric row.key x t in
          let there : has row.key (keys rows) ≡ true = sym e ∙ ap (λ o. is_eq o || has row.key xs) t in
          let own : folded_at aggs (rows ++ row ∷ []) x ≡ record { key = x; values = row_combined aggs (all_combined aggs (values_at x rows)) row.values } =
          subst (λ q. folded_at aggs (rows ++ row ∷ []) q ≡ record { key = q; values = row_combined aggs (all_combined aggs (values_at q rows)) row.values }) same (old_key aggs rows row there) in
          let none : has row.key xs ≡ false = has_tied row.key x xs t ∙ not_below x xs (both_false _ _ p).0 in
          λ i. own i ∷ all_other aggs rows row xs none i
      | Greater ↦ λ t.
          let other : eq_by_cmp byte_cmp row.key x ≡ false = ap is_eq t in
          λ i. at_other aggs rows row x other i ∷ put_among aggs rows row xs (both_false _ _ p).1 (ap (λ b. b || has row.key xs) (sym other) ∙ e) i
    ] refl

rising-with_key : (k : List ℕ) (ks : Keys) → T (is_rising ks) → T (is_rising (with_key k ks))
rising-with_key k ks p = subst (λ es. T (is_sorted byte_cmp es)) (sym (pairs-with_key k ks)) (is_sorted-put byte_cmp nat_list_cmp_total k tt (pairs ks) p)

or_comm : (a b : Bool) → (a || b) ≡ (b || a)
or_comm true true = refl
or_comm true false = refl
or_comm false true = refl
or_comm false false = refl

or-false : (a : Bool) → (a || false) ≡ a
or-false true = refl
or-false false = refl

keys_of_more : (rows : List Row) (row : Row) → keys_of (rows ++ row ∷ []) ≡ with_key row.key (keys_of rows)
keys_of_more rows row = same_rising _ _ (rising-keys_of (rows ++ row ∷ [])) (rising-with_key row.key (keys_of rows) (rising-keys_of rows)) (λ q.
    has-keys_of q (rows ++ row ∷ [])
    ∙ ap (has q) (map-append (λ (r : Row). r.key) rows (row ∷ []))
    ∙ list_any-append (eq_by_cmp byte_cmp q) (keys rows) (row.key ∷ [])
    ∙ or_comm (has q (keys rows)) _
    ∙ ap (λ b. b || has q (keys rows)) (or-false (eq_by_cmp byte_cmp q row.key))
    ∙ sym (has-with_key q row.key (keys_of rows) ∙ ap (λ b. eq_by_cmp byte_cmp q row.key || b) (has-keys_of q rows)))

-- one row more is put among the folded rows
pub put_one : (aggs : List Agg) (rows : List Row) (row : Row) → of_rows aggs (rows ++ row ∷ []) ≡ put_row aggs row (of_rows aggs rows)
put_one aggs rows row = ap (map (folded_at aggs (rows ++ row ∷ []))) (keys_of_more rows row) ∙ put_among aggs rows row (keys_of rows) (rising-keys_of rows) (has-keys_of row.key rows)

pub put_all : (aggs : List Agg) (rows more : List Row) → put_rows aggs (of_rows aggs rows) more ≡ of_rows aggs (rows ++ more)
put_all aggs rows [] = ap (of_rows aggs) (sym (append-nil rows))
put_all aggs rows (row ∷ more) = ap (λ kept. put_rows aggs kept more) (sym (put_one aggs rows row)) ∙ put_all aggs (rows ++ row ∷ []) more ∙ ap (of_rows aggs) (append_assoc rows (row ∷ []) more)

-- Rows that are put one after another are folded.
pub put_rows-folded : (aggs : List Agg) (rows : List Row) → put_rows aggs [] rows ≡ folded aggs (rows ∷ [])
put_rows-folded aggs rows = put_all aggs [] rows ∙ ap (of_rows aggs) (sym (append-nil rows))
