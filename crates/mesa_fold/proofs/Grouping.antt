-- Rows under other keys: folding first changes nothing, where combining does not depend on the order.
use Rattle.std.proofs.Common.{◌≡◌, ℕ, List, [], ◌∷◌, ◌++◌, refl, sym, ◌∙◌, ap, subst, append_assoc}
use Rattle.std.proofs.lemmas.List.{append-nil, map-append}
use Rattle.std.specs.Prelude.{ℤ, Bool, true, false, ◌||◌, cond, map, filter}
use Rattle.std.specs.List.{AllByRecursion}
use Rattle.std.specs.declared.cmp.Ordering.TheVariants.{Less, Equal, Greater}
use Rattle.std.specs.Ordering.{eq_by_cmp}
use Rattle.std.specs.FinMap.{slice_cmp-IsAntisymmetric, nat_cmp-IsAntisymmetric}
use Rattle.std.specs.FinMap.Entries.{by_order}
use Rattle.std.proofs.lemmas.List.Folds.{list_any-append}
use Rattle.mesa_columns.specs.mesa_value.declared.Agg.{Agg}
use Rattle.mesa_columns.specs.mesa_value.Agg.{combined}
use Rattle.mesa_columns.specs.mesa_key.Order.{byte_cmp}
use Rattle.mesa_columns.specs.declared.rows.Row.{Row}
use Rattle.mesa_columns.specs.mesa_list.Bytes.{same_bytes}
use Rattle.mesa_fold.specs.Folded.{keys_of, values_at, row_combined, combined_from, all_combined, rows_of, folded}
use Rattle.mesa_fold.proofs.Keys.{has, keys_in-same}
use Rattle.mesa_fold.proofs.Folds.{keys, keys_of-keys_in, values_at-append}
use Rattle.mesa_fold.specs.Put.{put_row, put_rows}
use Rattle.mesa_fold.proofs.Folding.{of_rows, put_one, put_all}

-- what does not depend on the order
pub record Commutes (agg : Agg) : Type 0 where
  pub comm : (x y : ℤ) → combined agg x y ≡ combined agg y x
  pub assoc : (x y z : ℤ) → combined agg (combined agg x y) z ≡ combined agg x (combined agg y z)

abbrev pub AllCommute : List Agg → Type 0
AllCommute aggs = AllByRecursion Commutes aggs

row_comm : (aggs : List Agg) → AllCommute aggs → (a b : List ℤ) → row_combined aggs a b ≡ row_combined aggs b a
row_comm [] all a b = refl
row_comm (g ∷ aggs) all [] [] = refl
row_comm (g ∷ aggs) all [] (y ∷ b) = refl
row_comm (g ∷ aggs) all (x ∷ a) [] = refl
row_comm (g ∷ aggs) all (x ∷ a) (y ∷ b) = λ i. all.0.comm x y i ∷ row_comm aggs all.1 a b i

row_assoc : (aggs : List Agg) → AllCommute aggs → (a b c : List ℤ) → row_combined aggs (row_combined aggs a b) c ≡ row_combined aggs a (row_combined aggs b c)
row_assoc [] all a b c = refl
row_assoc (g ∷ aggs) all [] [] c = refl
row_assoc (g ∷ aggs) all [] (y ∷ b) [] = refl
row_assoc (g ∷ aggs) all [] (y ∷ b) (z ∷ c) = refl
row_assoc (g ∷ aggs) all (x ∷ a) [] c = refl
row_assoc (g ∷ aggs) all (x ∷ a) (y ∷ b) [] = refl
row_assoc (g ∷ aggs) all (x ∷ a) (y ∷ b) (z ∷ c) = λ i. all.0.assoc x y z i ∷ row_assoc aggs all.1 a b c i

module _ (aggs : List Agg) (all : AllCommute aggs) where
  -- two older values, in either order
  swapped : (v x y : List ℤ) → row_combined aggs (row_combined aggs v x) y ≡ row_combined aggs (row_combined aggs v y) x
  swapped v x y = row_assoc aggs all v x y ∙ ap (row_combined aggs v) (row_comm aggs all x y) ∙ sym (row_assoc aggs all v y x)

  -- the first may come last
  slid : (v x : List ℤ) (vs : List (List ℤ)) → combined_from aggs (row_combined aggs v x) vs ≡ combined_from aggs v (vs ++ x ∷ [])
  slid v x [] = refl
  slid v x (w ∷ vs) = ap (λ u. combined_from aggs u vs) (swapped v x w) ∙ slid (row_combined aggs v w) x vs

  -- lists of values that come to the same, alone and after others
  abbrev Same : List (List ℤ) → List (List ℤ) → Type 0
  Same xs ys = (all_combined aggs xs ≡ all_combined aggs ys) × ((v : List ℤ) → combined_from aggs v xs ≡ combined_from aggs v ys)

  same-cons : (x : List ℤ) (xs ys : List (List ℤ)) → Same xs ys → Same (x ∷ xs) (x ∷ ys)
  same-cons x xs ys s = (s.1 x, λ v. s.1 (row_combined aggs v x))

  same_last : (x : List ℤ) (xs : List (List ℤ)) → Same (x ∷ xs) (xs ++ x ∷ [])
  same_last x [] = (refl, λ v. refl)
  same_last x (w ∷ xs) = (ap (λ u. combined_from aggs u xs) (row_comm aggs all x w) ∙ slid w x xs, λ v. slid v x (w ∷ xs))

  same_joined : (x r : List ℤ) (xs : List (List ℤ)) → Same (row_combined aggs x r ∷ xs) (x ∷ xs ++ r ∷ [])
  same_joined x r xs = (slid x r xs, λ v. ap (λ u. combined_from aggs u xs) (sym (row_assoc aggs all v x r)) ∙ slid (row_combined aggs v x) r xs)

  module _ (to : List ℕ → List ℕ) where
    abbrev rekeyed : Row → Row
    rekeyed row = record row { key = to row.key }

    abbrev one_at : List ℕ → Row → List (List ℤ)
    one_at k row = map (λ (r : Row). r.values) (cond (same_bytes k (to row.key)) (rekeyed row ∷ []) [])

    values_at-cons : (k : List ℕ) (x : Row) (xs : List Row) → values_at k (map rekeyed (x ∷ xs)) ≡ one_at k x ++ values_at k (map rekeyed xs)
    values_at-cons k x xs = elim (same_bytes k (to x.key)) as (λ b. map (λ (r : Row). r.values) (cond b (rekeyed x ∷ filter (λ r. same_bytes k r.key) (map rekeyed xs)) (filter (λ r. same_bytes k r.key) (map rekeyed xs))) ≡ map (λ (r : Row). r.values) (cond b (rekeyed x ∷ []) []) ++ values_at k (map rekeyed xs)) [ true ↦ refl | false ↦ refl ]

    -- the values of one row, where the test says so
    abbrev one_if : Bool → Row → List (List ℤ)
    one_if b row = map (λ (r : Row). r.values) (cond b (rekeyed row ∷ []) [])

    moved : (b : Bool) (row : Row) (vs : List (List ℤ)) → Same (one_if b row ++ vs) (vs ++ one_if b row)
    moved true row vs = same_last row.values vs
    moved false row vs = subst (Same vs) (sym (append-nil vs)) (refl, λ v. refl)

    joined : (b : Bool) (x row : Row) (vs : List (List ℤ)) → Same (one_if b (record x { values = row_combined aggs x.values row.values }) ++ vs) ((one_if b x ++ vs) ++ one_if b row)
    joined true x row vs = same_joined x.values row.values vs
    joined false x row vs = subst (Same vs) (sym (append-nil vs)) (refl, λ v. refl)

    behind : (b : Bool) (x : Row) (xs ys : List (List ℤ)) → Same xs ys → Same (one_if b x ++ xs) (one_if b x ++ ys)
    behind true x xs ys s = same-cons x.values xs ys s
    behind false x xs ys s = s

    -- a row that is put among rows, and one that stands behind them, come to the same at each key
    same_at_put : (k : List ℕ) (row : Row) (rows : List Row) → Same (values_at k (map rekeyed (put_row aggs row rows))) (values_at k (map rekeyed rows) ++ one_at k row)
    same_at_put k row [] = subst (λ vs. Same vs (one_at k row)) (sym (values_at-cons k row [] ∙ append-nil (one_at k row))) (refl, λ v. refl)
    same_at_put k row (x ∷ xs) =
        let V : List (List ℤ) = values_at k (map rekeyed xs) in
        subst (λ vs. Same (values_at k (map rekeyed (put_row aggs row (x ∷ xs)))) (vs ++ one_at k row)) (sym (values_at-cons k x xs)) (
        elim (byte_cmp row.key x.key) as (λ o. byte_cmp row.key x.key ≡ o
        → Same (values_at k (map rekeyed (by_order o (row ∷ x ∷ xs) (record x { values = row_combined aggs x.values row.values } ∷ xs) (x ∷ put_row aggs row xs)))) ((one_at k x ++ values_at k (map rekeyed xs)) ++ one_at k row)) [
          | Less ↦ λ t. subst (λ vs. Same vs ((one_at k x ++ V) ++ one_at k row)) (sym (values_at-cons k row (x ∷ xs) ∙ ap (λ vs. one_at k row ++ vs) (values_at-cons k x xs))) (moved (same_bytes k (to row.key)) row (one_at k x ++ V))
          | Equal ↦ λ t.
              let same : row.key ≡ x.key = slice_cmp-IsAntisymmetric nat_cmp-IsAntisymmetric row.key x.key t in
              subst (λ vs. Same vs ((one_at k x ++ V) ++ one_at k row)) (sym (values_at-cons k (record x { values = row_combined aggs x.values row.values }) xs)) (
              subst (λ q. Same (one_if (same_bytes k (to x.key)) (record x { values = row_combined aggs x.values row.values }) ++ V) ((one_at k x ++ V) ++ one_if (same_bytes k (to q)) row)) (sym same) (joined (same_bytes k (to x.key)) x row V)
              )
          | Greater ↦ λ t.
              subst (λ vs. Same vs ((one_at k x ++ V) ++ one_at k row)) (sym (values_at-cons k x (put_row aggs row xs))) (
              subst (Same (one_at k x ++ values_at k (map rekeyed (put_row aggs row xs)))) (sym (append_assoc (one_at k x) V (one_at k row))) (behind (same_bytes k (to x.key)) x _ _ (same_at_put k row xs))
              )
        ] refl
        )

    or_comm : (a b : Bool) → (a || b) ≡ (b || a)
    or_comm true true = refl
    or_comm true false = refl
    or_comm false true = refl
    or_comm false false = refl

    or_assoc : (a b c : Bool) → (a || (b || c)) ≡ ((a || b) || c)
    or_assoc true b c = refl
    or_assoc false b c = refl

    or_again : (a b : Bool) → (a || b) ≡ ((a || b) || a)
    or_again true b = refl
    or_again false true = refl
    or_again false false = refl

    abbrev tied : List ℕ → Row → Bool
    tied q row = eq_by_cmp byte_cmp q (to row.key)

    has-put : (q : List ℕ) (row : Row) (rows : List Row) → has q (keys (map rekeyed (put_row aggs row rows))) ≡ (has q (keys (map rekeyed rows)) || tied q row)
    has-put q row [] = or_comm (tied q row) false
    has-put q row (x ∷ xs) =
        elim (byte_cmp row.key x.key) as (λ o. byte_cmp row.key x.key ≡ o
        → has q (keys (map rekeyed (by_order o (row ∷ x ∷ xs) (record x { values = row_combined aggs x.values row.values } ∷ xs) (x ∷ put_row aggs row xs)))) ≡ ((tied q x || has q (keys (map rekeyed xs))) || tied q row)) [
          | Less ↦ λ t. or_comm (tied q row) _
          | Equal ↦ λ t.
              let same : row.key ≡ x.key = slice_cmp-IsAntisymmetric nat_cmp-IsAntisymmetric row.key x.key t in
              or_again (tied q x) (has q (keys (map rekeyed xs))) ∙ ap (λ k. (tied q x || has q (keys (map rekeyed xs))) || eq_by_cmp byte_cmp q (to k)) (sym same)
          | Greater ↦ λ t. ap (λ b. tied q x || b) (has-put q row xs) ∙ or_assoc (tied q x) _ _
        ] refl

    has-last : (q : List ℕ) (row : Row) (rows : List Row) → has q (keys (map rekeyed rows ++ rekeyed row ∷ [])) ≡ (has q (keys (map rekeyed rows)) || tied q row)
    has-last q row rows = ap (has q) (map-append (λ (r : Row). r.key) (map rekeyed rows) (rekeyed row ∷ [])) ∙ list_any-append (eq_by_cmp byte_cmp q) (keys (map rekeyed rows)) (to row.key ∷ []) ∙ ap (λ b. has q (keys (map rekeyed rows)) || b) (or_comm (tied q row) false)

    one_put : (row : Row) (rows : List Row) → of_rows aggs (map rekeyed (put_row aggs row rows)) ≡ of_rows aggs (map rekeyed rows ++ rekeyed row ∷ [])
    one_put row rows = λ i. map (λ k. record { key = k; values = (all_at k i) }) (all_keys i)
      where
        all_keys : keys_of (map rekeyed (put_row aggs row rows)) ≡ keys_of (map rekeyed rows ++ rekeyed row ∷ [])
        all_keys = keys_of-keys_in (map rekeyed (put_row aggs row rows)) ∙ keys_in-same _ _ (λ q. has-put q row rows ∙ sym (has-last q row rows)) ∙ sym (keys_of-keys_in (map rekeyed rows ++ rekeyed row ∷ []))

        all_at : (k : List ℕ) → all_combined aggs (values_at k (map rekeyed (put_row aggs row rows))) ≡ all_combined aggs (values_at k (map rekeyed rows ++ rekeyed row ∷ []))
        all_at k = (same_at_put k row rows).0 ∙ ap (all_combined aggs) (sym (values_at-append k (map rekeyed rows) (rekeyed row ∷ [])))

    more_put : (rows more : List Row) → of_rows aggs (map rekeyed (put_rows aggs rows more)) ≡ put_rows aggs (of_rows aggs (map rekeyed rows)) (map rekeyed more)
    more_put rows [] = refl
    more_put rows (row ∷ more) = more_put (put_row aggs row rows) more ∙ ap (λ kept. put_rows aggs kept (map rekeyed more)) (one_put row rows ∙ put_one aggs (map rekeyed rows) (rekeyed row))

    rekeyed_rows : (rows : List Row) → of_rows aggs (map rekeyed (of_rows aggs rows)) ≡ of_rows aggs (map rekeyed rows)
    rekeyed_rows rows = ap (λ r. of_rows aggs (map rekeyed r)) (sym (put_all aggs [] rows)) ∙ more_put [] rows ∙ put_all aggs [] (map rekeyed rows)

    -- Folding rows under other keys is folding them, and then folding what they come to under the other keys.
    pub rekeyed-folded : (parts : List (List Row)) → folded aggs (map rekeyed (folded aggs parts) ∷ []) ≡ folded aggs (map rekeyed (rows_of parts) ∷ [])
    rekeyed-folded parts = ap (of_rows aggs) (append-nil (map rekeyed (folded aggs parts))) ∙ rekeyed_rows (rows_of parts) ∙ ap (of_rows aggs) (sym (append-nil (map rekeyed (rows_of parts))))
