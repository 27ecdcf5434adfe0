-- Folds of rows that are filtered by their keys.
use Rattle.std.proofs.Common.{◌≡◌, ℕ, List, [], ◌∷◌, ◌++◌, refl, sym, ◌∙◌, ap}
use Rattle.std.specs.Prelude.{Bool, true, false, ◌||◌, ◌&&◌, cond, T, map, filter}
use Rattle.std.specs.Ordering.{eq_by_cmp}
use Rattle.std.specs.Cmp.Lexicographic.{texts_ties}
use Rattle.std.specs.FinMap.{slice_cmp-IsAntisymmetric, nat_cmp-IsAntisymmetric}
use Rattle.std.specs.FinMap.Entries.{below_all}
use Rattle.mesa_columns.specs.mesa_value.declared.Agg.{Agg}
use Rattle.mesa_columns.specs.mesa_list.Bytes.{same_bytes}
use Rattle.mesa_columns.specs.mesa_key.Order.{byte_cmp}
use Rattle.mesa_columns.specs.declared.rows.Row.{Row}
use Rattle.mesa_fold.specs.Folded.{all_combined, folded, folded_at, keys_of, rows_of, values_at}
use Rattle.mesa_fold.proofs.Keys.{Keys, has, is_rising, pairs, same_rising}
use Rattle.mesa_fold.proofs.Folds.{both_false, has-keys_of, is_equal, keys, rising-keys_of}
use Rattle.mesa_fold.proofs.Folding.{of_rows}

abbrev Passes : (List ℕ → Bool) → Row → Bool
Passes p row = p row.key

has_filtered : (p : List ℕ → Bool) (q : List ℕ) (ks : Keys) → has q (filter p ks) ≡ (p q && has q ks)
has_filtered p q [] = elim (p q) as (λ b. false ≡ (b && false)) [ true ↦ refl | false ↦ refl ]
has_filtered p q (k ∷ ks) =
    elim (eq_by_cmp byte_cmp q k) as (λ t. eq_by_cmp byte_cmp q k ≡ t → has q (cond (p k) (k ∷ filter p ks) (filter p ks)) ≡ (p q && (t || has q ks))) [
      | true ↦ λ t.
          let same : q ≡ k = slice_cmp-IsAntisymmetric nat_cmp-IsAntisymmetric q k (is_equal _ t) in
          elim (p k) as (λ b. p k ≡ b → has q (cond b (k ∷ filter p ks) (filter p ks)) ≡ (p q && true)) [
            | true ↦ λ e. ap (λ x. x || has q (filter p ks)) t ∙ sym (ap (λ x. x && true) (ap p same ∙ e))
            | false ↦ λ e. has_filtered p q ks ∙ ap (λ x. x && has q ks) (ap p same ∙ e) ∙ sym (ap (λ x. x && true) (ap p same ∙ e))
          ] refl
      | false ↦ λ t.
          elim (p k) as (λ b. p k ≡ b → has q (cond b (k ∷ filter p ks) (filter p ks)) ≡ (p q && has q ks)) [
            | true ↦ λ e. ap (λ x. x || has q (filter p ks)) t ∙ has_filtered p q ks
            | false ↦ λ e. has_filtered p q ks
          ] refl
    ] refl

and_both : (a b : Bool) → T a → T b → T (a && b)
and_both true b p q = q
and_both false b p q = absurd p

below_filtered : (p : List ℕ → Bool) (x : List ℕ) (ks : Keys) → T (below_all byte_cmp x (pairs ks)) → T (below_all byte_cmp x (pairs (filter p ks)))
below_filtered p x [] h = tt
below_filtered p x (k ∷ ks) h =
    let parts = both_false _ _ h in
    elim (p k) as (λ b. T (below_all byte_cmp x (pairs (cond b (k ∷ filter p ks) (filter p ks))))) [
      | true ↦ and_both _ _ parts.0 (below_filtered p x ks parts.1)
      | false ↦ below_filtered p x ks parts.1
    ]

rising_filtered : (p : List ℕ → Bool) (ks : Keys) → T (is_rising ks) → T (is_rising (filter p ks))
rising_filtered p [] h = tt
rising_filtered p (k ∷ ks) h =
    let parts = both_false _ _ h in
    elim (p k) as (λ b. T (is_rising (cond b (k ∷ filter p ks) (filter p ks)))) [
      | true ↦ and_both _ _ (below_filtered p k ks parts.0) (rising_filtered p ks parts.1)
      | false ↦ rising_filtered p ks parts.1
    ]

keys_filtered : (p : List ℕ → Bool) (rows : List Row) → keys (filter (Passes p) rows) ≡ filter p (keys rows)
keys_filtered p [] = refl
keys_filtered p (x ∷ xs) = elim (p x.key) as (λ b. keys (cond b (x ∷ filter (Passes p) xs) (filter (Passes p) xs)) ≡ cond b (x.key ∷ filter p (keys xs)) (filter p (keys xs))) [
  | true ↦ ap (λ ks. x.key ∷ ks) (keys_filtered p xs)
  | false ↦ keys_filtered p xs
]

values_filtered : (p : List ℕ → Bool) (k : List ℕ) (rows : List Row) → p k ≡ true → values_at k (filter (Passes p) rows) ≡ values_at k rows
values_filtered p k [] e = refl
values_filtered p k (x ∷ xs) e =
    elim (same_bytes k x.key) as (λ t. same_bytes k x.key ≡ t → values_at k (cond (p x.key) (x ∷ filter (Passes p) xs) (filter (Passes p) xs)) ≡ map (λ (r : Row). r.values) (cond t (x ∷ filter (λ (r : Row). same_bytes k r.key) xs) (filter (λ (r : Row). same_bytes k r.key) xs))) [
      | true ↦ λ t.
          let same : k ≡ x.key = slice_cmp-IsAntisymmetric nat_cmp-IsAntisymmetric k x.key (is_equal _ (sym (texts_ties k x.key) ∙ t)) in
          ap (λ b. values_at k (cond b (x ∷ filter (Passes p) xs) (filter (Passes p) xs))) (ap p (sym same) ∙ e)
          ∙ ap (λ b. map (λ (r : Row). r.values) (cond b (x ∷ filter (λ (r : Row). same_bytes k r.key) (filter (Passes p) xs)) (filter (λ (r : Row). same_bytes k r.key) (filter (Passes p) xs)))) t
          ∙ ap (λ vs. x.values ∷ vs) (values_filtered p k xs e)
      | false ↦ λ t.
          elim (p x.key) as (λ b. values_at k (cond b (x ∷ filter (Passes p) xs) (filter (Passes p) xs)) ≡ values_at k xs) [
            | true ↦ ap (λ b. map (λ (r : Row). r.values) (cond b (x ∷ filter (λ (r : Row). same_bytes k r.key) (filter (Passes p) xs)) (filter (λ (r : Row). same_bytes k r.key) (filter (Passes p) xs)))) t ∙ values_filtered p k xs e
            | false ↦ values_filtered p k xs e
          ]
    ] refl

picked : (aggs : List Agg) (p : List ℕ → Bool) (rows : List Row) (ks : Keys) → filter (Passes p) (map (folded_at aggs rows) ks) ≡ map (folded_at aggs (filter (Passes p) rows)) (filter p ks)
picked aggs p rows [] = refl
picked aggs p rows (k ∷ ks) =
    elim (p k) as (λ b. p k ≡ b → cond b (folded_at aggs rows k ∷ filter (Passes p) (map (folded_at aggs rows) ks)) (filter (Passes p) (map (folded_at aggs rows) ks)) ≡ map (folded_at aggs (filter (Passes p) rows)) (cond b (k ∷ filter p ks) (filter p ks))) [
      | true ↦ λ e. λ i. record { key = k; values = all_combined aggs (sym (values_filtered p k rows e) i) } ∷ picked aggs p rows ks i
      | false ↦ λ e. picked aggs p rows ks
    ] refl

keys_of_filtered : (p : List ℕ → Bool) (rows : List Row) → filter p (keys_of rows) ≡ keys_of (filter (Passes p) rows)
keys_of_filtered p rows = same_rising (filter p (keys_of rows)) (keys_of (filter (Passes p) rows)) (rising_filtered p (keys_of rows) (rising-keys_of rows)) (rising-keys_of (filter (Passes p) rows)) (λ q.
    has_filtered p q (keys_of rows)
    ∙ ap (λ b. p q && b) (has-keys_of q rows)
    ∙ sym (has_filtered p q (keys rows))
    ∙ ap (has q) (sym (keys_filtered p rows))
    ∙ sym (has-keys_of q (filter (Passes p) rows)))

filter_append : (p : Row → Bool) (xs ys : List Row) → filter p (xs ++ ys) ≡ filter p xs ++ filter p ys
filter_append p [] ys = refl
filter_append p (x ∷ xs) ys = elim (p x) as (λ b. cond b (x ∷ filter p (xs ++ ys)) (filter p (xs ++ ys)) ≡ cond b (x ∷ filter p xs) (filter p xs) ++ filter p ys) [
  | true ↦ ap (λ rows. x ∷ rows) (filter_append p xs ys)
  | false ↦ filter_append p xs ys
]

rows_of_filtered : (p : Row → Bool) (parts : List (List Row)) → filter p (rows_of parts) ≡ rows_of (map (filter p) parts)
rows_of_filtered p [] = refl
rows_of_filtered p (part ∷ parts) = filter_append p part (rows_of parts) ∙ ap (λ rows. filter p part ++ rows) (rows_of_filtered p parts)

-- rows may be filtered by their keys before folding or after it
pub filtered_folds : (p : List ℕ → Bool) (aggs : List Agg) (parts : List (List Row)) → filter (Passes p) (folded aggs parts) ≡ folded aggs (map (filter (Passes p)) parts)
filtered_folds p aggs parts =
    picked aggs p (rows_of parts) (keys_of (rows_of parts))
    ∙ ap (map (folded_at aggs (filter (Passes p) (rows_of parts)))) (keys_of_filtered p (rows_of parts))
    ∙ ap (of_rows aggs) (rows_of_filtered (Passes p) parts)
