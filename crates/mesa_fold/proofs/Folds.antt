-- Folding what was folded: the parts of a fold may be folded first.
use Rattle.std.proofs.Common.{◌≡◌, ℕ, List, [], ◌∷◌, ◌++◌, refl, sym, ◌∙◌, ap, subst}
use Rattle.std.specs.Prelude.{Bool, true, false, ◌||◌, ◌&&◌, cond, T, map, filter, ℤ}
use Rattle.std.specs.declared.cmp.Ordering.TheVariants.{Less, Equal, Greater}
use Rattle.std.specs.declared.cmp.Ordering.{Ordering}
use Rattle.std.specs.Ordering.{eq_by_cmp, is_eq, is_lt}
use Rattle.std.specs.Cmp.Lexicographic.{nat_list_cmp_total, texts_ties}
use Rattle.std.specs.FinMap.Entries.{below_all}
use Rattle.std.specs.FinMap.{slice_cmp-IsAntisymmetric, nat_cmp-IsAntisymmetric}
use Rattle.std.proofs.lemmas.List.{map-append}
use Rattle.std.proofs.lemmas.List.Elements.{filter-append}
use Rattle.std.proofs.lemmas.Grind.{flat_map-append}
use Rattle.mesa_columns.specs.mesa_value.declared.Agg.{Agg}
use Rattle.mesa_columns.specs.mesa_key.Order.{byte_cmp}
use Rattle.mesa_columns.specs.declared.rows.Row.{Row}
use Rattle.mesa_columns.specs.mesa_list.Bytes.{same_bytes}
use Rattle.mesa_fold.specs.Folded.{with_key, keys_of, values_at, row_combined, combined_from, all_combined, rows_of, folded_at, folded}
use Rattle.mesa_fold.proofs.Keys.{Keys, keys_in, has, is_rising, pairs, keys_in-again, rising-keys_in, has-keys_in}

abbrev pub keys : List Row → Keys
keys rows = map (λ row. row.key) rows

pub keys_of-keys_in : (rows : List Row) → keys_of rows ≡ keys_in (keys rows)
keys_of-keys_in [] = refl
keys_of-keys_in (row ∷ rows) = ap (with_key row.key) (keys_of-keys_in rows)

pub values_at-append : (k : List ℕ) (xs ys : List Row) → values_at k (xs ++ ys) ≡ values_at k xs ++ values_at k ys
values_at-append k xs ys = ap (map (λ row. row.values)) (filter-append (λ row. same_bytes k row.key) xs ys) ∙ map-append (λ (row : Row). row.values) (filter (λ row. same_bytes k row.key) xs) (filter (λ row. same_bytes k row.key) ys)

pub rows_of-append : (xs ys : List (List Row)) → rows_of (xs ++ ys) ≡ rows_of xs ++ rows_of ys
rows_of-append xs ys = flat_map-append (λ part. part) xs ys

pub combined_from-append : (aggs : List Agg) (v : List ℤ) (xs ys : List (List ℤ)) → combined_from aggs v (xs ++ ys) ≡ combined_from aggs (combined_from aggs v xs) ys
combined_from-append aggs v [] ys = refl
combined_from-append aggs v (x ∷ xs) ys = combined_from-append aggs (row_combined aggs v x) xs ys

-- a key that no row has, has no values
pub values_at_none : (k : List ℕ) (rows : List Row) → has k (keys rows) ≡ false → values_at k rows ≡ []
values_at_none k [] e = refl
values_at_none k (row ∷ rows) e =
    elim (same_bytes k row.key) as (λ b. same_bytes k row.key ≡ b → map (λ (r : Row). r.values) (cond b (row ∷ filter (λ r. same_bytes k r.key) rows) (filter (λ r. same_bytes k r.key) rows)) ≡ []) [
      | true ↦ λ t. absurd (subst T (sym (ap (λ b. b || has k (keys rows)) (sym (texts_ties k row.key) ∙ t)) ∙ e) tt)
      | false ↦ λ t. values_at_none k rows (sym (ap (λ b. b || has k (keys rows)) (sym (texts_ties k row.key) ∙ t)) ∙ e)
    ] refl

-- and one that some row has, has a first one
pub values_at_some : (k : List ℕ) (rows : List Row) → has k (keys rows) ≡ true → (v : List ℤ) × (vs : List (List ℤ)) × (values_at k rows ≡ v ∷ vs)
values_at_some k [] e = absurd (subst T (sym e) tt)
values_at_some k (row ∷ rows) e =
    elim (same_bytes k row.key) as (λ b. same_bytes k row.key ≡ b → (v : List ℤ) × (vs : List (List ℤ)) × (map (λ (r : Row). r.values) (cond b (row ∷ filter (λ r. same_bytes k r.key) rows) (filter (λ r. same_bytes k r.key) rows)) ≡ v ∷ vs)) [
      | true ↦ λ t. (row.values, values_at k rows, refl)
      | false ↦ λ t. values_at_some k rows (sym (ap (λ b. b || has k (keys rows)) (sym (texts_ties k row.key) ∙ t)) ∙ e)
    ] refl

pub both_false : (a b : Bool) → T (a && b) → T a × T b
both_false true b p = (tt, p)
both_false false b p = absurd p

-- what is below a key is below each key after it
pub not_below : (k : List ℕ) (ks : Keys) → T (below_all byte_cmp k (pairs ks)) → has k ks ≡ false
not_below k [] p = refl
not_below k (x ∷ xs) p =
    let parts : T (is_lt (byte_cmp k x)) × T (below_all byte_cmp k (pairs xs)) = both_false _ _ p in
    elim (byte_cmp k x) as (λ (o : Ordering). T (is_lt o) → (is_eq o || has k xs) ≡ false) [
      | Less ↦ λ _. not_below k xs parts.1
      | Equal ↦ λ h. absurd h
      | Greater ↦ λ h. absurd h
    ] parts.0

-- keys that tie are both there or both not
pub has_tied : (k x : List ℕ) (ks : Keys) → byte_cmp k x ≡ Equal → has k ks ≡ has x ks
has_tied k x [] e = refl
has_tied k x (y ∷ ys) e = λ i. is_eq (nat_list_cmp_total.congr k x y e i) || has_tied k x ys e i

pub is_equal : (o : Ordering) → is_eq o ≡ true → o ≡ Equal
is_equal Less e = absurd (subst T (sym e) tt)
is_equal Equal e = refl
is_equal Greater e = absurd (subst T (sym e) tt)

-- the values that folded rows have at a key: one row's where the key is there
pub values_at-folded_at : (aggs : List Agg) (rows : List Row) (k : List ℕ) (ks : Keys) → T (is_rising ks)
    → values_at k (map (folded_at aggs rows) ks) ≡ cond (has k ks) (all_combined aggs (values_at k rows) ∷ []) []
values_at-folded_at aggs rows k [] p = refl
values_at-folded_at aggs rows k (x ∷ xs) p =
    let parts : T (below_all byte_cmp x (pairs xs)) × T (is_rising xs) = both_false _ _ p in
    let rest : values_at k (map (folded_at aggs rows) xs) ≡ cond (has k xs) (all_combined aggs (values_at k rows) ∷ []) [] = values_at-folded_at aggs rows k xs parts.1 in
    elim (same_bytes k x) as (λ b. same_bytes k x ≡ b
    → map (λ (r : Row). r.values) (cond b (folded_at aggs rows x ∷ filter (λ r. same_bytes k r.key) (map (folded_at aggs rows) xs)) (filter (λ r. same_bytes k r.key) (map (folded_at aggs rows) xs)))
    ≡ cond (eq_by_cmp byte_cmp k x || has k xs) (all_combined aggs (values_at k rows) ∷ []) []) [
      | true ↦ λ t.
          let tied : byte_cmp k x ≡ Equal = is_equal _ (sym (texts_ties k x) ∙ t) in
          let same : k ≡ x = slice_cmp-IsAntisymmetric nat_cmp-IsAntisymmetric k x tied in
          let none : values_at k (map (folded_at aggs rows) xs) ≡ [] = rest ∙ ap (λ b. cond b (all_combined aggs (values_at k rows) ∷ []) []) (has_tied k x xs tied ∙ not_below x xs parts.0) in
          ap (λ q. all_combined aggs (values_at q rows) ∷ values_at k (map (folded_at aggs rows) xs)) (sym same) ∙ ap (λ vs. all_combined aggs (values_at k rows) ∷ vs) none
          ∙ ap (λ o. cond (is_eq o || has k xs) (all_combined aggs (values_at k rows) ∷ []) []) (sym tied)
      | false ↦ λ t. rest ∙ ap (λ b. cond (b || has k xs) (all_combined aggs (values_at k rows) ∷ []) []) (sym t ∙ texts_ties k x)
    ] refl

pub rising-keys_of : (rows : List Row) → T (is_rising (keys_of rows))
rising-keys_of rows = subst (λ ks. T (is_rising ks)) (sym (keys_of-keys_in rows)) (rising-keys_in (keys rows))

pub has-keys_of : (k : List ℕ) (rows : List Row) → has k (keys_of rows) ≡ has k (keys rows)
has-keys_of k rows = ap (has k) (keys_of-keys_in rows) ∙ has-keys_in k (keys rows)

pub keys-folded_at : (aggs : List Agg) (rows : List Row) (ks : Keys) → keys (map (folded_at aggs rows) ks) ≡ ks
keys-folded_at aggs rows [] = refl
keys-folded_at aggs rows (k ∷ ks) = ap (λ xs. k ∷ xs) (keys-folded_at aggs rows ks)

-- values that begin with a fold are those that begin with what was folded
joined : (aggs : List Agg) (rows more : List Row) (k : List ℕ) (b : Bool) → has k (keys rows) ≡ b
    → all_combined aggs (cond b (all_combined aggs (values_at k rows) ∷ []) [] ++ values_at k more) ≡ all_combined aggs (values_at k rows ++ values_at k more)
joined aggs rows more k false e = ap (λ vs. all_combined aggs (vs ++ values_at k more)) (sym (values_at_none k rows e))
joined aggs rows more k true e =
    let some : (v : List ℤ) × (vs : List (List ℤ)) × (values_at k rows ≡ v ∷ vs) = values_at_some k rows e in
    ap (λ vs. all_combined aggs (all_combined aggs vs ∷ values_at k more)) some.2
    ∙ sym (combined_from-append aggs some.0 some.1 (values_at k more))
    ∙ ap (λ vs. all_combined aggs (vs ++ values_at k more)) (sym some.2)

-- at each key a fold and more rows come to what the rows and more rows come to
same_at : (aggs : List Agg) (rows more : List Row) (k : List ℕ) → folded_at aggs (map (folded_at aggs rows) (keys_of rows) ++ more) k ≡ folded_at aggs (rows ++ more) k
same_at aggs rows more k =
    ap (λ vs. record { key = k; values = vs }) (
    ap (all_combined aggs) (values_at-append k (map (folded_at aggs rows) (keys_of rows)) more ∙ ap (λ vs. vs ++ values_at k more) (values_at-folded_at aggs rows k (keys_of rows) (rising-keys_of rows) ∙ ap (λ b. cond b (all_combined aggs (values_at k rows) ∷ []) []) (has-keys_of k rows)))
    ∙ joined aggs rows more k (has k (keys rows)) refl
    ∙ ap (all_combined aggs) (sym (values_at-append k rows more))
    )

same_keys : (aggs : List Agg) (rows more : List Row) → keys_of (map (folded_at aggs rows) (keys_of rows) ++ more) ≡ keys_of (rows ++ more)
same_keys aggs rows more =
    keys_of-keys_in (map (folded_at aggs rows) (keys_of rows) ++ more)
    ∙ ap keys_in (map-append (λ (r : Row). r.key) (map (folded_at aggs rows) (keys_of rows)) more ∙ ap (λ ks. ks ++ keys more) (keys-folded_at aggs rows (keys_of rows) ∙ keys_of-keys_in rows))
    ∙ keys_in-again (keys rows) (keys more)
    ∙ ap keys_in (sym (map-append (λ (r : Row). r.key) rows more))
    ∙ sym (keys_of-keys_in (rows ++ more))

folded_rows : (aggs : List Agg) (rows more : List Row) → map (folded_at aggs (map (folded_at aggs rows) (keys_of rows) ++ more)) (keys_of (map (folded_at aggs rows) (keys_of rows) ++ more)) ≡ map (folded_at aggs (rows ++ more)) (keys_of (rows ++ more))
folded_rows aggs rows more = λ i. map (λ k. same_at aggs rows more k i) (same_keys aggs rows more i)

-- Folding a fold and more parts is folding all of the parts.
pub folded-folded : (aggs : List Agg) (parts more : List (List Row)) → folded aggs (folded aggs parts ∷ more) ≡ folded aggs (parts ++ more)
folded-folded aggs parts more = folded_rows aggs (rows_of parts) (rows_of more) ∙ ap (λ rows. map (folded_at aggs rows) (keys_of rows)) (sym (rows_of-append parts more))
