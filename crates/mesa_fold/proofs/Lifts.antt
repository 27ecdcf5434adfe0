-- A change of the values of rows that goes along with combining them goes along with folding.
use Rattle.std.proofs.Common.{◌≡◌, ℕ, suc, List, [], ◌∷◌, ◌++◌, refl, sym, ◌∙◌, ap, length, arith}
use Rattle.std.proofs.lemmas.List.{map-append}
use Rattle.std.specs.Prelude.{ℤ, Bool, true, false, ◌||◌, cond, map, filter}
use Rattle.std.specs.List.{AllByRecursion}
use Rattle.std.specs.Ordering.{eq_by_cmp}
use Rattle.std.specs.Cmp.Lexicographic.{nat_list_cmp_total}
use Rattle.std.specs.Cmp.{eq_by_cmp_equiv}
use Rattle.mesa_columns.specs.mesa_value.declared.Agg.{Agg}
use Rattle.mesa_columns.specs.mesa_value.Agg.{combined}
use Rattle.mesa_columns.specs.mesa_key.Order.{byte_cmp}
use Rattle.mesa_columns.specs.declared.rows.Row.{Row}
use Rattle.mesa_columns.specs.mesa_list.Bytes.{same_bytes}
use Rattle.mesa_fold.specs.Folded.{with_key, keys_of, values_at, row_combined, combined_from, all_combined, rows_of, folded_at, folded}
use Rattle.mesa_fold.proofs.Keys.{Keys, has}
use Rattle.mesa_fold.proofs.Folds.{keys, values_at_some, has-keys_of}

-- a row with its values changed
abbrev pub with_values : (List ℤ → List ℤ) → Row → Row
with_values f row = record row { values = f row.values }

-- each row has values of which P holds
abbrev pub Each : (List ℤ → Type 0) → List Row → Type 0
Each P rows = AllByRecursion (λ row. P row.values) rows

module _ (P : List ℤ → Type 0) (f : List ℤ → List ℤ) (aggs more : List Agg)
    (closed : (a b : List ℤ) → P a → P b → P (row_combined aggs a b))
    (along : (a b : List ℤ) → P a → P b → f (row_combined aggs a b) ≡ row_combined more (f a) (f b)) where
  combined_from-along : (v : List ℤ) (vs : List (List ℤ)) → P v → AllByRecursion P vs → f (combined_from aggs v vs) ≡ combined_from more (f v) (map f vs)
  combined_from-along v [] p all = refl
  combined_from-along v (x ∷ xs) p all = combined_from-along (row_combined aggs v x) xs (closed v x p all.0) all.1 ∙ ap (λ u. combined_from more u (map f xs)) (along v x p all.0)

  keys_of-with_values : (rows : List Row) → keys_of (map (with_values f) rows) ≡ keys_of rows
  keys_of-with_values [] = refl
  keys_of-with_values (row ∷ rows) = ap (with_key row.key) (keys_of-with_values rows)

  values_at-with_values : (k : List ℕ) (rows : List Row) → values_at k (map (with_values f) rows) ≡ map f (values_at k rows)
  values_at-with_values k [] = refl
  values_at-with_values k (row ∷ rows) =
      elim (same_bytes k row.key) as (λ b. map (λ (r : Row). r.values) (cond b (with_values f row ∷ filter (λ r. same_bytes k r.key) (map (with_values f) rows)) (filter (λ r. same_bytes k r.key) (map (with_values f) rows)))
      ≡ map f (map (λ (r : Row). r.values) (cond b (row ∷ filter (λ r. same_bytes k r.key) rows) (filter (λ r. same_bytes k r.key) rows)))) [
        | true ↦ ap (λ vs. f row.values ∷ vs) (values_at-with_values k rows)
        | false ↦ values_at-with_values k rows
      ]

  values_each : (k : List ℕ) (rows : List Row) → Each P rows → AllByRecursion P (values_at k rows)
  values_each k [] all = tt
  values_each k (row ∷ rows) all =
      elim (same_bytes k row.key) as (λ b. AllByRecursion P (map (λ (r : Row). r.values) (cond b (row ∷ filter (λ r. same_bytes k r.key) rows) (filter (λ r. same_bytes k r.key) rows)))) [
        | true ↦ (all.0, values_each k rows all.1)
        | false ↦ values_each k rows all.1
      ]

  nonempty_along : (vs : List (List ℤ)) (v : List ℤ) (rest : List (List ℤ)) → vs ≡ v ∷ rest → AllByRecursion P vs → f (all_combined aggs vs) ≡ all_combined more (map f vs)
  nonempty_along [] v rest e all = refl_of_none v rest e
    where
      refl_of_none : (v : List ℤ) (rest : List (List ℤ)) → [] ≡ v ∷ rest → f [] ≡ []
      refl_of_none v rest e = cc
  nonempty_along (x ∷ xs) v rest e all = combined_from-along x xs all.0 all.1

  same_folded_at : (rows : List Row) (k : List ℕ) → Each P rows → has k (keys rows) ≡ true → with_values f (folded_at aggs rows k) ≡ folded_at more (map (with_values f) rows) k
  same_folded_at rows k all there =
      let some : (v : List ℤ) × (vs : List (List ℤ)) × (values_at k rows ≡ v ∷ vs) = values_at_some k rows there in
      ap (λ vs. record { key = k; values = vs }) (nonempty_along (values_at k rows) some.0 some.1 some.2 (values_each k rows all) ∙ ap (all_combined more) (sym (values_at-with_values k rows)))

  along_keys : (rows : List Row) (ks : Keys) → Each P rows → ((k : List ℕ) → has k ks ≡ true → has k (keys rows) ≡ true) → map (with_values f) (map (folded_at aggs rows) ks) ≡ map (folded_at more (map (with_values f) rows)) ks
  along_keys rows [] all there = refl
  along_keys rows (k ∷ ks) all there = λ i.
      same_folded_at rows k all (there k (ap (λ b. b || has k ks) ((eq_by_cmp_equiv nat_list_cmp_total).refl k))) i
      ∷ along_keys rows ks all (λ q h. there q (or_true (eq_by_cmp byte_cmp q k) _ h)) i
    where
      or_true : (a b : Bool) → b ≡ true → (a || b) ≡ true
      or_true true b e = refl
      or_true false b e = e

  rows_of-with_values : (parts : List (List Row)) → map (with_values f) (rows_of parts) ≡ rows_of (map (map (with_values f)) parts)
  rows_of-with_values [] = refl
  rows_of-with_values (part ∷ parts) = map-append (with_values f) part (rows_of parts) ∙ ap (λ rows. map (with_values f) part ++ rows) (rows_of-with_values parts)

  -- Changing folded values is folding changed values.
  pub with_values-folded : (parts : List (List Row)) → Each P (rows_of parts) → map (with_values f) (folded aggs parts) ≡ folded more (map (map (with_values f)) parts)
  with_values-folded parts all =
      along_keys (rows_of parts) (keys_of (rows_of parts)) all (λ k h. sym (has-keys_of k (rows_of parts)) ∙ h)
      ∙ ap (map (folded_at more (map (with_values f) (rows_of parts)))) (sym (keys_of-with_values (rows_of parts)))
      ∙ ap (λ rows. map (folded_at more rows) (keys_of rows)) (rows_of-with_values parts)

-- ---- a value column more

pub row_combined-length : (aggs : List Agg) (a b : List ℤ) → length a ≡ length aggs → length b ≡ length aggs → length (row_combined aggs a b) ≡ length aggs
row_combined-length [] [] [] p q = refl
row_combined-length [] (x ∷ a) b p q = absurd (omega arith)
row_combined-length [] [] (y ∷ b) p q = absurd (omega arith)
row_combined-length (agg ∷ aggs) [] b p q = absurd (omega arith)
row_combined-length (agg ∷ aggs) (x ∷ a) [] p q = absurd (omega arith)
row_combined-length (agg ∷ aggs) (x ∷ a) (y ∷ b) p q = ap suc (row_combined-length aggs a b (omega arith) (omega arith))

row_combined-more : (aggs : List Agg) (agg : Agg) (d : ℤ) → combined agg d d ≡ d → (a b : List ℤ) → length a ≡ length aggs → length b ≡ length aggs
    → row_combined aggs a b ++ d ∷ [] ≡ row_combined (aggs ++ agg ∷ []) (a ++ d ∷ []) (b ++ d ∷ [])
row_combined-more [] agg d same [] [] p q = ap (λ v. v ∷ []) (sym same)
row_combined-more [] agg d same (x ∷ a) b p q = absurd (omega arith)
row_combined-more [] agg d same [] (y ∷ b) p q = absurd (omega arith)
row_combined-more (g ∷ aggs) agg d same [] b p q = absurd (omega arith)
row_combined-more (g ∷ aggs) agg d same (x ∷ a) [] p q = absurd (omega arith)
row_combined-more (g ∷ aggs) agg d same (x ∷ a) (y ∷ b) p q = ap (λ vs. combined g x y ∷ vs) (row_combined-more aggs agg d same a b (omega arith) (omega arith))

-- Where two defaults combine to the default, appending it to a fold's rows is folding the rows with it appended.
pub appended-folded : (aggs : List Agg) (agg : Agg) (d : ℤ) → combined agg d d ≡ d → (parts : List (List Row)) → Each (λ vs. length vs ≡ length aggs) (rows_of parts)
    → map (with_values (λ vs. vs ++ d ∷ [])) (folded aggs parts) ≡ folded (aggs ++ agg ∷ []) (map (map (with_values (λ vs. vs ++ d ∷ []))) parts)
appended-folded aggs agg d same parts all = with_values-folded (λ vs. length vs ≡ length aggs) (λ vs. vs ++ d ∷ []) aggs (aggs ++ agg ∷ []) (row_combined-length aggs) (row_combined-more aggs agg d same) parts all
