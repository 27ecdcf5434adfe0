-- Parts that stand one after the other may be folded first, wherever they stand.
use Rattle.std.proofs.Common.{◌≡◌, ℕ, List, [], ◌∷◌, ◌++◌, refl, sym, ◌∙◌, ap, append_assoc, arith}
use Rattle.std.proofs.lemmas.List.{map-append}
use Rattle.std.proofs.lemmas.Int.{ints}
use Rattle.std.specs.Prelude.{ℤ, Bool, true, false, ◌||◌, cond, map}
use Rattle.std.specs.Ordering.{eq_by_cmp}
use Rattle.std.proofs.lemmas.List.Folds.{list_any-append}
use Rattle.mesa_columns.specs.mesa_value.declared.Agg.{Agg}
use Rattle.mesa_columns.specs.mesa_value.declared.Agg.TheVariants.{Sum, Min, Max, Replace}
use Rattle.mesa_columns.specs.mesa_value.Agg.{combined}
use Rattle.mesa_columns.specs.mesa_key.Order.{byte_cmp}
use Rattle.mesa_columns.specs.declared.rows.Row.{Row}
use Rattle.mesa_fold.specs.Folded.{all_combined, combined_from, folded, folded_at, keys_of, row_combined, rows_of, values_at}
use Rattle.mesa_fold.proofs.Keys.{has, keys_in-same}
use Rattle.mesa_fold.proofs.Folds.{combined_from-append, has-keys_of, keys, keys-folded_at, keys_of-keys_in, rising-keys_of, rows_of-append, values_at-append, values_at-folded_at, values_at_none, values_at_some}
use Rattle.mesa_fold.proofs.Folding.{of_rows}

pub combined-assoc : (agg : Agg) (a b c : ℤ) → combined agg (combined agg a b) c ≡ combined agg a (combined agg b c)
combined-assoc Sum a b c = omega (arith, ints)
combined-assoc Min a b c = grind (arith, ints)
combined-assoc Max a b c = grind (arith, ints)
combined-assoc Replace a b c = refl

pub row-assoc : (aggs : List Agg) (a b c : List ℤ) → row_combined aggs (row_combined aggs a b) c ≡ row_combined aggs a (row_combined aggs b c)
row-assoc [] a b c = refl
row-assoc (g ∷ aggs) [] [] c = refl
row-assoc (g ∷ aggs) [] (y ∷ b) [] = refl
row-assoc (g ∷ aggs) [] (y ∷ b) (z ∷ c) = refl
row-assoc (g ∷ aggs) (x ∷ a) [] c = refl
row-assoc (g ∷ aggs) (x ∷ a) (y ∷ b) [] = refl
row-assoc (g ∷ aggs) (x ∷ a) (y ∷ b) (z ∷ c) = λ i. combined-assoc g x y z i ∷ row-assoc aggs a b c i

-- values before what was combined may join it
joins : (aggs : List Agg) (u v : List ℤ) (vs : List (List ℤ)) → row_combined aggs u (combined_from aggs v vs) ≡ combined_from aggs (row_combined aggs u v) vs
joins aggs u v [] = refl
joins aggs u v (w ∷ vs) = joins aggs u (row_combined aggs v w) vs ∙ ap (λ x. combined_from aggs x vs) (sym (row-assoc aggs u v w))

-- combining some of the values first, wherever they stand
squeezed : (aggs : List Agg) (before : List (List ℤ)) (v : List ℤ) (vs after : List (List ℤ))
    → all_combined aggs (before ++ (combined_from aggs v vs ∷ after)) ≡ all_combined aggs (before ++ (v ∷ (vs ++ after)))
squeezed aggs [] v vs after = sym (combined_from-append aggs v vs after)
squeezed aggs (x ∷ before) v vs after =
    combined_from-append aggs x before (combined_from aggs v vs ∷ after)
    ∙ ap (λ u. combined_from aggs u after) (joins aggs (combined_from aggs x before) v vs)
    ∙ sym (combined_from-append aggs (row_combined aggs (combined_from aggs x before) v) vs after)
    ∙ sym (combined_from-append aggs x before (v ∷ (vs ++ after)))

-- the values at a key: those of the rows that were folded first are one, where the key was there
within : (aggs : List Agg) (rows : List Row) (k : List ℕ) (before after : List (List ℤ)) (b : Bool) → has k (keys rows) ≡ b
    → all_combined aggs (before ++ (cond b (all_combined aggs (values_at k rows) ∷ []) [] ++ after)) ≡ all_combined aggs (before ++ (values_at k rows ++ after))
within aggs rows k before after false e = ap (λ vs. all_combined aggs (before ++ (vs ++ after))) (sym (values_at_none k rows e))
within aggs rows k before after true e =
    let some : (v : List ℤ) × (vs : List (List ℤ)) × (values_at k rows ≡ v ∷ vs) = values_at_some k rows e in
    ap (λ vs. all_combined aggs (before ++ (all_combined aggs vs ∷ after))) some.2
    ∙ squeezed aggs before some.0 some.1 after
    ∙ ap (λ vs. all_combined aggs (before ++ (vs ++ after))) (sym some.2)

same_at : (aggs : List Agg) (before rows after : List Row) (k : List ℕ) → folded_at aggs (before ++ (of_rows aggs rows ++ after)) k ≡ folded_at aggs (before ++ (rows ++ after)) k
same_at aggs before rows after k = ap (λ vs. record { key = k; values = vs }) (
    ap (all_combined aggs) (
    values_at-append k before (of_rows aggs rows ++ after)
    ∙ ap (λ vs. values_at k before ++ vs) (values_at-append k (of_rows aggs rows) after
    ∙ ap (λ vs. vs ++ values_at k after) (values_at-folded_at aggs rows k (keys_of rows) (rising-keys_of rows) ∙ ap (λ b. cond b (all_combined aggs (values_at k rows) ∷ []) []) (has-keys_of k rows))))
    ∙ within aggs rows k (values_at k before) (values_at k after) (has k (keys rows)) refl
    ∙ ap (all_combined aggs) (sym (values_at-append k before (rows ++ after) ∙ ap (λ vs. values_at k before ++ vs) (values_at-append k rows after))))

-- the keys of rows that stand one after the other
has-append : (q : List ℕ) (xs ys : List Row) → has q (keys (xs ++ ys)) ≡ (has q (keys xs) || has q (keys ys))
has-append q xs ys = ap (has q) (map-append (λ (r : Row). r.key) xs ys) ∙ list_any-append (eq_by_cmp byte_cmp q) (keys xs) (keys ys)

same_keys : (aggs : List Agg) (before rows after : List Row) → keys_of (before ++ (of_rows aggs rows ++ after)) ≡ keys_of (before ++ (rows ++ after))
same_keys aggs before rows after =
    keys_of-keys_in (before ++ (of_rows aggs rows ++ after))
    ∙ keys_in-same _ _ (λ q.
    has-append q before (of_rows aggs rows ++ after)
    ∙ ap (λ b. has q (keys before) || b) (has-append q (of_rows aggs rows) after
    ∙ ap (λ b. b || has q (keys after)) (ap (has q) (keys-folded_at aggs rows (keys_of rows)) ∙ has-keys_of q rows)
    ∙ sym (has-append q rows after))
    ∙ sym (has-append q before (rows ++ after)))
    ∙ sym (keys_of-keys_in (before ++ (rows ++ after)))

pub rows-refolded : (aggs : List Agg) (before rows after : List Row) → of_rows aggs (before ++ (of_rows aggs rows ++ after)) ≡ of_rows aggs (before ++ (rows ++ after))
rows-refolded aggs before rows after = λ i. map (λ k. same_at aggs before rows after k i) (same_keys aggs before rows after i)

-- Parts that stand one after the other may be folded first.
pub refolded : (aggs : List Agg) (before parts after : List (List Row)) → folded aggs (before ++ folded aggs parts ∷ after) ≡ folded aggs (before ++ parts ++ after)
refolded aggs before parts after =
    ap (of_rows aggs) (rows_of-append before (folded aggs parts ∷ after))
    ∙ rows-refolded aggs (rows_of before) (rows_of parts) (rows_of after)
    ∙ ap (of_rows aggs) (sym (ap rows_of (append_assoc before parts after) ∙ rows_of-append before (parts ++ after) ∙ ap (λ rows. rows_of before ++ rows) (rows_of-append parts after)))
