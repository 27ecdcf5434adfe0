-- Rows may be folded before a recast or after it.
use Rattle.std.proofs.Common.{◌≡◌, ℕ, zero, suc, ◌+◌, ◌<◌, List, [], ◌∷◌, ◌++◌, map, length, true, false, refl, sym, ◌∙◌, ap, subst, arith, append_assoc, None}
use Rattle.std.specs.Prelude.{◌==◌, cond, find}
use Rattle.std.specs.List.{AllByRecursion, enumerate_from, list_all, list_any}
use Rattle.std.proofs.lemmas.List.{append-nil, length-map}
use Rattle.std.proofs.lemmas.Simd.{map-map}
use Rattle.mesa_fold.specs.mesa_value.declared.Agg.{Agg}
use Rattle.mesa_fold.specs.mesa_value.Agg.{IsOrderless}
use Rattle.mesa_columns.specs.declared.columns.KeyColumn.{KeyColumn}
use Rattle.mesa_columns.specs.declared.columns.ValueColumn.{ValueColumn}
use Rattle.mesa_columns.specs.declared.rows.Row.{Row}
use Rattle.mesa_columns.specs.declared.views.ViewError.TheVariants.{NoKey}
use Rattle.mesa_columns.specs.Columns.{Columns, aggs_of, chosen, is_replace, key_names}
use Rattle.mesa_fold.specs.Folded.{folded, folded_at, grouped, keys_of, regrouped, rows_of}
use Rattle.mesa_fold.specs.Laws.{AreAllKeys}
use Rattle.mesa_columns.specs.Rows.{AreRowsOf, keys_rise}
use Rattle.mesa_fold.proofs.Forms.{rows_of-map}
use Rattle.mesa_fold.proofs.GroupedFolds.{groups_folded}
use Rattle.mesa_fold.proofs.GroupKeys.{chosen_mapped, groups_form, groups_rise}
use Rattle.mesa_fold.proofs.Refolds.{refolded}
use Rattle.mesa_fold.proofs.WholeGroups.{groups_whole}
use Rattle.mesa_schema.specs.Recasts.{IsRecastOf, Recast, keeps_all_keys, recast_columns, recast_keys, recast_rows, recast_values}
use Rattle.mesa_schema.proofs.ChosenAgain.{both, choice_there, places_within}
use Rattle.mesa_schema.proofs.Outlasting.{orderless}
use Rattle.mesa_schema.proofs.Regrouping.{aggs_recast}

-- ---- every key column is kept

all_below : {X : Type 0} (test : ℕ → Rattle.std.specs.Prelude.Bool) (i : ℕ) (xs : List X) → list_all test (map (λ p. p.0) (enumerate_from i xs)) ≡ true → (p n : ℕ) → p < length xs → n ≡ i + p → test n ≡ true
all_below test i [] h p n lt e = absurd (omega (arith, lt))
all_below test i (x ∷ xs) h zero n lt e = let here : i ≡ n = omega (arith, e) in subst (λ m. test m ≡ true) here (both (test i) (list_all test (map (λ p. p.0) (enumerate_from (i + 1) xs))) h).0
all_below test i (x ∷ xs) h (suc p) n lt e = all_below test (i + 1) xs (both (test i) (list_all test (map (λ p. p.0) (enumerate_from (i + 1) xs))) h).1 p n (omega (arith, lt)) (omega (arith, e))

all_keys : (s : Columns) (r : Recast) → IsRecastOf s r → keeps_all_keys s r ≡ true → AreAllKeys s (recast_keys s r)
all_keys s r is kept = record {
  places = places_within (key_names s) s.keys r.keys (length-map s.keys (λ (c : KeyColumn). c.name)) (choice_there (key_names s) NoKey r.keys is.keys);
  each = λ place l. all_below (λ p. list_any (λ c. c == p) (recast_keys s r)) 0 s.keys kept place place l (omega arith);
}

-- ---- each part first

each_folded : (aggs : List Agg) (before parts : List (List Row)) → folded aggs (before ++ map (λ part. folded aggs (part ∷ [])) parts) ≡ folded aggs (before ++ parts)
each_folded aggs before [] = refl
each_folded aggs before (part ∷ parts) =
    refolded aggs before (part ∷ []) (map (λ p. folded aggs (p ∷ [])) parts)
    ∙ each_folded aggs (before ++ part ∷ []) parts
    ∙ ap (folded aggs) (append_assoc before (part ∷ []) parts)

one_part : (aggs : List Agg) (parts : List (List Row)) → folded aggs (rows_of parts ∷ []) ≡ folded aggs parts
one_part aggs parts = ap (λ (rows : List Row). map (folded_at aggs rows) (keys_of rows)) (append-nil (rows_of parts))

-- the rows of all parts, grouped, are the fold of the grouped parts
pub grouped_parts : (s : Columns) (columns values : List ℕ) (parts : List (List Row)) → grouped s columns values (rows_of parts) ≡ folded (chosen values (aggs_of s)) (map (grouped s columns values) parts)
grouped_parts s columns values parts =
    let fewer : List Agg = chosen values (aggs_of s) in
    let place : Row → Row = regrouped s columns values in
    ap (λ rows. folded fewer (rows ∷ [])) (sym (rows_of-map place parts))
    ∙ one_part fewer (map (map place) parts)
    ∙ sym (each_folded fewer [] (map (map place) parts))
    ∙ ap (folded fewer) (map-map (λ part. folded fewer (part ∷ [])) (map place) parts)

-- ---- the laws

pub recast_folds : (s : Columns) (r : Recast) (parts : List (List Row)) → IsRecastOf s r → AreRowsOf s (rows_of parts)
    → recast_rows s r (folded (aggs_of s) parts) ≡ folded (aggs_of (recast_columns s r)) (map (recast_rows s r) parts)
recast_folds s r parts is all =
    elim (keeps_all_keys s r) as (λ b. keeps_all_keys s r ≡ b → cond b None (find is_replace (chosen (recast_values s r) s.values)) ≡ None
    → recast_rows s r (folded (aggs_of s) parts) ≡ folded (chosen (recast_values s r) (aggs_of s)) (map (recast_rows s r) parts)) [
      | true ↦ λ t none. groups_whole s (recast_keys s r) (recast_values s r) parts (all_keys s r is t) all ∙ grouped_parts s (recast_keys s r) (recast_values s r) parts
      | false ↦ λ t none. groups_folded s (recast_keys s r) (recast_values s r) parts (subst (AllByRecursion IsOrderless) (sym (chosen_mapped (λ (c : ValueColumn). c.agg) (recast_values s r) s.values)) (orderless (chosen (recast_values s r) s.values) none)) all
    ] refl is.replaces
    ∙ ap (λ aggs. folded aggs (map (recast_rows s r) parts)) (aggs_recast s r)

pub recast_form : (s : Columns) (r : Recast) (rows : List Row) → AreRowsOf s rows → AreRowsOf (recast_columns s r) (recast_rows s r rows)
recast_form s r rows all = groups_form s (recast_keys s r) (recast_values s r) rows all

pub recast_rise : (s : Columns) (r : Recast) (rows : List Row) → keys_rise (recast_rows s r rows) ≡ true
recast_rise s r rows = groups_rise s (recast_keys s r) (recast_values s r) rows
