-- The answer over the fold of parts is the answer over their rows, in the order of the parts.
use Rattle.std.proofs.Common.{◌≡◌, ℕ, zero, suc, ◌+◌, ◌<◌, List, [], ◌∷◌, ◌++◌, length, map, true, false, refl, sym, ◌∙◌, ap, subst, arith, Some, None}
use Rattle.std.specs.Prelude.{Bool, ◌==◌, find, cond, nat_lt}
use Rattle.std.specs.List.{AllByRecursion, enumerate_from, list_all, list_any}
use Rattle.std.proofs.lemmas.List.{append-nil}
use Rattle.std.proofs.lemmas.List.Elements.{filter-append}
use Rattle.mesa_value.specs.declared.Agg.{Agg}
use Rattle.mesa_value.specs.declared.Agg.TheVariants.{Sum, Min, Max, Replace}
use Rattle.mesa_value.specs.Agg.{IsOrderless}
use Rattle.mesa_key.specs.Spelling.{key_of}
use Rattle.mesa_key.proofs.Columns.{both}
use Rattle.mesa_model.specs.mesa_columns.declared.rows.Row.{Row}
use Rattle.mesa_model.specs.mesa_columns.declared.columns.ValueColumn.{ValueColumn}
use Rattle.mesa_model.specs.mesa_columns.Columns.{Columns, aggs_of, chosen, is_replace, kinds_of}
use Rattle.mesa_model.specs.mesa_fold.Laws.{AreAllKeys}
use Rattle.mesa_model.specs.mesa_columns.Rows.{AreRowsOf, IsRowOf}
use Rattle.mesa_model.specs.mesa_fold.Folded.{folded, folded_at, grouped, keys_of, regrouped, rows_of}
use Rattle.mesa_model.proofs.mesa_fold.FilteredFolds.{filtered_folds}
use Rattle.mesa_model.proofs.mesa_fold.Folds.{folded-folded}
use Rattle.mesa_model.proofs.mesa_fold.GroupedFolds.{groups_folded}
use Rattle.mesa_model.proofs.mesa_fold.WholeGroups.{groups_whole}
use Rattle.mesa_filter.specs.declared.terms.Term.{Term}
use Rattle.mesa_filter.specs.Asked.{lists_all_keys}
use Rattle.mesa_filter.specs.Filter.{filtered, meets}
use Rattle.mesa_filter.specs.Query.{BuiltQuery, IsQueryOf}
use Rattle.mesa_model.specs.Query.{answer_rows}
use Rattle.mesa_answer.proofs.Picked.{chosen-map}
use Rattle.mesa_answer.proofs.Steps.{all_filtered}

ordered : (c : ValueColumn) (g : Agg) → c.agg ≡ g → IsOrderless g → is_replace c ≡ false
ordered c Sum e o = cc
ordered c Min e o = cc
ordered c Max e o = cc
ordered c Replace e o = absurd o

orderless : (columns : List ValueColumn) → find is_replace columns ≡ None → AllByRecursion IsOrderless (map (λ (c : ValueColumn). c.agg) columns)
orderless [] none = tt
orderless (c ∷ columns) none =
    elim c.agg as (λ g. c.agg ≡ g → IsOrderless g × AllByRecursion IsOrderless (map (λ (c : ValueColumn). c.agg) columns)) [
      | Sum ↦ λ e. (tt, orderless columns (sym (ap (λ b. cond b (Some c) (find is_replace columns)) (ordered c Sum e tt)) ∙ none))
      | Min ↦ λ e. (tt, orderless columns (sym (ap (λ b. cond b (Some c) (find is_replace columns)) (ordered c Min e tt)) ∙ none))
      | Max ↦ λ e. (tt, orderless columns (sym (ap (λ b. cond b (Some c) (find is_replace columns)) (ordered c Max e tt)) ∙ none))
      | Replace ↦ λ e. cc
    ] refl

one_part : (aggs : List Agg) (parts : List (List Row)) → folded aggs (rows_of parts ∷ []) ≡ folded aggs parts
one_part aggs parts = ap (λ (rows : List Row). map (folded_at aggs rows) (keys_of rows)) (append-nil (rows_of parts))

grouped_parts : (s : Columns) (columns values : List ℕ) (parts : List (List Row)) → AllByRecursion IsOrderless (chosen values (aggs_of s)) → AreRowsOf s (rows_of parts)
    → grouped s columns values (folded (aggs_of s) parts) ≡ grouped s columns values (rows_of parts)
grouped_parts s columns values parts free all =
    ap (grouped s columns values) (sym (one_part (aggs_of s) parts))
    ∙ groups_folded s columns values (rows_of parts ∷ []) free (subst (AreRowsOf s) (sym (append-nil (rows_of parts))) all)
    ∙ folded-folded (chosen values (aggs_of s)) (map (regrouped s columns values) (rows_of parts) ∷ []) []

-- what is so of each place from one on is so of each
all_below : {X : Type 0} (test : ℕ → Bool) (i : ℕ) (xs : List X) → list_all test (map (λ p. p.0) (enumerate_from i xs)) ≡ true → (p n : ℕ) → p < length xs → n ≡ i + p → test n ≡ true
all_below test i [] h p n lt e = absurd (omega (arith, lt))
all_below test i (x ∷ xs) h zero n lt e = let here : i ≡ n = omega (arith, e) in subst (λ m. test m ≡ true) here (both (test i) (list_all test (map (λ p. p.0) (enumerate_from (i + 1) xs))) h).0
all_below test i (x ∷ xs) h (suc p) n lt e = all_below test (i + 1) xs (both (test i) (list_all test (map (λ p. p.0) (enumerate_from (i + 1) xs))) h).1 p n (omega (arith, lt)) (omega (arith, e))

all_keys : (s : Columns) (columns : List ℕ) → list_all (λ place. nat_lt place (length s.keys)) columns ≡ true → lists_all_keys s columns ≡ true → AreAllKeys s columns
all_keys s columns there listed = record {
  places = there;
  each = λ place l. all_below (λ p. list_any (λ c. c == p) columns) 0 s.keys listed place place l (omega arith);
}

filtered_parts : (s : Columns) (terms : List Term) (parts : List (List Row)) → rows_of (map (filtered s terms) parts) ≡ filtered s terms (rows_of parts)
filtered_parts s terms [] = refl
filtered_parts s terms (part ∷ parts) = ap (λ rows. filtered s terms part ++ rows) (filtered_parts s terms parts) ∙ sym (filter-append (λ (row : Row). meets (key_of (kinds_of s) row.key) terms) part (rows_of parts))

pub rows_kept : (s : Columns) (terms : List Term) (parts : List (List Row)) → AreRowsOf s (rows_of parts) → AreRowsOf s (rows_of (map (filtered s terms) parts))
rows_kept s terms parts all =
    subst (AreRowsOf s) (sym (filtered_parts s terms parts)) (all_filtered (IsRowOf s) (λ (row : Row). meets (key_of (kinds_of s) row.key) terms) (rows_of parts) all)

-- Parts that are grouped as a query asks need no fold.
grouped_asked : (s : Columns) (q : BuiltQuery) (parts : List (List Row)) → IsQueryOf s q → AreRowsOf s (rows_of parts)
    → grouped s q.asked.columns q.asked.values (folded (aggs_of s) parts) ≡ grouped s q.asked.columns q.asked.values (rows_of parts)
grouped_asked s q parts is all =
    elim (lists_all_keys s q.asked.columns) as (λ b. lists_all_keys s q.asked.columns ≡ b → cond b None (find is_replace (chosen q.asked.values s.values)) ≡ None
    → grouped s q.asked.columns q.asked.values (folded (aggs_of s) parts) ≡ grouped s q.asked.columns q.asked.values (rows_of parts)) [
      | true ↦ λ t none. groups_whole s q.asked.columns q.asked.values parts (all_keys s q.asked.columns is.columns t) all
      | false ↦ λ t none. grouped_parts s q.asked.columns q.asked.values parts (subst (AllByRecursion IsOrderless) (chosen-map (λ (c : ValueColumn). c.agg) q.asked.values s.values) (orderless (chosen q.asked.values s.values) none)) all
    ] refl is.replace

-- THE LAW OF QUERIES OVER PARTS: filtered one by one, they are answered as their fold is.
pub answer_filtered : (s : Columns) (q : BuiltQuery) (parts : List (List Row)) → IsQueryOf s q → AreRowsOf s (rows_of parts)
    → answer_rows s q.asked (folded (aggs_of s) parts) ≡ grouped s q.asked.columns q.asked.values (rows_of (map (filtered s q.asked.terms) parts))
answer_filtered s q parts is all =
    ap (grouped s q.asked.columns q.asked.values) (filtered_folds (λ key. meets (key_of (kinds_of s) key) q.asked.terms) (aggs_of s) parts)
    ∙ grouped_asked s q (map (filtered s q.asked.terms) parts) is (rows_kept s q.asked.terms parts all)

-- And so are their rows.
pub answer_parts : (s : Columns) (q : BuiltQuery) (parts : List (List Row)) → IsQueryOf s q → AreRowsOf s (rows_of parts)
    → answer_rows s q.asked (folded (aggs_of s) parts) ≡ answer_rows s q.asked (rows_of parts)
answer_parts s q parts is all = answer_filtered s q parts is all ∙ ap (grouped s q.asked.columns q.asked.values) (filtered_parts s q.asked.terms parts)
