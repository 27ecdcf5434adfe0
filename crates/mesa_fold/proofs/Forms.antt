-- Rows keep their form through folds.
use Rattle.std.proofs.Common.{◌≡◌, ℕ, ◌+◌, List, [], ◌∷◌, ◌++◌, refl, sym, ◌∙◌, ap, subst, length, map, Bool, true, false, cond}
use Rattle.std.proofs.lemmas.List.{append-nil, length-map, map-append}
use Rattle.std.specs.Prelude.{ℤ, ◌||◌, filter}
use Rattle.std.specs.List.{AllByRecursion}
use Rattle.std.specs.Ordering.{eq_by_cmp}
use Rattle.std.specs.Cmp.{eq_by_cmp_equiv}
use Rattle.std.specs.Cmp.Lexicographic.{nat_list_cmp_total}
use Rattle.mesa_columns.specs.mesa_list.Bytes.{same_bytes}
use Rattle.mesa_columns.specs.mesa_value.declared.Agg.{Agg}
use Rattle.mesa_columns.specs.mesa_key.declared.KeyType.{KeyType}
use Rattle.mesa_columns.specs.mesa_key.declared.KeyValue.{KeyValue}
use Rattle.mesa_columns.specs.mesa_key.Order.{byte_cmp}
use Rattle.mesa_columns.specs.mesa_key.Spelling.{IsKey, key_of, key_spelling}
use Rattle.mesa_columns.proofs.mesa_key.Keys.{key_again}
use Rattle.mesa_columns.specs.declared.columns.ValueColumn.{ValueColumn}
use Rattle.mesa_columns.specs.declared.rows.Row.{Row}
use Rattle.mesa_columns.specs.Columns.{Columns, aggs_of, kinds_of}
use Rattle.mesa_columns.specs.Rows.{AreRowsOf, IsRowOf}
use Rattle.mesa_fold.specs.Folded.{all_combined, combined_from, folded, folded_at, keys_of, row_combined, rows_of, values_at}
use Rattle.mesa_fold.proofs.Folds.{has-keys_of, keys, values_at_some}
use Rattle.mesa_fold.proofs.KeyLifts.{Spells, keys_of-all}
use Rattle.mesa_fold.proofs.Keys.{has}
use Rattle.mesa_fold.proofs.Lifts.{Each, row_combined-length}
use Rattle.mesa_fold.proofs.Ranges.{ranges_folded}

-- ---- the form of rows

-- bytes that are a key's spelling spell it
pub spells_key : (types : List KeyType) (key : List KeyValue) (bytes : List ℕ) → IsKey types key → bytes ≡ key_spelling key → Spells types bytes
spells_key types key bytes h e =
    let read : key_of types bytes ≡ key = ap (key_of types) (e ∙ sym (append-nil (key_spelling key))) ∙ key_again types key [] h in
    record { key = subst (IsKey types) (sym read) h; spelled = ap key_spelling read ∙ sym e }

pub row-full : (s : Columns) (row : Row) → IsRowOf s row → length row.values ≡ length (aggs_of s)
row-full s row h = h.values ∙ sym (length-map s.values (λ (c : ValueColumn). c.agg))

-- ---- folds of rows of one form

pub rows-full : (s : Columns) (rows : List Row) → AreRowsOf s rows → Each (λ vs. length vs ≡ length (aggs_of s)) rows
rows-full s [] h = tt
rows-full s (row ∷ rows) h = (row-full s row h.0, rows-full s rows h.1)

pub rows-spell : (s : Columns) (rows : List Row) → AreRowsOf s rows → AllByRecursion (λ (r : Row). Spells (kinds_of s) r.key) rows
rows-spell s [] h = tt
rows-spell s (row ∷ rows) h = (record { key = h.0.key; spelled = h.0.spelled }, rows-spell s rows h.1)

values-full : (aggs : List Agg) (k : List ℕ) (rows : List Row) → Each (λ vs. length vs ≡ length aggs) rows → AllByRecursion (λ vs. length vs ≡ length aggs) (values_at k rows)
values-full aggs k [] h = tt
values-full aggs k (row ∷ rows) h = elim (same_bytes k row.key) as (λ b. AllByRecursion (λ vs. length vs ≡ length aggs) (map (λ (r : Row). r.values) (cond b (row ∷ filter (λ r. same_bytes k r.key) rows) (filter (λ r. same_bytes k r.key) rows)))) [
  | true ↦ (h.0, values-full aggs k rows h.1)
  | false ↦ values-full aggs k rows h.1
]

from-full : (aggs : List Agg) (v : List ℤ) (vs : List (List ℤ)) → length v ≡ length aggs → AllByRecursion (λ xs. length xs ≡ length aggs) vs → length (combined_from aggs v vs) ≡ length aggs
from-full aggs v [] p h = p
from-full aggs v (x ∷ xs) p h = from-full aggs (row_combined aggs v x) xs (row_combined-length aggs v x p h.0) h.1

all-full : (aggs : List Agg) (vs : List (List ℤ)) (v : List ℤ) (rest : List (List ℤ)) → vs ≡ v ∷ rest → AllByRecursion (λ xs. length xs ≡ length aggs) vs → length (all_combined aggs vs) ≡ length aggs
all-full aggs [] v rest e h = cc
all-full aggs (x ∷ xs) v rest e h = from-full aggs x xs h.0 h.1

or-true : (a b : Bool) → b ≡ true → (a || b) ≡ true
or-true true b e = refl
or-true false b e = e

forms_at : (s : Columns) (rows : List Row) (ks : List (List ℕ)) → AreRowsOf s rows → AllByRecursion (Spells (kinds_of s)) ks → ((k : List ℕ) → has k ks ≡ true → has k (keys rows) ≡ true) → AreRowsOf s (map (folded_at (aggs_of s) rows) ks)
forms_at s rows [] all spell there = tt
forms_at s rows (k ∷ ks) all spell there =
    let some = values_at_some k rows (there k (ap (λ b. b || has k ks) ((eq_by_cmp_equiv nat_list_cmp_total).refl k))) in (
      record {
        key = spell.0.key;
        spelled = spell.0.spelled;
        values = all-full (aggs_of s) (values_at k rows) some.0 some.1 some.2 (values-full (aggs_of s) k rows (rows-full s rows all)) ∙ length-map s.values (λ (c : ValueColumn). c.agg);
        ranges = ranges_folded s rows k all;
      },
      forms_at s rows ks all spell.1 (λ q h. there q (or-true (eq_by_cmp byte_cmp q k) (has q ks) h)),
    )

-- A fold of rows of one form has that form.
pub folded_form : (s : Columns) (parts : List (List Row)) → AreRowsOf s (rows_of parts) → AreRowsOf s (folded (aggs_of s) parts)
folded_form s parts all =
    forms_at s (rows_of parts) (keys_of (rows_of parts)) all (keys_of-all (Spells (kinds_of s)) (rows_of parts) (rows-spell s (rows_of parts) all)) (λ k h. sym (has-keys_of k (rows_of parts)) ∙ h)

-- A fold of rows that have a value for each column has such rows.
pub folds_full : (aggs : List Agg) (parts : List (List Row)) → Each (λ vs. length vs ≡ length aggs) (rows_of parts) → Each (λ vs. length vs ≡ length aggs) (folded aggs parts)
folds_full aggs parts all = full_at (keys_of (rows_of parts)) (λ k h. sym (has-keys_of k (rows_of parts)) ∙ h)
  where
    full_at : (ks : List (List ℕ)) → ((k : List ℕ) → has k ks ≡ true → has k (keys (rows_of parts)) ≡ true) → Each (λ vs. length vs ≡ length aggs) (map (folded_at aggs (rows_of parts)) ks)
    full_at [] there = tt
    full_at (k ∷ ks) there =
        let some = values_at_some k (rows_of parts) (there k (ap (λ b. b || has k ks) ((eq_by_cmp_equiv nat_list_cmp_total).refl k))) in
        (all-full aggs (values_at k (rows_of parts)) some.0 some.1 some.2 (values-full aggs k (rows_of parts) all), full_at ks (λ q h. there q (or-true (eq_by_cmp byte_cmp q k) (has q ks) h)))

-- ---- folding and lifting

pub rows_of-map : (f : Row → Row) (parts : List (List Row)) → rows_of (map (map f) parts) ≡ map f (rows_of parts)
rows_of-map f [] = refl
rows_of-map f (part ∷ parts) = ap (λ rows. map f part ++ rows) (rows_of-map f parts) ∙ sym (map-append f part (rows_of parts))
