-- The least of the keys of rows.
use Rattle.std.proofs.Common.{◌≡◌, ◌⊎◌, inl, inr, ℕ, List, [], ◌∷◌, ◌++◌, refl, sym, ◌∙◌, ap, subst}
use Rattle.std.specs.List.{AllByRecursion}
use Rattle.std.specs.declared.cmp.Ordering.TheVariants.{Less}
use Rattle.std.specs.FinMap.Entries.{by_order}
use Rattle.mesa_schema.specs.mesa_key.Order.{byte_cmp}
use Rattle.mesa_schema.specs.mesa_columns.declared.rows.Row.{Row}
use Rattle.mesa_schema.specs.mesa_fold.Folded.{keys_of, with_key}
use Rattle.mesa_merge.proofs.mesa_fold.KeyLifts.{keys_of-all}
use Rattle.mesa_compare.proofs.Same.{equal_itself, flipped}

-- a key is this one or above it
abbrev pub IsFrom : List ℕ → List ℕ → Type 0
IsFrom key other = (other ≡ key) ⊎ (byte_cmp key other ≡ Less)

abbrev pub AreFrom : List ℕ → List Row → Type 0
AreFrom key rows = AllByRecursion (λ (row : Row). IsFrom key row.key) rows

abbrev Begins : List ℕ → List (List ℕ) → Type 0
Begins key keys = (more : List (List ℕ)) × (keys ≡ key ∷ more)

-- the key before keys from it on
with_first : (key : List ℕ) (keys : List (List ℕ)) → AllByRecursion (IsFrom key) keys → Begins key (with_key key keys)
with_first key [] all = ([], refl)
with_first key (other ∷ keys) all = by all.0
  where
    by : IsFrom key other → Begins key (with_key key (other ∷ keys))
    by (inl same) = (keys, ap (λ o. by_order o (key ∷ other ∷ keys) (other ∷ keys) (other ∷ with_key key keys)) (ap (byte_cmp key) same ∙ equal_itself key) ∙ ap (λ k. k ∷ keys) same)
    by (inr less) = (other ∷ keys, ap (λ o. by_order o (key ∷ other ∷ keys) (other ∷ keys) (other ∷ with_key key keys)) less)

-- a key from it on among keys that begin with it
with_later : (key other : List ℕ) (keys : List (List ℕ)) → IsFrom key other → Begins key keys → Begins key (with_key other keys)
with_later key other keys from (more, is) = subst (λ ks. Begins key (with_key other ks)) (sym is) (by from)
  where
    by : IsFrom key other → Begins key (with_key other (key ∷ more))
    by (inl same) = (more, ap (λ o. by_order o (other ∷ key ∷ more) (key ∷ more) (key ∷ with_key other more)) (ap (λ k. byte_cmp k key) same ∙ equal_itself key))
    by (inr less) = (with_key other more, ap (λ o. by_order o (other ∷ key ∷ more) (key ∷ more) (key ∷ with_key other more)) (flipped other key less))

-- Where a row has a key, and all others have it or one above it, it is the first of the keys.
pub least : (key : List ℕ) (front : List Row) (row : Row) (back : List Row) → row.key ≡ key → AreFrom key front → AreFrom key back → (more : List (List ℕ)) × (keys_of (front ++ row ∷ back) ≡ key ∷ more)
least key [] row back is before behind = subst (λ k. Begins key (with_key k (keys_of back))) (sym is) (with_first key (keys_of back) (keys_of-all (IsFrom key) back behind))
least key (x ∷ front) row back is before behind = with_later key x.key (keys_of (front ++ row ∷ back)) before.0 (least key front row back is before.1 behind)
