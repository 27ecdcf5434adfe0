-- A key column more.
use Rattle.std.proofs.Common.{◌≡◌, ℕ, List, [], ◌∷◌, ◌++◌, refl, sym, ◌∙◌, ap, Bool, true, false, cond, map}
use Rattle.std.proofs.lemmas.List.{append_cancel_right, map-append}
use Rattle.std.specs.Prelude.{filter}
use Rattle.std.specs.List.{AllByRecursion}
use Rattle.std.specs.Ordering.{ordering_then}
use Rattle.std.specs.declared.cmp.Ordering.{Ordering}
use Rattle.std.specs.declared.cmp.Ordering.TheVariants.{Less, Equal, Greater}
use Rattle.std.specs.Cmp.{nat_cmp_is}
use Rattle.std.specs.Cmp.Lexicographic.{other_text, same_text}
use Rattle.std.specs.FinMap.Entries.{by_order}
use Rattle.mesa_columns.specs.mesa_list.Bytes.{same_bytes}
use Rattle.mesa_columns.specs.mesa_value.declared.Agg.{Agg}
use Rattle.mesa_columns.specs.mesa_key.declared.KeyType.{KeyType}
use Rattle.mesa_columns.specs.mesa_key.declared.KeyValue.{KeyValue}
use Rattle.mesa_columns.specs.mesa_key.Order.{byte_cmp, key_cmp}
use Rattle.mesa_columns.specs.mesa_key.Spelling.{IsKey, key_of, key_spelling}
use Rattle.mesa_columns.proofs.mesa_key.SpellingOrder.{spelling_order, spelling_order_then}
use Rattle.mesa_columns.specs.declared.rows.Row.{Row}
use Rattle.mesa_fold.specs.Folded.{all_combined, folded, folded_at, keys_of, rows_of, values_at, with_key}

-- bytes that spell a key of these types
pub record Spells (types : List KeyType) (bytes : List ℕ) : Type 0 where
  pub key : IsKey types (key_of types bytes)
  pub spelled : key_spelling (key_of types bytes) ≡ bytes

-- a row with these bytes behind its key
abbrev pub with_suffix : List ℕ → Row → Row
with_suffix bytes row = record row { key = row.key ++ bytes }

then-equal : (o : Ordering) → ordering_then o Equal ≡ o
then-equal Less = refl
then-equal Equal = refl
then-equal Greater = refl

same-order : (bytes : List ℕ) → byte_cmp bytes bytes ≡ Equal
same-order [] = refl
same-order (b ∷ bytes) = ap (λ o. ordering_then o (byte_cmp bytes bytes)) (sym (nat_cmp_is b b Equal refl)) ∙ same-order bytes

-- The same bytes behind two keys leave their order.
suffix-order : (types : List KeyType) (bytes a b : List ℕ) → Spells types a → Spells types b → byte_cmp (a ++ bytes) (b ++ bytes) ≡ byte_cmp a b
suffix-order types bytes a b f g =
    let x : List KeyValue = key_of types a in
    let y : List KeyValue = key_of types b in
    (λ i. byte_cmp (sym f.spelled i ++ bytes) (sym g.spelled i ++ bytes))
    ∙ spelling_order_then types x y bytes bytes f.key g.key
    ∙ ap (ordering_then (key_cmp x y)) (same-order bytes) ∙ then-equal (key_cmp x y)
    ∙ sym (spelling_order types x y f.key g.key)
    ∙ (λ i. byte_cmp (f.spelled i) (g.spelled i))

-- lists that are equal where others are, and only there
same_where : (a b c d : List ℕ) (t u : Bool) → same_bytes a b ≡ t → same_bytes c d ≡ u → (a ≡ b → c ≡ d) → (c ≡ d → a ≡ b) → t ≡ u
same_where a b c d true true e f to from = refl
same_where a b c d false false e f to from = refl
same_where a b c d true false e f to from = absurd (other_text c d (sym f) (to (same_text a b (sym e))))
same_where a b c d false true e f to from = absurd (other_text a b (sym e) (from (same_text c d (sym f))))

-- and make them no more equal
suffix-same : (a b bytes : List ℕ) → same_bytes (a ++ bytes) (b ++ bytes) ≡ same_bytes a b
suffix-same a b bytes = same_where (a ++ bytes) (b ++ bytes) a b _ _ refl refl (append_cancel_right a b bytes) (ap (λ xs. xs ++ bytes))

-- what the keys of rows have, the keys that occur have
with_key-all : (P : List ℕ → Type 0) (k : List ℕ) (ks : List (List ℕ)) → P k → AllByRecursion P ks → AllByRecursion P (with_key k ks)
with_key-all P k [] p all = (p, tt)
with_key-all P k (x ∷ xs) p all = elim (byte_cmp k x) as (λ o. AllByRecursion P (by_order o (k ∷ x ∷ xs) (x ∷ xs) (x ∷ with_key k xs))) [ Less ↦ (p, all) | Equal ↦ all | Greater ↦ (all.0, with_key-all P k xs p all.1) ]

pub keys_of-all : (P : List ℕ → Type 0) (rows : List Row) → AllByRecursion (λ (r : Row). P r.key) rows → AllByRecursion P (keys_of rows)
keys_of-all P [] all = tt
keys_of-all P (row ∷ rows) all = with_key-all P row.key (keys_of rows) all.0 (keys_of-all P rows all.1)

module _ (types : List KeyType) (bytes : List ℕ) (aggs : List Agg) where
  abbrev longer : List ℕ → List ℕ
  longer key = key ++ bytes

  with_key-longer : (k : List ℕ) (ks : List (List ℕ)) → Spells types k → AllByRecursion (Spells types) ks → with_key (longer k) (map longer ks) ≡ map longer (with_key k ks)
  with_key-longer k [] f all = refl
  with_key-longer k (x ∷ xs) f all =
      ap (λ o. by_order o (longer k ∷ longer x ∷ map longer xs) (longer x ∷ map longer xs) (longer x ∷ with_key (longer k) (map longer xs))) (suffix-order types bytes k x f all.0)
      ∙ ap (λ ks. by_order (byte_cmp k x) (longer k ∷ longer x ∷ map longer xs) (longer x ∷ map longer xs) (longer x ∷ ks)) (with_key-longer k xs f all.1)
      ∙ elim (byte_cmp k x) as (λ o. by_order o (longer k ∷ longer x ∷ map longer xs) (longer x ∷ map longer xs) (longer x ∷ map longer (with_key k xs)) ≡ map longer (by_order o (k ∷ x ∷ xs) (x ∷ xs) (x ∷ with_key k xs))) [ Less ↦ refl | Equal ↦ refl | Greater ↦ refl ]

  keys_of-longer : (rows : List Row) → AllByRecursion (λ (r : Row). Spells types r.key) rows → keys_of (map (with_suffix bytes) rows) ≡ map longer (keys_of rows)
  keys_of-longer [] all = refl
  keys_of-longer (row ∷ rows) all = ap (with_key (longer row.key)) (keys_of-longer rows all.1) ∙ with_key-longer row.key (keys_of rows) all.0 (keys_of-all (Spells types) rows all.1)

  values_at-longer : (k : List ℕ) (rows : List Row) → values_at (longer k) (map (with_suffix bytes) rows) ≡ values_at k rows
  values_at-longer k [] = refl
  values_at-longer k (row ∷ rows) =
      ap (λ b. map (λ (r : Row). r.values) (cond b (with_suffix bytes row ∷ filter (λ r. same_bytes (longer k) r.key) (map (with_suffix bytes) rows)) (filter (λ r. same_bytes (longer k) r.key) (map (with_suffix bytes) rows)))) (suffix-same k row.key bytes)
      ∙ elim (same_bytes k row.key) as (λ b. map (λ (r : Row). r.values) (cond b (with_suffix bytes row ∷ filter (λ r. same_bytes (longer k) r.key) (map (with_suffix bytes) rows)) (filter (λ r. same_bytes (longer k) r.key) (map (with_suffix bytes) rows)))
      ≡ map (λ (r : Row). r.values) (cond b (row ∷ filter (λ r. same_bytes k r.key) rows) (filter (λ r. same_bytes k r.key) rows))) [
        | true ↦ ap (λ vs. row.values ∷ vs) (values_at-longer k rows)
        | false ↦ values_at-longer k rows
      ]

  folded_at-longer : (rows : List Row) (ks : List (List ℕ)) → map (folded_at aggs (map (with_suffix bytes) rows)) (map longer ks) ≡ map (with_suffix bytes) (map (folded_at aggs rows) ks)
  folded_at-longer rows [] = refl
  folded_at-longer rows (k ∷ ks) = λ i. record { key = longer k; values = all_combined aggs (values_at-longer k rows i) } ∷ folded_at-longer rows ks i

  rows_of-longer : (parts : List (List Row)) → map (with_suffix bytes) (rows_of parts) ≡ rows_of (map (map (with_suffix bytes)) parts)
  rows_of-longer [] = refl
  rows_of-longer (part ∷ parts) = map-append (with_suffix bytes) part (rows_of parts) ∙ ap (λ rows. map (with_suffix bytes) part ++ rows) (rows_of-longer parts)

  -- A key column more, before folding or after it.
  pub longer-folded : (parts : List (List Row)) → AllByRecursion (λ (r : Row). Spells types r.key) (rows_of parts) → map (with_suffix bytes) (folded aggs parts) ≡ folded aggs (map (map (with_suffix bytes)) parts)
  longer-folded parts all =
      sym (folded_at-longer (rows_of parts) (keys_of (rows_of parts)))
      ∙ ap (map (folded_at aggs (map (with_suffix bytes) (rows_of parts)))) (sym (keys_of-longer (rows_of parts) all))
      ∙ ap (λ rows. map (folded_at aggs rows) (keys_of rows)) (rows_of-longer parts)
