-- Rows under other keys, where no two keys come to the same: folding first changes nothing, whatever is combined.
use Rattle.std.proofs.Common.{◌≡◌, ℕ, List, [], ◌∷◌, refl, sym, ◌∙◌, ap, subst}
use Rattle.std.proofs.lemmas.List.{append-nil}
use Rattle.std.specs.Prelude.{Bool, true, false, ◌||◌, cond, map, filter}
use Rattle.std.specs.List.{list_any, AllByRecursion}
use Rattle.std.specs.declared.cmp.Ordering.TheVariants.{Less, Equal, Greater}
use Rattle.std.specs.Ordering.{eq_by_cmp}
use Rattle.std.specs.Cmp.Lexicographic.{nat_list_cmp_total, texts_ties}
use Rattle.std.specs.Cmp.{eq_by_cmp_equiv}
use Rattle.std.specs.FinMap.{slice_cmp-IsAntisymmetric, nat_cmp-IsAntisymmetric}
use Rattle.std.specs.FinMap.Entries.{by_order}
use Rattle.mesa_columns.specs.mesa_value.declared.Agg.{Agg}
use Rattle.mesa_columns.specs.mesa_key.Order.{byte_cmp}
use Rattle.mesa_columns.specs.mesa_list.Bytes.{same_bytes}
use Rattle.mesa_columns.specs.declared.rows.Row.{Row}
use Rattle.mesa_fold.specs.Folded.{all_combined, folded, folded_at, keys_of, rows_of, values_at, with_key}
use Rattle.mesa_fold.proofs.Keys.{Keys, has, keys_in, keys_in-same}
use Rattle.mesa_fold.proofs.Folds.{has-keys_of, is_equal, keys, keys_of-keys_in, rising-keys_of, values_at-folded_at}
use Rattle.mesa_fold.proofs.Folding.{of_rows}

module _ (to : List ℕ → List ℕ) where
  abbrev pub rekeyed : Row → Row
  rekeyed row = record row { key = to row.key }

  -- no two keys of these rows come to the same
  abbrev pub AreApart : List Row → Type 0
  AreApart rows = (p q : List ℕ) → has p (keys rows) ≡ true → has q (keys rows) ≡ true → to p ≡ to q → p ≡ q

  same_from : (a b : List ℕ) → a ≡ b → same_bytes a b ≡ true
  same_from a b e = subst (λ c. same_bytes a c ≡ true) e (texts_ties a a ∙ (eq_by_cmp_equiv nat_list_cmp_total).refl a)

  from_same : (a b : List ℕ) → same_bytes a b ≡ true → a ≡ b
  from_same a b e = slice_cmp-IsAntisymmetric nat_cmp-IsAntisymmetric a b (is_equal _ (sym (texts_ties a b) ∙ e))

  tied : (q k : List ℕ) → (to q ≡ to k → q ≡ k) → (x y : Bool) → same_bytes (to q) (to k) ≡ x → same_bytes q k ≡ y → x ≡ y
  tied q k back true true e f = refl
  tied q k back true false e f = let own = same_from q k (back (from_same (to q) (to k) e)) in cc
  tied q k back false true e f = let own = same_from (to q) (to k) (ap to (from_same q k f)) in cc
  tied q k back false false e f = refl

  abbrev own : Bool → Row → List Row → List Row
  own b row rows = cond b (row ∷ rows) rows

  -- the values of a key are those of what it comes to
  values_kept : (q : List ℕ) (rows : List Row) → AllByRecursion (λ (row : Row). to q ≡ to row.key → q ≡ row.key) rows → values_at (to q) (map rekeyed rows) ≡ values_at q rows
  values_kept q [] all = refl
  values_kept q (row ∷ rows) all =
      let rest = values_kept q rows all.1 in
      let same : same_bytes (to q) (to row.key) ≡ same_bytes q row.key = tied q row.key all.0 _ _ refl refl in
      ap (λ b. map (λ (r : Row). r.values) (own b (rekeyed row) (filter (λ (r : Row). same_bytes (to q) r.key) (map rekeyed rows)))) same
      ∙ elim (same_bytes q row.key) as (λ b. map (λ (r : Row). r.values) (own b (rekeyed row) (filter (λ (r : Row). same_bytes (to q) r.key) (map rekeyed rows))) ≡ map (λ (r : Row). r.values) (own b row (filter (λ (r : Row). same_bytes q r.key) rows))) [
        | true ↦ ap (λ vs. row.values ∷ vs) rest
        | false ↦ rest
      ]

  -- each key of the rows has one that it comes to
  record Source (k : List ℕ) (rows : List Row) : Type 0 where
    key : List ℕ
    there : has key (keys rows) ≡ true
    comes : k ≡ to key

  or_true : (a b : Bool) → b ≡ true → (a || b) ≡ true
  or_true true b e = refl
  or_true false b e = e

  or_left : (a b : Bool) → a ≡ true → (a || b) ≡ true
  or_left true b e = refl
  or_left false b e = cc

  source : (k : List ℕ) (rows : List Row) → has k (keys (map rekeyed rows)) ≡ true → Source k rows
  source k [] h = cc
  source k (row ∷ rows) h =
      elim (eq_by_cmp byte_cmp k (to row.key)) as (λ b. eq_by_cmp byte_cmp k (to row.key) ≡ b → (b || has k (keys (map rekeyed rows))) ≡ true → Source k (row ∷ rows)) [
        | true ↦ λ t f. record { key = row.key; there = or_left _ _ ((eq_by_cmp_equiv nat_list_cmp_total).refl row.key); comes = slice_cmp-IsAntisymmetric nat_cmp-IsAntisymmetric k (to row.key) (is_equal _ t) }
        | false ↦ λ t f. let s = source k rows f in record { key = s.key; there = or_true _ _ s.there; comes = s.comes }
      ] refl h

  -- ---- the keys

  any_with_key : (p : List ℕ → Bool) (k : List ℕ) (ks : Keys) → list_any p (with_key k ks) ≡ (p k || list_any p ks)
  any_with_key p k [] = refl
  any_with_key p k (x ∷ xs) =
      elim (byte_cmp k x) as (λ o. byte_cmp k x ≡ o → list_any p (by_order o (k ∷ x ∷ xs) (x ∷ xs) (x ∷ with_key k xs)) ≡ (p k || (p x || list_any p xs))) [
        | Less ↦ λ t. refl
        | Equal ↦ λ t. let same : k ≡ x = slice_cmp-IsAntisymmetric nat_cmp-IsAntisymmetric k x t in again (p k) (p x) (list_any p xs) (ap p same)
        | Greater ↦ λ t. ap (λ b. p x || b) (any_with_key p k xs) ∙ crossed (p x) (p k) (list_any p xs)
      ] refl
    where
      again : (a b c : Bool) → a ≡ b → (b || c) ≡ (a || (b || c))
      again true b c e = subst (λ x. (x || c) ≡ true) e refl
      again false b c e = refl

      crossed : (a b c : Bool) → (a || (b || c)) ≡ (b || (a || c))
      crossed true true c = refl
      crossed true false c = refl
      crossed false b c = refl

  any_keys_in : (p : List ℕ → Bool) (ks : Keys) → list_any p (keys_in ks) ≡ list_any p ks
  any_keys_in p [] = refl
  any_keys_in p (k ∷ ks) = any_with_key p k (keys_in ks) ∙ ap (λ b. p k || b) (any_keys_in p ks)

  has_to : (q : List ℕ) (rows : List Row) → has q (keys (map rekeyed rows)) ≡ list_any (λ k. eq_by_cmp byte_cmp q (to k)) (keys rows)
  has_to q [] = refl
  has_to q (row ∷ rows) = ap (λ b. eq_by_cmp byte_cmp q (to row.key) || b) (has_to q rows)

  keys_folded : (aggs : List Agg) (rows : List Row) (ks : Keys) → keys (map (folded_at aggs rows) ks) ≡ ks
  keys_folded aggs rows [] = refl
  keys_folded aggs rows (k ∷ ks) = ap (λ xs. k ∷ xs) (keys_folded aggs rows ks)

  same_keys : (aggs : List Agg) (rows : List Row) → keys_of (map rekeyed (of_rows aggs rows)) ≡ keys_of (map rekeyed rows)
  same_keys aggs rows =
      keys_of-keys_in (map rekeyed (of_rows aggs rows))
      ∙ keys_in-same _ _ (λ q.
      has_to q (of_rows aggs rows)
      ∙ ap (list_any (λ k. eq_by_cmp byte_cmp q (to k))) (keys_folded aggs rows (keys_of rows) ∙ keys_of-keys_in rows)
      ∙ any_keys_in (λ k. eq_by_cmp byte_cmp q (to k)) (keys rows)
      ∙ sym (has_to q rows))
      ∙ sym (keys_of-keys_in (map rekeyed rows))

  -- ---- the values

  each_has : (P : List ℕ → Type 0) (rows : List Row) → ((k : List ℕ) → has k (keys rows) ≡ true → P k) → AllByRecursion (λ (row : Row). P row.key) rows
  each_has P [] f = tt
  each_has P (row ∷ rows) f = (f row.key (or_left _ _ ((eq_by_cmp_equiv nat_list_cmp_total).refl row.key)), each_has P rows (λ k h. f k (or_true _ _ h)))

  same_values : (aggs : List Agg) (rows : List Row) → AreApart rows → (k : List ℕ) → has k (keys (map rekeyed rows)) ≡ true
      → all_combined aggs (values_at k (map rekeyed (of_rows aggs rows))) ≡ all_combined aggs (values_at k (map rekeyed rows))
  same_values aggs rows apart k h =
      let s = source k rows h in
      let q = s.key in
      let there : has q (keys_of rows) ≡ true = has-keys_of q rows ∙ s.there in
      let back : (r : List ℕ) → has r (keys rows) ≡ true → to q ≡ to r → q ≡ r = λ r g e. apart q r s.there g e in
      let folds : (r : List ℕ) → has r (keys (of_rows aggs rows)) ≡ true → to q ≡ to r → q ≡ r = λ r g e. back r (sym (ap (has r) (keys_folded aggs rows (keys_of rows)) ∙ has-keys_of r rows) ∙ g) e in
      subst (λ c. all_combined aggs (values_at c (map rekeyed (of_rows aggs rows))) ≡ all_combined aggs (values_at c (map rekeyed rows))) (sym s.comes) (
      ap (all_combined aggs) (values_kept q (of_rows aggs rows) (each_has (λ r. to q ≡ to r → q ≡ r) (of_rows aggs rows) folds) ∙ values_at-folded_at aggs rows q (keys_of rows) (rising-keys_of rows) ∙ ap (λ b. cond b (all_combined aggs (values_at q rows) ∷ []) []) there)
      ∙ ap (all_combined aggs) (sym (values_kept q rows (each_has (λ r. to q ≡ to r → q ≡ r) rows back)))
      )

  along : (aggs : List Agg) (rows : List Row) → AreApart rows → (ks : Keys) → ((k : List ℕ) → has k ks ≡ true → has k (keys (map rekeyed rows)) ≡ true)
      → map (folded_at aggs (map rekeyed (of_rows aggs rows))) ks ≡ map (folded_at aggs (map rekeyed rows)) ks
  along aggs rows apart [] there = refl
  along aggs rows apart (k ∷ ks) there =
      let here : folded_at aggs (map rekeyed (of_rows aggs rows)) k ≡ folded_at aggs (map rekeyed rows) k = ap (λ vs. record { key = k; values = vs }) (same_values aggs rows apart k (there k (or_left _ _ ((eq_by_cmp_equiv nat_list_cmp_total).refl k)))) in
      λ i. here i ∷ along aggs rows apart ks (λ q h. there q (or_true _ _ h)) i

  pub rekeyed-apart : (aggs : List Agg) (parts : List (List Row)) → AreApart (rows_of parts) → folded aggs (map rekeyed (folded aggs parts) ∷ []) ≡ folded aggs (map rekeyed (rows_of parts) ∷ [])
  rekeyed-apart aggs parts apart =
      let rows = rows_of parts in
      ap (of_rows aggs) (append-nil (map rekeyed (of_rows aggs rows)))
      ∙ ap (map (folded_at aggs (map rekeyed (of_rows aggs rows)))) (same_keys aggs rows)
      ∙ along aggs rows apart (keys_of (map rekeyed rows)) (λ k h. sym (has-keys_of k (map rekeyed rows)) ∙ h)
      ∙ ap (of_rows aggs) (sym (append-nil (map rekeyed rows)))
