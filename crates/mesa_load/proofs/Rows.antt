-- Rows that are folded or grouped: there are some where there were, their keys rise, and their sums keep the bound.
use Rattle.std.proofs.Common.{◌≡◌, ℕ, zero, suc, ◌+◌, ◌<◌, List, [], ◌∷◌, ◌++◌, Bool, true, false, length, map, refl, sym, subst, arith, add-zero}
use Rattle.std.specs.Prelude.{Some, slice_get, nat_le, ◌||◌}
use Rattle.std.specs.List.{list_any}
use Rattle.std.specs.Ordering.{is_lt}
use Rattle.std.specs.declared.cmp.Ordering.{Ordering}
use Rattle.std.specs.declared.cmp.Ordering.TheVariants.{Less, Equal, Greater}
use Rattle.std.specs.FinMap.Entries.{by_order}
use Rattle.std.proofs.lemmas.Bool.{and_parts, le-leb}
use Rattle.std.proofs.lemmas.List.{length-map}
use Rattle.mesa_open_files.specs.mesa_value.declared.Agg.{Agg}
use Rattle.mesa_open_files.specs.mesa_value.declared.Agg.TheVariants as agg
use Rattle.mesa_answer.specs.mesa_key.Order.{byte_cmp}
use Rattle.mesa_open_files.specs.mesa_columns.declared.rows.Row.{Row}
use Rattle.mesa_open_files.specs.mesa_columns.declared.views.View.{View}
use Rattle.mesa_open_files.specs.mesa_columns.Columns.{Columns, aggs_of, chosen}
use Rattle.mesa_open_files.specs.mesa_fold.Folded.{folded, folded_at, keys_of, regrouped, rows_of, with_key}
use Rattle.mesa_open_files.specs.mesa_columns.Rows.{keys_rise}
use Rattle.mesa_schema.specs.Views.{view_key_places, view_rows, view_value_places}
use Rattle.mesa_batch.specs.Totals.{abs_total, abs_totals, sum_bound, sum_places}
use Rattle.mesa_open_files.specs.mesa_block.Rows.{Rise}
use Rattle.mesa_open_files.specs.mesa_block.Spelling.{key_of}
use Rattle.mesa_answer.specs.Answering.{KeepsSums}

-- ---- some rows

keys_some : (k : List ℕ) (ks : List (List ℕ)) → 0 < length (with_key k ks)
keys_some k [] = omega arith
keys_some k (x ∷ xs) = by (byte_cmp k x)
  where
    by : (o : Ordering) → 0 < length (by_order o (k ∷ x ∷ xs) (x ∷ xs) (x ∷ with_key k xs))
    by Less = omega arith
    by Equal = omega arith
    by Greater = omega arith

-- some rows fold to some
pub folded_some : (aggs : List Agg) (rows : List Row) → 0 < length rows → 0 < length (folded aggs (rows ∷ []))
folded_some aggs [] some = absurd (omega arith)
folded_some aggs (row ∷ rows) some =
    subst (λ n. 0 < n) (sym (length-map (keys_of (rows_of ((row ∷ rows) ∷ []))) (folded_at aggs (rows_of ((row ∷ rows) ∷ []))))) (keys_some row.key (keys_of (rows ++ [])))

-- and are grouped to some
pub viewed_some : (s : Columns) (v : View) (rows : List Row) → 0 < length rows → 0 < length (view_rows s v rows)
viewed_some s v rows some =
    let f = λ (row : Row). regrouped s (view_key_places s v) (view_value_places s v) row in
    folded_some (chosen (view_value_places s v) (aggs_of s)) (map f rows) (subst (λ n. 0 < n) (sym (length-map rows f)) some)

-- ---- keys that rise

is_less : (o : Ordering) → is_lt o ≡ true → o ≡ Less
is_less Less e = refl
is_less Equal e = cc
is_less Greater e = cc

pub rise_of : (rows : List Row) → keys_rise rows ≡ true → Rise (map key_of rows)
rise_of [] r = tt
rise_of (row ∷ []) r = tt
rise_of (row ∷ next ∷ rows) r =
    let parts = and_parts (is_lt (byte_cmp row.key next.key)) (keys_rise (next ∷ rows)) r in
    (is_less (byte_cmp row.key next.key) parts.0, rise_of (next ∷ rows) parts.1)

-- ---- sums within the bound

none_any : {X : Type 0} (p : X → Bool) (x : X) (xs : List X) → list_any p (x ∷ xs) ≡ false → (p x ≡ false) × (list_any p xs ≡ false)
none_any p x xs none = by (p x) none
  where
    by : (b : Bool) → (b || list_any p xs) ≡ false → (b ≡ false) × (list_any p xs ≡ false)
    by true e = absurd cc
    by false e = (refl, e)

below_bound : (n : ℕ) → nat_le sum_bound n ≡ false → n < sum_bound
below_bound n e = grind (arith, le-leb sum_bound n)

bounds : (f : ℕ → ℕ) (aggs : List Agg) (i c : ℕ) → list_any (λ total. nat_le sum_bound total) (map f (sum_places i aggs)) ≡ false → slice_get aggs c ≡ Some agg.Sum → f (i + c) < sum_bound
bounds f [] i c none p = absurd cc
bounds f (agg.Sum ∷ aggs) i zero none p = subst (λ n. f n < sum_bound) (sym (add-zero i)) (below_bound (f i) (none_any (λ total. nat_le sum_bound total) (f i) (map f (sum_places (i + 1) aggs)) none).0)
bounds f (agg.Min ∷ aggs) i zero none p = absurd cc
bounds f (agg.Max ∷ aggs) i zero none p = absurd cc
bounds f (agg.Replace ∷ aggs) i zero none p = absurd cc
bounds f (agg.Sum ∷ aggs) i (suc c) none p = subst (λ n. f n < sum_bound) (omega arith) (bounds f aggs (i + 1) c (none_any (λ total. nat_le sum_bound total) (f i) (map f (sum_places (i + 1) aggs)) none).1 p)
bounds f (agg.Min ∷ aggs) i (suc c) none p = subst (λ n. f n < sum_bound) (omega arith) (bounds f aggs (i + 1) c none p)
bounds f (agg.Max ∷ aggs) i (suc c) none p = subst (λ n. f n < sum_bound) (omega arith) (bounds f aggs (i + 1) c none p)
bounds f (agg.Replace ∷ aggs) i (suc c) none p = subst (λ n. f n < sum_bound) (omega arith) (bounds f aggs (i + 1) c none p)

-- rows of which no total passes the bound keep their sums within it
pub keeps_sums : (s : Columns) (rows : List Row) → list_any (λ total. nat_le sum_bound total) (abs_totals s rows) ≡ false → KeepsSums s rows
keeps_sums s rows none c p = subst (λ n. abs_total n rows < sum_bound) (omega arith) (bounds (λ n. abs_total n rows) (aggs_of s) 0 c none p)
