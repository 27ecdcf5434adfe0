-- Folds of rows whose keys differ.
use Rattle.std.proofs.Common.{◌≡◌, ℕ, ◌+◌, List, [], ◌∷◌, ◌++◌, refl, sym, ◌∙◌, ap, subst, arith, append_assoc, true}
use Rattle.std.proofs.lemmas.List.{append-nil}
use Rattle.std.specs.Prelude.{map}
use Rattle.std.specs.List.{AllByRecursion, sum_by}
use Rattle.std.specs.List.Sorted.{IsPermutation}
use Rattle.std.specs.Ordering.{is_lt}
use Rattle.std.specs.FinMap.{slice_cmp-IsAntisymmetric, nat_cmp-IsAntisymmetric}
use Rattle.std.specs.FinMap.Entries.{by_order}
use Rattle.std.specs.declared.cmp.Ordering.{Ordering}
use Rattle.std.specs.declared.cmp.Ordering.TheVariants.{Less, Equal, Greater}
use Rattle.std.proofs.lemmas.Bool.{and_parts}
use Rattle.std.proofs.lemmas.Cmp.{nat_list_cmp_total, tied_itself}
use Rattle.std.proofs.lemmas.List.Sums.{sum_by-cons}
use Rattle.std.proofs.lemmas.List.Sorted.{IsPermutation-refl}
use Rattle.mesa_value.specs.declared.Agg.{Agg}
use Rattle.mesa_key.specs.Order.{byte_cmp}
use Rattle.mesa_columns.specs.declared.rows.Row.{Row}
use Rattle.mesa_columns.specs.declared.views.View.{View}
use Rattle.mesa_columns.specs.Columns.{Columns, aggs_of, chosen}
use Rattle.mesa_schema.specs.mesa_fold.Folded.{folded, regrouped, row_combined}
use Rattle.mesa_schema.specs.mesa_fold.Laws.{AreAllKeys}
use Rattle.mesa_schema.specs.Lineages.{is_view_of}
use Rattle.mesa_columns.specs.Schema.{is_schema}
use Rattle.mesa_schema.specs.mesa_fold.Put.{put_row}
use Rattle.mesa_columns.specs.Rows.{AreRowsOf, IsRowOf, keys_rise}
use Rattle.mesa_schema.specs.Views.{view_columns, view_key_places, view_rows, view_value_places}
use Rattle.mesa_schema.proofs.mesa_fold.SameFolds.{puts_one}
use Rattle.mesa_schema.proofs.mesa_fold.WholeGroups.{one_key}
use Rattle.mesa_digest.specs.Digests.{cells, mark, set}
use Rattle.mesa_digest.specs.Laws.{AreMoved, HasAllColumns}
use Rattle.mesa_digest.proofs.Regrouped.{all_keys, moved}
use Rattle.mesa_digest.proofs.Orders.{reduced, sets_once}

-- no row has this key
abbrev NotIn : List ℕ → List Row → Type 0
NotIn k rows = AllByRecursion (λ (x : Row). x.key ≡ k → ⊥) rows

-- all keys differ
abbrev AreApart : List Row → Type 0
AreApart [] = Unit {0}
AreApart (x ∷ xs) = NotIn x.key xs × AreApart xs

tied : (a b : List ℕ) → byte_cmp a b ≡ Equal → a ≡ b
tied a b e = slice_cmp-IsAntisymmetric nat_cmp-IsAntisymmetric a b e

turned : (a b c : ℕ) → a + (b + c) ≡ b + (a + c)
turned a b c = omega arith

-- a row that is put among others of other keys
put_sum : (f : Row → ℕ) (aggs : List Agg) (row : Row) (xs : List Row) → NotIn row.key xs → sum_by f (put_row aggs row xs) ≡ f row + sum_by f xs
put_sum f aggs row [] not = sum_by-cons f row []
put_sum f aggs row (x ∷ xs) not =
    elim (byte_cmp row.key x.key) as (λ (o : Ordering). byte_cmp row.key x.key ≡ o → sum_by f (by_order o (row ∷ x ∷ xs) (record x { values = row_combined aggs x.values row.values } ∷ xs) (x ∷ put_row aggs row xs)) ≡ f row + sum_by f (x ∷ xs)) [
      | Less ↦ λ e. sum_by-cons f row (x ∷ xs)
      | Equal ↦ λ e. absurd (not.0 (sym (tied row.key x.key e)))
      | Greater ↦ λ e. sum_by-cons f x (put_row aggs row xs) ∙ ap (λ n. f x + n) (put_sum f aggs row xs not.1) ∙ turned (f x) (f row) (sum_by f xs) ∙ ap (λ n. f row + n) (sym (sum_by-cons f x xs))
    ] refl

put_not : (aggs : List Agg) (k : List ℕ) (row : Row) (xs : List Row) → (row.key ≡ k → ⊥) → NotIn k xs → NotIn k (put_row aggs row xs)
put_not aggs k row [] differs not = (differs, tt)
put_not aggs k row (x ∷ xs) differs not =
    elim (byte_cmp row.key x.key) as (λ (o : Ordering). NotIn k (by_order o (row ∷ x ∷ xs) (record x { values = row_combined aggs x.values row.values } ∷ xs) (x ∷ put_row aggs row xs))) [
      | Less ↦ (differs, (not.0, not.1))
      | Equal ↦ (not.0, not.1)
      | Greater ↦ (not.0, put_not aggs k row xs differs not.1)
    ]

-- What the fold of rows has: their sum under a function of rows, and no other keys.
record IsSum (f : Row → ℕ) (aggs : List Agg) (rows : List Row) : Type 0 where
  sum : sum_by f (folded aggs (rows ∷ [])) ≡ sum_by f rows
  not : (k : List ℕ) → NotIn k rows → NotIn k (folded aggs (rows ∷ []))

sum_push : (f : Row → ℕ) (rows : List Row) (row : Row) → sum_by f (rows ++ row ∷ []) ≡ f row + sum_by f rows
sum_push f [] row = sum_by-cons f row []
sum_push f (x ∷ xs) row = sum_by-cons f x (xs ++ row ∷ []) ∙ ap (λ n. f x + n) (sum_push f xs row) ∙ turned (f x) (f row) (sum_by f xs) ∙ ap (λ n. f row + n) (sym (sum_by-cons f x xs))

last_not : (k : List ℕ) (rows : List Row) (row : Row) → NotIn k (rows ++ row ∷ []) → NotIn k rows × (row.key ≡ k → ⊥)
last_not k [] row not = (tt, not.0)
last_not k (x ∷ xs) row not = let more = last_not k xs row not.1 in ((not.0, more.0), more.1)

first_not : (x row : Row) (xs rest : List Row) → NotIn x.key (xs ++ row ∷ rest) → row.key ≡ x.key → ⊥
first_not x row [] rest not = not.0
first_not x row (y ∷ ys) rest not = first_not x row ys rest not.1

-- a row's key is none of those before it
apart_before : (done : List Row) (row : Row) (rest : List Row) → AreApart (done ++ row ∷ rest) → NotIn row.key done
apart_before [] row rest apart = tt
apart_before (x ∷ xs) row rest apart = (λ e. first_not x row xs rest apart.0 (sym e), apart_before xs row rest apart.1)

sum_more : (f : Row → ℕ) (aggs : List Agg) (done : List Row) (row : Row) → NotIn row.key done → IsSum f aggs done → IsSum f aggs (done ++ row ∷ [])
sum_more f aggs done row none is = record {
  sum = ap (sum_by f) (puts_one aggs done row) ∙ put_sum f aggs row (folded aggs (done ∷ [])) (is.not row.key none) ∙ ap (λ n. f row + n) is.sum ∙ sym (sum_push f done row);
  not = λ k not. subst (NotIn k) (sym (puts_one aggs done row)) (put_not aggs k row (folded aggs (done ∷ [])) (last_not k done row not).1 (is.not k (last_not k done row not).0));
}

sums_on : (f : Row → ℕ) (aggs : List Agg) (done rest : List Row) → AreApart (done ++ rest) → IsSum f aggs done → IsSum f aggs (done ++ rest)
sums_on f aggs done [] apart is = subst (IsSum f aggs) (sym (append-nil done)) is
sums_on f aggs done (row ∷ rest) apart is =
    subst (IsSum f aggs) (append_assoc done (row ∷ []) rest) (sums_on f aggs (done ++ row ∷ []) rest (subst AreApart (sym (append_assoc done (row ∷ []) rest)) apart) (sum_more f aggs done row (apart_before done row rest apart) is))

-- rows whose keys differ are folded to themselves, in another order
folded_sum : (f : Row → ℕ) (aggs : List Agg) (rows : List Row) → AreApart rows → sum_by f (folded aggs (rows ∷ [])) ≡ sum_by f rows
folded_sum f aggs rows apart = (sums_on f aggs [] rows apart (record { sum = refl; not = λ k not. tt })).sum

-- ---- regrouped rows

less_differs : (a b : List ℕ) → byte_cmp a b ≡ Less → a ≡ b → ⊥
less_differs a b less e = let same : byte_cmp a b ≡ Equal = ap (λ k. byte_cmp k b) e ∙ tied_itself nat_list_cmp_total b in cc

is_less : (a b : List ℕ) → is_lt (byte_cmp a b) ≡ true → byte_cmp a b ≡ Less
is_less a b h = elim (byte_cmp a b) as (λ o. is_lt o ≡ true → o ≡ Less) [
  | Less ↦ λ e. refl
  | Equal ↦ λ e. cc
  | Greater ↦ λ e. cc
] h

along : (x y : Row) (ys : List Row) → byte_cmp x.key y.key ≡ Less → AllByRecursion (λ (z : Row). byte_cmp y.key z.key ≡ Less) ys → AllByRecursion (λ (z : Row). byte_cmp x.key z.key ≡ Less) ys
along x y [] less all = tt
along x y (z ∷ zs) less all = (nat_list_cmp_total.trans x.key y.key z.key less all.0, along x y zs less all.1)

above : (x : Row) (xs : List Row) → keys_rise (x ∷ xs) ≡ true → AllByRecursion (λ (y : Row). byte_cmp x.key y.key ≡ Less) xs
above x [] h = tt
above x (y ∷ ys) h =
    let parts = and_parts (is_lt (byte_cmp x.key y.key)) (keys_rise (y ∷ ys)) h in
    (is_less x.key y.key parts.0, along x y ys (is_less x.key y.key parts.0) (above y ys parts.1))

rest_rises : (x : Row) (xs : List Row) → keys_rise (x ∷ xs) ≡ true → keys_rise xs ≡ true
rest_rises x [] h = refl
rest_rises x (y ∷ ys) h = (and_parts (is_lt (byte_cmp x.key y.key)) (keys_rise (y ∷ ys)) h).1

regrouped_not : (s : Columns) (p q : List ℕ) (x : Row) (xs : List Row) → AreAllKeys s p → IsRowOf s x → AreRowsOf s xs → AllByRecursion (λ (y : Row). byte_cmp x.key y.key ≡ Less) xs → NotIn (regrouped s p q x).key (map (regrouped s p q) xs)
regrouped_not s p q x [] all form forms less = tt
regrouped_not s p q x (y ∷ ys) all form forms less = (λ e. less_differs x.key y.key less.0 (sym (one_key s p y x all forms.0 form e)), regrouped_not s p q x ys all form forms.1 less.1)

regrouped_apart : (s : Columns) (p q : List ℕ) (rows : List Row) → AreAllKeys s p → AreRowsOf s rows → keys_rise rows ≡ true → AreApart (map (regrouped s p q) rows)
regrouped_apart s p q [] all forms rise = tt
regrouped_apart s p q (x ∷ xs) all forms rise = (regrouped_not s p q x xs all forms.0 forms.1 (above x xs rise), regrouped_apart s p q xs all forms.1 (rest_rises x xs rise))

all_moved : (s t : Columns) (g : Row → Row) (rows : List Row) → AreRowsOf s rows → ((row : Row) → IsRowOf s row → IsPermutation (cells t (g row)) (cells s row)) → AreMoved t s (map g rows) rows
all_moved s t g [] forms moved = tt
all_moved s t g (x ∷ xs) forms moved = (moved x forms.0, all_moved s t g xs forms.1 moved)

folded_set : (t : Columns) (aggs : List Agg) (rows : List Row) → AreApart rows → set t (folded aggs (rows ∷ [])) ≡ set t rows
folded_set t aggs rows apart = reduced (sum_by (mark t) (folded aggs (rows ∷ []))) (sum_by (mark t) rows) (folded_sum (mark t) aggs rows apart)

pub further_order : (s : Columns) (v : View) (rows : List Row) → is_schema s ≡ true → is_view_of s v ≡ true → HasAllColumns s v → AreRowsOf s rows → keys_rise rows ≡ true → set (view_columns s v) (view_rows s v rows) ≡ set s rows
further_order s v rows sound allowed has forms rise =
    let p = view_key_places s v in
    let q = view_value_places s v in
    let t = view_columns s v in
    let to = regrouped s p q in
    folded_set t (chosen q (aggs_of s)) (map to rows) (regrouped_apart s p q rows (all_keys s v sound allowed has) forms rise)
    ∙ sets_once t s (map to rows) rows rows (all_moved s t to rows forms (λ row form. moved s v sound allowed has row form)) (IsPermutation-refl rows)
