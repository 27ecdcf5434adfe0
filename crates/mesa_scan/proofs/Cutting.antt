-- Rows that are cut, and put together again.
use Rattle.std.proofs.Common.{◌≡◌, ℕ, List, [], ◌∷◌, ◌++◌, refl, sym, ◌∙◌, ap, subst, append-nil}
use Rattle.std.specs.Prelude.{Option, None, Some, Bool, true, false, ◌&&◌, cond, filter}
use Rattle.std.specs.Ordering.{is_le, is_lt, ordering_reverse}
use Rattle.std.specs.declared.cmp.Ordering.{Ordering}
use Rattle.std.specs.declared.cmp.Ordering.TheVariants.{Less, Equal, Greater}
use Rattle.std.specs.Cmp.Lexicographic.{nat_list_cmp_total}
use Rattle.std.specs.FinMap.{slice_cmp-IsAntisymmetric, nat_cmp-IsAntisymmetric}
use Rattle.std.proofs.lemmas.Bool.{and_parts, and_right}
use Rattle.mesa_delta.specs.mesa_value.declared.Agg.{Agg}
use Rattle.mesa_delta.specs.mesa_key.Order.{byte_cmp}
use Rattle.mesa_delta.specs.mesa_columns.declared.rows.Row.{Row}
use Rattle.mesa_delta.specs.mesa_fold.Folded.{folded, rows_of}
use Rattle.mesa_delta.specs.mesa_columns.Rows.{keys_rise}
use Rattle.mesa_filter.proofs.mesa_fold.FilteredFolds.{filtered_folds}
use Rattle.mesa_filter.proofs.mesa_fold.RisingRows.{folded_rise}
use Rattle.mesa_scan.specs.Cut.{CutsRise, IsLow, cut, cut_each, cuts_from, folds_from, is_from, is_under, lies_in}

-- ---- filters

pub yes : (p : Row → Bool) (x : Row) (xs : List Row) → p x ≡ true → filter p (x ∷ xs) ≡ x ∷ filter p xs
yes p x xs e = ap (λ b. cond b (x ∷ filter p xs) (filter p xs)) e

pub no : (p : Row → Bool) (x : Row) (xs : List Row) → p x ≡ false → filter p (x ∷ xs) ≡ filter p xs
no p x xs e = ap (λ b. cond b (x ∷ filter p xs) (filter p xs)) e

-- ---- the order of keys

flipped : (a b : List ℕ) (o : Ordering) → byte_cmp b a ≡ o → byte_cmp a b ≡ ordering_reverse o
flipped a b o e = nat_list_cmp_total.antisymm a b ∙ ap ordering_reverse e

tied : (a b : List ℕ) → byte_cmp a b ≡ Equal → a ≡ b
tied a b e = slice_cmp-IsAntisymmetric nat_cmp-IsAntisymmetric a b e

-- a key at or above another is below all that are above it
pub at_below : (a b c : List ℕ) → is_le (byte_cmp a b) ≡ true → byte_cmp b c ≡ Less → byte_cmp a c ≡ Less
at_below a b c le less = elim (byte_cmp a b) as (λ o. byte_cmp a b ≡ o → is_le o ≡ true → byte_cmp a c ≡ Less) [
  | Less ↦ λ e h. nat_list_cmp_total.trans a b c e less
  | Equal ↦ λ e h. subst (λ k. byte_cmp k c ≡ Less) (sym (tied a b e)) less
  | Greater ↦ λ e h. cc
] refl le

pub below_at : (a b c : List ℕ) → byte_cmp a b ≡ Less → is_le (byte_cmp b c) ≡ true → byte_cmp a c ≡ Less
below_at a b c less le = elim (byte_cmp b c) as (λ o. byte_cmp b c ≡ o → is_le o ≡ true → byte_cmp a c ≡ Less) [
  | Less ↦ λ e h. nat_list_cmp_total.trans a b c less e
  | Equal ↦ λ e h. subst (λ k. byte_cmp a k ≡ Less) (tied b c e) less
  | Greater ↦ λ e h. cc
] refl le

-- a key isn't below one that is at or below it
pub not_below : (key x : List ℕ) → is_le (byte_cmp key x) ≡ true → is_lt (byte_cmp x key) ≡ false
not_below key x le = elim (byte_cmp key x) as (λ o. byte_cmp key x ≡ o → is_le o ≡ true → is_lt (byte_cmp x key) ≡ false) [
  | Less ↦ λ e h. ap is_lt (flipped x key Less e)
  | Equal ↦ λ e h. ap is_lt (flipped x key Equal e)
  | Greater ↦ λ e h. cc
] refl le

pub is_less : (a b : List ℕ) → is_lt (byte_cmp a b) ≡ true → byte_cmp a b ≡ Less
is_less a b h = elim (byte_cmp a b) as (λ o. is_lt o ≡ true → o ≡ Less) [
  | Less ↦ λ e. refl
  | Equal ↦ λ e. cc
  | Greater ↦ λ e. cc
] h

less_le : (a b : List ℕ) → byte_cmp a b ≡ Less → is_le (byte_cmp a b) ≡ true
less_le a b e = ap is_le e

-- what is at or above a cut is at or above each lower end
pub from_cut : (low : Option (List ℕ)) (key x : List ℕ) → IsLow low key → is_le (byte_cmp key x) ≡ true → is_from low x ≡ true
from_cut None key x is le = refl
from_cut (Some low) key x is le = less_le low x (below_at low key x is le)

-- ---- one cut

pub rest_rises : (x : Row) (xs : List Row) → keys_rise (x ∷ xs) ≡ true → keys_rise xs ≡ true
rest_rises x [] h = refl
rest_rises x (y ∷ ys) h = (and_parts (is_lt (byte_cmp x.key y.key)) (keys_rise (y ∷ ys)) h).1

-- none behind a key that is at or above a cut is below it
pub none_under : (low : Option (List ℕ)) (key : List ℕ) (x : Row) (xs : List Row) → is_le (byte_cmp key x.key) ≡ true → keys_rise (x ∷ xs) ≡ true → cut low (Some key) xs ≡ []
none_under low key x [] le h = refl
none_under low key x (y ∷ ys) le h =
    let parts = and_parts (is_lt (byte_cmp x.key y.key)) (keys_rise (y ∷ ys)) h in
    let above : is_le (byte_cmp key y.key) ≡ true = less_le key y.key (at_below key x.key y.key le (is_less x.key y.key parts.0)) in
    no (λ (row : Row). lies_in low (Some key) row.key) y ys (and_right (is_from low y.key) (is_under (Some key) y.key) (not_below key y.key above))
    ∙ none_under low key y ys above parts.1

-- rows at a cut
cut_at : (low : Option (List ℕ)) (key : List ℕ) (rows : List Row) → IsLow low key → keys_rise rows ≡ true → cut low (Some key) rows ++ cut (Some key) None rows ≡ cut low None rows
cut_at low key [] is h = refl
cut_at low key (x ∷ xs) is h =
    let p = λ (row : Row). lies_in low (Some key) row.key in
    let q = λ (row : Row). lies_in (Some key) None row.key in
    let r = λ (row : Row). lies_in low None row.key in
    let more : cut low (Some key) xs ++ cut (Some key) None xs ≡ cut low None xs = cut_at low key xs is (rest_rises x xs h) in
    let behind : is_le (byte_cmp key x.key) ≡ true → filter p (x ∷ xs) ++ filter q (x ∷ xs) ≡ filter r (x ∷ xs) = λ le.
    let first : is_from low x.key ≡ true = from_cut low key x.key is le in
    let under : is_under (Some key) x.key ≡ false = not_below key x.key le in
    let none : filter p xs ≡ [] = none_under low key x xs le h in
    (λ i. (no p x xs (and_right (is_from low x.key) (is_under (Some key) x.key) under) ∙ none) i ++ yes q x xs (ap (λ b. b && true) le) i)
    ∙ ap (λ rows. x ∷ rows) (ap (λ a. a ++ filter q xs) (sym none) ∙ more)
    ∙ sym (yes r x xs (ap (λ b. b && true) first)) in
    let before : byte_cmp x.key key ≡ Less → filter p (x ∷ xs) ++ filter q (x ∷ xs) ≡ filter r (x ∷ xs) = λ less.
    let from : is_le (byte_cmp key x.key) ≡ false = ap is_le (flipped key x.key Less less) in
    let under : is_under (Some key) x.key ≡ true = ap is_lt less in
    ap (λ a. filter p (x ∷ xs) ++ a) (no q x xs (ap (λ b. b && true) from))
    ∙ elim (is_from low x.key) as (λ b. is_from low x.key ≡ b → filter p (x ∷ xs) ++ filter q xs ≡ filter r (x ∷ xs)) [
      | true ↦ λ e.
          ap (λ a. a ++ filter q xs) (yes p x xs (λ i. e i && under i))
          ∙ ap (λ rows. x ∷ rows) more
          ∙ sym (yes r x xs (ap (λ b. b && true) e))
      | false ↦ λ e.
          ap (λ a. a ++ filter q xs) (no p x xs (λ i. e i && under i))
          ∙ more
          ∙ sym (no r x xs (ap (λ b. b && true) e))
    ] refl in
    elim (byte_cmp x.key key) as (λ o. byte_cmp x.key key ≡ o → filter p (x ∷ xs) ++ filter q (x ∷ xs) ≡ filter r (x ∷ xs)) [
      | Less ↦ λ e. before e
      | Equal ↦ λ e. behind (ap is_le (flipped key x.key Equal e))
      | Greater ↦ λ e. behind (ap is_le (flipped key x.key Greater e))
    ] refl

-- ---- all cuts

pub cuts_whole : (low : Option (List ℕ)) (cuts : List (List ℕ)) (rows : List Row) → CutsRise low cuts → keys_rise rows ≡ true → rows_of (cuts_from low cuts rows) ≡ cut low None rows
cuts_whole low [] rows rise h = append-nil (cut low None rows)
cuts_whole low (key ∷ keys) rows rise h = ap (λ a. cut low (Some key) rows ++ a) (cuts_whole (Some key) keys rows rise.1 h) ∙ cut_at low key rows rise.0 h

pub cut_none : (rows : List Row) → cut None None rows ≡ rows
cut_none [] = refl
cut_none (x ∷ xs) = ap (λ rows. x ∷ rows) (cut_none xs)

pub cuts_fold : (aggs : List Agg) (low high : Option (List ℕ)) (parts : List (List Row)) → cut low high (folded aggs parts) ≡ folded aggs (cut_each low high parts)
cuts_fold aggs low high parts = filtered_folds (lies_in low high) aggs parts

-- the folds of cut parts are the cuts of the fold
folds_cut : (aggs : List Agg) (low : Option (List ℕ)) (cuts : List (List ℕ)) (parts : List (List Row)) → folds_from aggs low cuts parts ≡ cuts_from low cuts (folded aggs parts)
folds_cut aggs low [] parts = ap (λ a. a ∷ []) (sym (cuts_fold aggs low None parts))
folds_cut aggs low (key ∷ keys) parts = λ i. sym (cuts_fold aggs low (Some key) parts) i ∷ folds_cut aggs (Some key) keys parts i

pub folds_join : (aggs : List Agg) (cuts : List (List ℕ)) (parts : List (List Row)) → CutsRise None cuts → rows_of (folds_from aggs None cuts parts) ≡ folded aggs parts
folds_join aggs cuts parts rise =
    ap rows_of (folds_cut aggs None cuts parts)
    ∙ cuts_whole None cuts (folded aggs parts) rise (folded_rise aggs parts)
    ∙ cut_none (folded aggs parts)
