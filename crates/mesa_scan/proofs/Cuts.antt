-- Rows that are cut: what holds of them, and what is left of a cut.
use Rattle.std.proofs.Common.{◌≡◌, ℕ, zero, suc, drop, List, [], ◌∷◌, ◌++◌, refl, sym, ◌∙◌, ap, Bool, true, false, ◌&&◌, cond}
use Rattle.std.specs.Prelude.{Option, None, Some, filter}
use Rattle.std.specs.List.{AllByRecursion}
use Rattle.std.specs.Ordering.{is_le, is_lt}
use Rattle.std.specs.declared.cmp.Ordering.TheVariants.{Less}
use Rattle.std.specs.Cmp.Lexicographic.{nat_list_cmp_total}
use Rattle.std.proofs.lemmas.Bool.{and_from, and_left, and_parts}
use Rattle.std.proofs.lemmas.List.Elements.{filter-append}
use Rattle.mesa_delta.specs.mesa_key.Order.{byte_cmp}
use Rattle.mesa_delta.specs.mesa_columns.declared.rows.Row.{Row}
use Rattle.mesa_delta.specs.mesa_fold.Laws.{AreUnder}
use Rattle.mesa_delta.specs.mesa_columns.Rows.{keys_rise}
use Rattle.mesa_scan.specs.Cut.{cut, is_from, is_under, lies_in}
use Rattle.mesa_scan.proofs.Cutting.{at_below, is_less, no, none_under, not_below, yes}

pub cut_append : (low high : Option (List ℕ)) (xs ys : List Row) → cut low high (xs ++ ys) ≡ cut low high xs ++ cut low high ys
cut_append low high xs ys = filter-append (λ (row : Row). lies_in low high row.key) xs ys

-- what holds of all rows holds of those that a test passes
pub all_filter : (P : Row → Type 0) (p : Row → Bool) (rows : List Row) → AllByRecursion P rows → AllByRecursion P (filter p rows)
all_filter P p [] all = tt
all_filter P p (x ∷ xs) all = elim (p x) as (λ b. AllByRecursion P (cond b (x ∷ filter p xs) (filter p xs))) [
  | true ↦ (all.0, all_filter P p xs all.1)
  | false ↦ all_filter P p xs all.1
]

pub all_both : (P : Row → Type 0) (xs ys : List Row) → AllByRecursion P xs → AllByRecursion P ys → AllByRecursion P (xs ++ ys)
all_both P [] ys p q = q
all_both P (x ∷ xs) ys p q = (p.0, all_both P xs ys p.1 q)

-- ---- keys that rise

skip : (x y : Row) (ys : List Row) → keys_rise (x ∷ y ∷ ys) ≡ true → keys_rise (x ∷ ys) ≡ true
skip x y [] h = refl
skip x y (z ∷ zs) h =
    let first = and_parts (is_lt (byte_cmp x.key y.key)) (keys_rise (y ∷ z ∷ zs)) h in
    let second = and_parts (is_lt (byte_cmp y.key z.key)) (keys_rise (z ∷ zs)) first.1 in
    and_from (is_lt (byte_cmp x.key z.key)) (keys_rise (z ∷ zs)) (ap is_lt (nat_list_cmp_total.trans x.key y.key z.key (is_less x.key y.key first.0) (is_less y.key z.key second.0))) second.1

rise_from : (p : Row → Bool) (x : Row) (xs : List Row) → keys_rise (x ∷ xs) ≡ true → keys_rise (x ∷ filter p xs) ≡ true
rise_from p x [] h = refl
rise_from p x (y ∷ ys) h = elim (p y) as (λ b. keys_rise (x ∷ cond b (y ∷ filter p ys) (filter p ys)) ≡ true) [
  | true ↦
      let parts = and_parts (is_lt (byte_cmp x.key y.key)) (keys_rise (y ∷ ys)) h in
      and_from (is_lt (byte_cmp x.key y.key)) (keys_rise (y ∷ filter p ys)) parts.0 (rise_from p y ys parts.1)
  | false ↦ rise_from p x ys (skip x y ys h)
]

pub rise_tail : (x : Row) (xs : List Row) → keys_rise (x ∷ xs) ≡ true → keys_rise xs ≡ true
rise_tail x [] h = refl
rise_tail x (y ∷ ys) h = (and_parts (is_lt (byte_cmp x.key y.key)) (keys_rise (y ∷ ys)) h).1

-- rows that a test passes still rise
pub rise_filter : (p : Row → Bool) (rows : List Row) → keys_rise rows ≡ true → keys_rise (filter p rows) ≡ true
rise_filter p [] h = refl
rise_filter p (x ∷ xs) h = elim (p x) as (λ b. keys_rise (cond b (x ∷ filter p xs) (filter p xs)) ≡ true) [
  | true ↦ rise_from p x xs h
  | false ↦ rise_filter p xs (rise_tail x xs h)
]

pub rise_behind : (front rows : List Row) → keys_rise (front ++ rows) ≡ true → keys_rise rows ≡ true
rise_behind [] rows h = h
rise_behind (x ∷ front) rows h = rise_behind front rows (rise_tail x (front ++ rows) h)

pub rise_drop : (n : ℕ) (rows : List Row) → keys_rise rows ≡ true → keys_rise (drop n rows) ≡ true
rise_drop zero rows h = h
rise_drop (suc n) [] h = refl
rise_drop (suc n) (x ∷ xs) h = rise_drop n xs (rise_tail x xs h)

pub rise_front : (front rows : List Row) → keys_rise (front ++ rows) ≡ true → keys_rise front ≡ true
rise_front [] rows h = refl
rise_front (x ∷ []) rows h = refl
rise_front (x ∷ y ∷ front) rows h =
    let parts = and_parts (is_lt (byte_cmp x.key y.key)) (keys_rise (y ∷ (front ++ rows))) h in
    and_from (is_lt (byte_cmp x.key y.key)) (keys_rise (y ∷ front)) parts.0 (rise_front (y ∷ front) rows parts.1)

first_under : (x row : Row) (xs rows : List Row) → keys_rise (x ∷ (xs ++ row ∷ rows)) ≡ true → byte_cmp x.key row.key ≡ Less
first_under x row [] rows r = is_less x.key row.key (and_parts (is_lt (byte_cmp x.key row.key)) _ r).0
first_under x row (y ∷ ys) rows r = first_under x row ys rows (skip x y (ys ++ row ∷ rows) r)

-- each of rising rows is below every later one
pub under_rising : (row : Row) (xs rows : List Row) → keys_rise (xs ++ row ∷ rows) ≡ true → AreUnder row.key xs
under_rising row [] rows r = tt
under_rising row (x ∷ xs) rows r = (first_under x row xs rows r, under_rising row xs rows (rise_tail x (xs ++ row ∷ rows) r))

-- ---- ends of cuts

-- rows that rise from one on that isn't below a key stay
pub from_stay : (low : List ℕ) (x : Row) (xs : List Row) → is_le (byte_cmp low x.key) ≡ true → keys_rise (x ∷ xs) ≡ true → cut (Some low) None (x ∷ xs) ≡ x ∷ xs
from_stay low x [] le h = yes (λ (row : Row). lies_in (Some low) None row.key) x [] (λ i. le i && true)
from_stay low x (y ∷ ys) le h =
    let parts = and_parts (is_lt (byte_cmp x.key y.key)) (keys_rise (y ∷ ys)) h in
    let above : is_le (byte_cmp low y.key) ≡ true = ap is_le (at_below low x.key y.key le (is_less x.key y.key parts.0)) in
    yes (λ (row : Row). lies_in (Some low) None row.key) x (y ∷ ys) (λ i. le i && true) ∙ ap (λ rows. x ∷ rows) (from_stay low y ys above parts.1)

-- a cut at both ends is one after the other
pub cut_twice : (low : Option (List ℕ)) (high : List ℕ) (rows : List Row) → cut low (Some high) rows ≡ cut None (Some high) (cut low None rows)
cut_twice low high [] = refl
cut_twice low high (x ∷ xs) =
    let p = λ (row : Row). lies_in low (Some high) row.key in
    let q = λ (row : Row). lies_in low None row.key in
    let u = λ (row : Row). lies_in None (Some high) row.key in
    elim (is_from low x.key) as (λ b. is_from low x.key ≡ b → filter p (x ∷ xs) ≡ filter u (filter q (x ∷ xs))) [
      | true ↦ λ e.
          elim (is_under (Some high) x.key) as (λ b. is_under (Some high) x.key ≡ b → filter p (x ∷ xs) ≡ filter u (filter q (x ∷ xs))) [
            | true ↦ λ h. yes p x xs (λ i. e i && h i) ∙ ap (λ rows. x ∷ rows) (cut_twice low high xs) ∙ sym (ap (filter u) (yes q x xs (λ i. e i && true)) ∙ yes u x (filter q xs) h)
            | false ↦ λ h. no p x xs (λ i. e i && h i) ∙ cut_twice low high xs ∙ sym (ap (filter u) (yes q x xs (λ i. e i && true)) ∙ no u x (filter q xs) h)
          ] refl
      | false ↦ λ e. no p x xs (and_left (is_from low x.key) (is_under (Some high) x.key) e) ∙ cut_twice low high xs ∙ sym (ap (filter u) (no q x xs (λ i. e i && true)))
    ] refl

-- rows below an end stay
pub under_stay : (high : List ℕ) (rows : List Row) → AreUnder high rows → cut None (Some high) rows ≡ rows
under_stay high [] all = refl
under_stay high (x ∷ xs) all = yes (λ (row : Row). lies_in None (Some high) row.key) x xs (ap is_lt all.0) ∙ ap (λ rows. x ∷ rows) (under_stay high xs all.1)

-- none of rising rows is below an end that the first isn't below
pub none_left : (high : List ℕ) (x : Row) (xs : List Row) → is_le (byte_cmp high x.key) ≡ true → keys_rise (x ∷ xs) ≡ true → cut None (Some high) (x ∷ xs) ≡ []
none_left high x xs le h = no (λ (row : Row). lies_in None (Some high) row.key) x xs (not_below high x.key le) ∙ none_under None high x xs le h

-- none of rows that lie below a key is at or above it
pub none_from : (low : List ℕ) (rows : List Row) → AllByRecursion (λ (row : Row). is_le (byte_cmp low row.key) ≡ false) rows → cut (Some low) None rows ≡ []
none_from low [] all = refl
none_from low (x ∷ xs) all = no (λ (row : Row). lies_in (Some low) None row.key) x xs (and_left (is_le (byte_cmp low x.key)) true all.0) ∙ none_from low xs all.1

-- what a test passes passes
pub passing : (p : Row → Bool) (rows : List Row) → AllByRecursion (λ (row : Row). p row ≡ true) (filter p rows)
passing p [] = tt
passing p (x ∷ xs) = elim (p x) as (λ b. p x ≡ b → AllByRecursion (λ (row : Row). p row ≡ true) (cond b (x ∷ filter p xs) (filter p xs))) [
  | true ↦ λ e. (e, passing p xs)
  | false ↦ λ e. passing p xs
] refl
