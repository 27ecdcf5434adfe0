-- Rows that are the same, and rows that are above a key.
use Rattle.std.proofs.Common.{◌≡◌, ℕ, List, [], ◌∷◌, ◌++◌, Bool, true, false, ◌&&◌, refl, sym, ◌∙◌, ap}
use Rattle.std.proofs.lemmas.Bool.{and_from, and_parts}
use Rattle.std.specs.Prelude.{◌||◌}
use Rattle.std.specs.List.{AllByRecursion}
use Rattle.std.specs.Ordering.{int_eq, is_eq, is_gt, is_lt, ordering_reverse}
use lib.Pointwise.{pointwise}
use Rattle.std.specs.declared.cmp.Ordering.{Ordering}
use Rattle.std.specs.declared.cmp.Ordering.TheVariants.{Less, Equal, Greater}
use Rattle.std.specs.Cmp.Lexicographic.{nat_list_cmp_total, same_text, texts_ties}
use Rattle.std.specs.Cmp.{eq_by_cmp_equiv}
use Rattle.std.specs.Cmp.Rules.{signed_items}
use Rattle.mesa_schema.specs.mesa_key.Order.{byte_cmp}
use Rattle.mesa_schema.specs.mesa_list.Bytes.{same_bytes}
use Rattle.mesa_schema.specs.mesa_columns.declared.rows.Row.{Row}
use Rattle.mesa_schema.specs.mesa_columns.Rows.{keys_rise}
use Rattle.mesa_merge.proofs.mesa_fold.Folds.{is_equal}
use Rattle.mesa_compare.specs.Difference.{has_row, same_row}

pub same_is : (a b : Row) → same_row a b ≡ true → a ≡ b
same_is a b e =
    let parts = and_parts (same_bytes a.key b.key) _ e in
    let key : a.key ≡ b.key = same_text a.key b.key (sym parts.0) in
    let values : a.values ≡ b.values = (signed_items a.values b.values).0 parts.1 in
    λ i. record { key = key i; values = values i }

pub equal_itself : (k : List ℕ) → byte_cmp k k ≡ Equal
equal_itself k = is_equal (byte_cmp k k) ((eq_by_cmp_equiv nat_list_cmp_total).refl k)

same_order : (k : List ℕ) → same_bytes k k ≡ true
same_order k = texts_ties k k ∙ ap is_eq (equal_itself k)

pub same_itself : (a : Row) → same_row a a ≡ true
same_itself a = and_from (same_bytes a.key a.key) _ (same_order a.key) ((signed_items a.values a.values).1 refl)

-- each row is above a key
abbrev pub AreAbove : List ℕ → List Row → Type 0
AreAbove key rows = AllByRecursion (λ (row : Row). byte_cmp key row.key ≡ Less) rows

pub is_less : (o : Ordering) → is_lt o ≡ true → o ≡ Less
is_less Less e = refl
is_less Equal e = cc
is_less Greater e = cc

pub is_greater : (o : Ordering) → is_gt o ≡ true → o ≡ Greater
is_greater Less e = cc
is_greater Equal e = cc
is_greater Greater e = refl

pub is_neither : (o : Ordering) → is_lt o ≡ false → is_gt o ≡ false → o ≡ Equal
is_neither Less e f = cc
is_neither Equal e f = refl
is_neither Greater e f = cc

and_false : (a b : Bool) → b ≡ false → (a && b) ≡ false
and_false true b e = e
and_false false b e = refl

pub other_values : (a b : Row) → pointwise int_eq a.values b.values ≡ false → same_row a b ≡ false
other_values a b e = and_false (same_bytes a.key b.key) (pointwise int_eq a.values b.values) e

pub same_parts : (a b : Row) → a.key ≡ b.key → pointwise int_eq a.values b.values ≡ true → a ≡ b
same_parts a b key e =
    let values : a.values ≡ b.values = (signed_items a.values b.values).0 e in
    λ i. record { key = key i; values = values i }

pub rest_rises : (row : Row) (rows : List Row) → keys_rise (row ∷ rows) ≡ true → keys_rise rows ≡ true
rest_rises row [] e = refl
rest_rises row (next ∷ rows) e = (and_parts (is_lt (byte_cmp row.key next.key)) _ e).1

all_above : (key : List ℕ) (row : Row) (rows : List Row) → byte_cmp key row.key ≡ Less → AreAbove row.key rows → AreAbove key rows
all_above key row [] less above = tt
all_above key row (next ∷ rows) less above = (nat_list_cmp_total.trans key row.key next.key less above.0, all_above key row rows less above.1)

pub rest_above : (row : Row) (rows : List Row) → keys_rise (row ∷ rows) ≡ true → AreAbove row.key rows
rest_above row [] e = tt
rest_above row (next ∷ rows) e =
    let parts = and_parts (is_lt (byte_cmp row.key next.key)) _ e in
    let less = is_less (byte_cmp row.key next.key) parts.0 in
    (less, all_above row.key next rows less (rest_above next rows parts.1))

pub above_more : (key other : List ℕ) (rows : List Row) → byte_cmp key other ≡ Less → AreAbove other rows → AreAbove key rows
above_more key other [] less above = tt
above_more key other (row ∷ rows) less above = (nat_list_cmp_total.trans key other row.key less above.0, above_more key other rows less above.1)

pub above_behind : (key : List ℕ) (front rows : List Row) → AreAbove key (front ++ rows) → AreAbove key rows
above_behind key [] rows above = above
above_behind key (row ∷ front) rows above = above_behind key front rows above.1

-- a row isn't one with a greater key
pub not_same : (a b : Row) → byte_cmp a.key b.key ≡ Less → same_row a b ≡ false
not_same a b less = ap (λ t. t && pointwise int_eq a.values b.values) (texts_ties a.key b.key ∙ ap is_eq less)

-- and isn't among rows above it
pub not_among : (a : Row) (rows : List Row) → AreAbove a.key rows → has_row a rows ≡ false
not_among a [] above = refl
not_among a (row ∷ rows) above = ap (λ t. t || has_row a rows) (not_same a row above.0) ∙ not_among a rows above.1

pub flipped : (a b : List ℕ) → byte_cmp b a ≡ Less → byte_cmp a b ≡ Greater
flipped a b less = nat_list_cmp_total.antisymm a b ∙ ap ordering_reverse less

pub flipped_back : (a b : List ℕ) → byte_cmp b a ≡ Greater → byte_cmp a b ≡ Less
flipped_back a b greater = nat_list_cmp_total.antisymm a b ∙ ap ordering_reverse greater

-- nor one with a lesser key
pub not_same_below : (a b : Row) → byte_cmp b.key a.key ≡ Less → same_row a b ≡ false
not_same_below a b less = ap (λ t. t && pointwise int_eq a.values b.values) (texts_ties a.key b.key ∙ ap is_eq (flipped a.key b.key less))
