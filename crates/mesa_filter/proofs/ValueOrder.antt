-- The order of key values: it is total, and a closed interval reaches what a value in it meets.
use Rattle.std.proofs.Common.{◌≡◌, ℕ, List, [], ◌∷◌, Bool, true, false, refl, sym, ◌∙◌, ap}
use Rattle.std.specs.Prelude.{◌==◌, ◌||◌, not}
use Rattle.std.specs.List.{list_any}
use Rattle.std.specs.Ordering.{is_eq, is_ge, is_gt, is_le, is_lt, nat_cmp, ordering_reverse, ordering_then}
use Rattle.std.specs.declared.cmp.Ordering.{Ordering}
use Rattle.std.specs.declared.cmp.Ordering.TheVariants.{Less, Equal, Greater}
use Rattle.std.specs.Cmp.{IsTotalOrder, alike_right, int_cmp_total, upto}
use Rattle.std.proofs.lemmas.Bool.{and_from, and_parts}
use Rattle.std.proofs.lemmas.Cmp.{int_ranked, nat_list_cmp_total, ranked}
use Rattle.mesa_fold.specs.mesa_key.declared.KeyValue.{KeyValue}
use Rattle.mesa_fold.specs.mesa_key.declared.KeyValue.TheVariants.{Int, Text}
use Rattle.mesa_fold.specs.mesa_key.Order.{byte_cmp, value_cmp}
use Rattle.mesa_filter.specs.declared.terms.Comparison.{Comparison}
use Rattle.mesa_filter.specs.declared.terms.Comparison.TheVariants as op
use Rattle.mesa_filter.specs.declared.terms.Term.{Term}
use Rattle.mesa_filter.specs.Filter.{passes_as}
use Rattle.mesa_filter.specs.Walk.{column_meets, column_reaches, reaches}

turned : (x y : KeyValue) → value_cmp x y ≡ ordering_reverse (value_cmp y x)
turned (Int a) (Int b) = int_cmp_total.antisymm a b
turned (Int a) (Text b) = refl
turned (Text a) (Int b) = refl
turned (Text a) (Text b) = nat_list_cmp_total.antisymm a b

chained : (x y z : KeyValue) → value_cmp x y ≡ Less → value_cmp y z ≡ Less → value_cmp x z ≡ Less
chained (Int a) (Int b) (Int c) p q = int_cmp_total.trans a b c p q
chained (Int a) (Int b) (Text c) p q = refl
chained (Int a) (Text b) (Int c) p q = cc
chained (Int a) (Text b) (Text c) p q = refl
chained (Text a) (Int b) z p q = cc
chained (Text a) (Text b) (Int c) p q = cc
chained (Text a) (Text b) (Text c) p q = nat_list_cmp_total.trans a b c p q

alike : (x y z : KeyValue) → value_cmp x y ≡ Equal → value_cmp x z ≡ value_cmp y z
alike (Int a) (Int b) (Int c) e = int_cmp_total.congr a b c e
alike (Int a) (Int b) (Text c) e = refl
alike (Int a) (Text b) z e = cc
alike (Text a) (Int b) z e = cc
alike (Text a) (Text b) (Int c) e = refl
alike (Text a) (Text b) (Text c) e = nat_list_cmp_total.congr a b c e

value_total : IsTotalOrder value_cmp
value_total = record { antisymm = turned; trans = chained; congr = alike }

-- Bytes that no order tells apart are the same, and so are values.
bytes_tied : (u v : List ℕ) → byte_cmp u v ≡ Equal → u ≡ v
bytes_tied [] [] e = refl
bytes_tied [] (y ∷ v) e = cc
bytes_tied (x ∷ u) [] e = cc
bytes_tied (x ∷ u) (y ∷ v) e = elim (nat_cmp x y) as (λ o. nat_cmp x y ≡ o → ordering_then o (byte_cmp u v) ≡ Equal → x ∷ u ≡ y ∷ v) [
  | Less ↦ λ h f. cc
  | Equal ↦ λ h f. let first : x ≡ y = ranked x y Equal (sym h) in let others : u ≡ v = bytes_tied u v f in cc
  | Greater ↦ λ h f. cc
] refl e

pub tied : (x y : KeyValue) → value_cmp x y ≡ Equal → x ≡ y
tied (Int a) (Int b) e = ap Int (int_ranked a b Equal (sym e))
tied (Int a) (Text b) e = cc
tied (Text a) (Int b) e = cc
tied (Text a) (Text b) e = ap Text (bytes_tied a b e)

-- orders as tests
not_above : (o : Ordering) → is_le o ≡ true → is_gt o ≡ false
not_above Less e = refl
not_above Equal e = refl
not_above Greater e = cc

up_to : (o : Ordering) → is_gt o ≡ false → is_le o ≡ true
up_to Less e = refl
up_to Equal e = refl
up_to Greater e = cc

turned_ge : (o : Ordering) → is_ge (ordering_reverse o) ≡ is_le o
turned_ge Less = refl
turned_ge Equal = refl
turned_ge Greater = refl

turned_gt : (o : Ordering) → is_gt (ordering_reverse o) ≡ is_lt o
turned_gt Less = refl
turned_gt Equal = refl
turned_gt Greater = refl

pub ge_turned : (x y : KeyValue) → is_ge (value_cmp x y) ≡ is_le (value_cmp y x)
ge_turned x y = ap is_ge (turned x y) ∙ turned_ge (value_cmp y x)

gt_turned : (x y : KeyValue) → is_gt (value_cmp x y) ≡ is_lt (value_cmp y x)
gt_turned x y = ap is_gt (turned x y) ∙ turned_gt (value_cmp y x)

-- chains of tests
le_le : (x y z : KeyValue) → is_le (value_cmp x y) ≡ true → is_le (value_cmp y z) ≡ true → is_le (value_cmp x z) ≡ true
le_le x y z p q = up_to (value_cmp x z) (upto value_total x y z (not_above (value_cmp x y) p) (not_above (value_cmp y z) q))

is_less : (o : Ordering) → is_lt o ≡ true → o ≡ Less
is_less Less e = refl
is_less Equal e = cc
is_less Greater e = cc

le_lt : (x y z : KeyValue) → is_le (value_cmp x y) ≡ true → is_lt (value_cmp y z) ≡ true → is_lt (value_cmp x z) ≡ true
le_lt x y z p q = elim (value_cmp x y) as (λ o. value_cmp x y ≡ o → is_le o ≡ true → is_lt (value_cmp x z) ≡ true) [
  | Less ↦ λ e h. ap is_lt (chained x y z e (is_less (value_cmp y z) q))
  | Equal ↦ λ e h. ap is_lt (alike x y z e) ∙ q
  | Greater ↦ λ e h. cc
] refl p

lt_le : (x y z : KeyValue) → is_lt (value_cmp x y) ≡ true → is_le (value_cmp y z) ≡ true → is_lt (value_cmp x z) ≡ true
lt_le x y z p q = elim (value_cmp y z) as (λ o. value_cmp y z ≡ o → is_le o ≡ true → is_lt (value_cmp x z) ≡ true) [
  | Less ↦ λ e h. ap is_lt (chained x y z (is_less (value_cmp x y) p) e)
  | Equal ↦ λ e h. ap is_lt (sym (alike_right value_total y z x e)) ∙ p
  | Greater ↦ λ e h. cc
] refl q

eq_le : (x y : KeyValue) → is_eq (value_cmp x y) ≡ true → (is_le (value_cmp x y) ≡ true) × (is_ge (value_cmp x y) ≡ true)
eq_le x y e = elim (value_cmp x y) as (λ o. is_eq o ≡ true → (is_le o ≡ true) × (is_ge o ≡ true)) [ Less ↦ λ h. cc | Equal ↦ λ h. (refl, refl) | Greater ↦ λ h. cc ] e

pub level : (o : Ordering) → is_eq o ≡ true → o ≡ Equal
level Less e = cc
level Equal e = refl
level Greater e = cc

both_level : (o : Ordering) → is_le o ≡ true → is_ge o ≡ true → o ≡ Equal
both_level Less p q = cc
both_level Equal p q = refl
both_level Greater p q = cc

-- Values between equal ones are the same.
pub between_equal : (low x high : KeyValue) → is_eq (value_cmp low high) ≡ true → is_le (value_cmp low x) ≡ true → is_ge (value_cmp high x) ≡ true → value_cmp low x ≡ Equal
between_equal low x high e p q =
    let same : low ≡ high = tied low high (level (value_cmp low high) e) in
    both_level (value_cmp low x) p (ap (λ v. is_ge (value_cmp v x)) same ∙ q)

or_right : (a b : Bool) → b ≡ true → (a || b) ≡ true
or_right true b e = refl
or_right false b e = e

either : (a b c : Bool) → (b ≡ true → c ≡ true) → (a || b) ≡ true → (a || c) ≡ true
either true b c f h = refl
either false b c f h = f h

-- What a value meets, the closed interval around it reaches.
value_reaches : (c : Comparison) (low high x l : KeyValue) → is_le (value_cmp low x) ≡ true → is_ge (value_cmp high x) ≡ true → passes_as c (value_cmp x l) ≡ true → reaches c (value_cmp low l) (value_cmp high l) ≡ true
value_reaches op.Equal low high x l p q m =
    let level = eq_le x l m in
    and_from (is_le (value_cmp low l)) (is_ge (value_cmp high l)) (le_le low x l p level.0) (ge_turned high l ∙ le_le l x high (sym (ge_turned x l) ∙ level.1) (sym (ge_turned high x) ∙ q))
value_reaches op.AtMost low high x l p q m = le_le low x l p m
value_reaches op.AtLeast low high x l p q m = ge_turned high l ∙ le_le l x high (sym (ge_turned x l) ∙ m) (sym (ge_turned high x) ∙ q)
value_reaches op.Less low high x l p q m = le_lt low x l p m
value_reaches op.Greater low high x l p q m = gt_turned high l ∙ lt_le l x high (sym (gt_turned x l) ∙ m) (sym (ge_turned high x) ∙ q)

some_reaches : (c : Comparison) (low high x : KeyValue) (literals : List KeyValue) → is_le (value_cmp low x) ≡ true → is_ge (value_cmp high x) ≡ true
    → list_any (λ l. passes_as c (value_cmp x l)) literals ≡ true → list_any (λ l. reaches c (value_cmp low l) (value_cmp high l)) literals ≡ true
some_reaches c low high x [] p q m = cc
some_reaches c low high x (l ∷ literals) p q m =
    elim (passes_as c (value_cmp x l)) as (λ t. passes_as c (value_cmp x l) ≡ t → (t || list_any (λ y. passes_as c (value_cmp x y)) literals) ≡ true → (reaches c (value_cmp low l) (value_cmp high l) || list_any (λ y. reaches c (value_cmp low y) (value_cmp high y)) literals) ≡ true) [
      | true ↦ λ e h. ap (λ t. t || list_any (λ y. reaches c (value_cmp low y) (value_cmp high y)) literals) (value_reaches c low high x l p q e)
      | false ↦ λ e h. or_right (reaches c (value_cmp low l) (value_cmp high l)) _ (some_reaches c low high x literals p q h)
    ] refl m

-- A column whose value meets its terms is reached by each closed interval around it.
pub column_reached : (place : ℕ) (low high x : KeyValue) (terms : List Term) → is_le (value_cmp low x) ≡ true → is_ge (value_cmp high x) ≡ true → column_meets place x terms ≡ true → column_reaches place low high terms ≡ true
column_reached place low high x [] p q m = refl
column_reached place low high x (term ∷ terms) p q m =
    let parts = and_parts (not (term.column == place) || list_any (λ l. passes_as term.comparison (value_cmp x l)) term.literals) (column_meets place x terms) m in
    and_from (not (term.column == place) || list_any (λ l. reaches term.comparison (value_cmp low l) (value_cmp high l)) term.literals) (column_reaches place low high terms)
    (either (not (term.column == place)) _ _ (some_reaches term.comparison low high x term.literals p q) parts.0)
    (column_reached place low high x terms p q parts.1)
