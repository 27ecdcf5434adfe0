-- Ranges are checked by their starts, and those of one start by their ends.
use Rattle.std.proofs.Common.{◌≡◌, ◌⊎◌, inl, inr, ◌<◌, ℕ, ◌+◌, ◌*◌, List, [], ◌∷◌, ◌++◌, map, take, drop, length, Bool, true, false, ◌&&◌, ◌==◌, nat_lt, Option, Some, None, refl, ◌∙◌, ap, arith}
use Rattle.std.proofs.lemmas.Bool.Decides.{nat_tests}
use Rattle.std.specs.Prelude.{◌||◌, ⊤, option_map}
use Rattle.mesa_schema.proofs.mesa_columns.Lists.{all_so}
use Rattle.mesa_pick_files.specs.mesa_span.Ranges.{Rise, ends_of_tens, start_behind}
use Rattle.mesa_pick_files.proofs.mesa_span.Reachable.{reachable_in_order}
use Rattle.mesa_store_spec.specs.Catalog.{Delta, Ending, TableMeta, end_in, ranges_of, start_in}
use Rattle.mesa_store_spec.specs.Shape.{IsShaped}
use Rattle.mesa_check.specs.Laws.{RangesAreOrdered}
use Rattle.mesa_check.specs.Ranges.{Range, are_ordered, base_range, checked_ranges, cumulative_range, is_before, single_ranges}

-- a range's start and end, or nothing, before another range
abbrev Before : Option (ℕ × ℕ) → Range → Type 0
Before None r = ⊤
Before (Some p) r = (p.0 < r.from) ⊎ ((p.0 ≡ r.from) × (p.1 < r.to))

abbrev Ordered : Option (ℕ × ℕ) → List Range → Type 0
Ordered o [] = ⊤
Ordered o (r ∷ ranges) = Before o r × Ordered (Some (r.from, r.to)) ranges

before : (r s : Range) → Before (Some (r.from, r.to)) s → is_before r s ≡ true
before r s (inl less) = (let e : nat_lt r.from s.from ≡ true = lt_is r.from s.from less in ap (λ b. b || ((r.from == s.from) && nat_lt r.to s.to)) e)
  where
    lt_is : (a b : ℕ) → a < b → nat_lt a b ≡ true
    lt_is a b e = grind (arith, nat_tests)
before r s (inr (same, less)) =
    let a : (r.from == s.from) ≡ true = eq_is r.from s.from same in
    let b : nat_lt r.to s.to ≡ true = lt_is r.to s.to less in
    (λ i. nat_lt r.from s.from || (a i && b i)) ∙ or_true (nat_lt r.from s.from)
  where
    lt_is : (a b : ℕ) → a < b → nat_lt a b ≡ true
    lt_is a b e = grind (arith, nat_tests)

    eq_is : (a b : ℕ) → a ≡ b → (a == b) ≡ true
    eq_is a b e = grind (arith, nat_tests)

    or_true : (b : Bool) → (b || true) ≡ true
    or_true true = refl
    or_true false = refl

are_so : (o : Option (ℕ × ℕ)) (ranges : List Range) → Ordered o ranges → are_ordered ranges ≡ true
are_so o [] all = refl
are_so o (r ∷ []) all = refl
are_so o (r ∷ s ∷ ranges) all = (λ i. before r s all.1.0 i && are_ordered (s ∷ ranges)) ∙ are_so (Some (r.from, r.to)) (s ∷ ranges) all.1

-- all that comes starts at a version or behind it
abbrev IsUnder : Option (ℕ × ℕ) → ℕ → Type 0
IsUnder None start = ⊤
IsUnder (Some p) start = p.0 < start

under : (o : Option (ℕ × ℕ)) (start : ℕ) (r : Range) → r.from ≡ start → IsUnder o start → Before o r
under None start r e less = tt
under (Some p) start r e less = inl (omega (arith, e, less))

singles_ordered : (o : Option (ℕ × ℕ)) (version : ℕ) (deltas : List Delta) → IsUnder o version → Ordered o (single_ranges version deltas)
singles_ordered o version [] less = tt
singles_ordered o version (d ∷ deltas) less = (under o version _ refl less, singles_ordered (Some (version, version)) (version + 1) deltas (let e : version < version + 1 = omega arith in e))

-- cumulatives whose ends rise, behind a range of the same start, and singletons behind them
cumulatives_ordered : (start to from : ℕ) (es : List Ending) (deltas : List Delta) → to < from → Rise from (map end_in es) → Ordered (Some (start, to)) (map (cumulative_range start) es ++ single_ranges (start + 1) deltas)
cumulatives_ordered start to from [] deltas less rise = singles_ordered (Some (start, to)) (start + 1) deltas (let e : start < start + 1 = omega arith in e)
cumulatives_ordered start to from (e ∷ es) deltas less rise =
    let a = rise.0 in
    (inr (refl, let b : to < e.to = omega (arith, a, less) in b), cumulatives_ordered start e.to (e.to + 1) es deltas (let b : e.to < e.to + 1 = omega arith in b) rise.1)

-- the same where no singleton is there
cumulatives_alone : (o : Option (ℕ × ℕ)) (start from : ℕ) (es : List Ending) → IsUnder o start → Rise from (map end_in es) → Ordered o (map (cumulative_range start) es ++ [])
cumulatives_alone o start from [] less rise = tt
cumulatives_alone o start from (e ∷ es) less rise = (under o start (cumulative_range start e) refl less, cumulatives_ordered start e.to (e.to + 1) es [] (let b : e.to < e.to + 1 = omega arith in b) rise.1)

behind_base : (o : Option (ℕ × ℕ)) (start : ℕ) (deltas : List Delta) (es : List Ending) → IsUnder o start → Rise (start + 1) (map end_in es)
    → Ordered o (take 1 (single_ranges start deltas) ++ (map (cumulative_range start) es ++ drop 1 (single_ranges start deltas)))
behind_base o start [] es less rise = cumulatives_alone o start (start + 1) es less rise
behind_base o start (d ∷ deltas) es less rise = (under o start _ refl less, cumulatives_ordered start start (start + 1) es deltas (let e : start < start + 1 = omega arith in e) rise)

-- the first cumulative is of ten versions, so each ends behind the first of them
ends_behind : (start : ℕ) (es : List Ending) → map end_in es ≡ ends_of_tens start (length (map end_in es)) → Rise start (map end_in es) → Rise (start + 1) (map end_in es)
ends_behind start [] is rise = tt
ends_behind start (e ∷ es) is rise =
    let first : e.to ≡ start + 10 * 0 + 9 = cc in
    (omega (arith, first), rise.1)

table_ordered : (floor next : ℕ) (t : TableMeta) → IsShaped floor next t → are_ordered (checked_ranges t) ≡ true
table_ordered floor next t shaped = by t.base (start_in t) refl (ends_behind (start_in t) t.cumulatives shaped.reachable (reachable_in_order (ranges_of t) shaped.reachable))
  where
    by : (b : Option Ending) (start : ℕ) → start_behind (option_map end_in b) ≡ start → Rise (start + 1) (map end_in t.cumulatives)
        → are_ordered (base_range b ++ (take 1 (single_ranges start t.singles) ++ (map (cumulative_range start) t.cumulatives ++ drop 1 (single_ranges start t.singles)))) ≡ true
    by None start e rise = are_so None (take 1 (single_ranges start t.singles) ++ (map (cumulative_range start) t.cumulatives ++ drop 1 (single_ranges start t.singles))) (behind_base None start t.singles t.cumulatives tt rise)
    by (Some b) start e rise =
        let less : 0 < start = omega (arith, e) in
        let all : Ordered (Some (0, b.to)) (take 1 (single_ranges start t.singles) ++ (map (cumulative_range start) t.cumulatives ++ drop 1 (single_ranges start t.singles))) = behind_base (Some (0, b.to)) start t.singles t.cumulatives less rise in
        are_so None (base_range (Some b) ++ (take 1 (single_ranges start t.singles) ++ (map (cumulative_range start) t.cumulatives ++ drop 1 (single_ranges start t.singles)))) (tt, all)

pub ranges_ordered : RangesAreOrdered
ranges_ordered c is = all_so (IsShaped c.floor c.next) (λ (t : TableMeta). are_ordered (checked_ranges t) ≡ true) c.tables (λ t its. table_ordered c.floor c.next t its) is.tables
