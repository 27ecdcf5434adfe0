-- Totals of sum columns, and what keeps them within their bound.
use Rattle.std.proofs.Common.{◌≡◌, ◌<◌, ◌≤◌, ◌+◌, ◌^◌, ℕ, zero, suc, min, List, [], ◌∷◌, map, length, Bool, true, false, cond, Some, None, refl, sym, ◌∙◌, ap, subst, arith, add-zero, ◌-◌}
use Rattle.std.specs.Prelude.{nat_le, slice_get, zip}
use Rattle.std.specs.List.{AllByRecursion, position_from}
use Rattle.std.proofs.lemmas.Bool.{leb-true, le-leb}
use Rattle.std.proofs.lemmas.Iterator.Adapters.{position_from-zero}
use Rattle.mesa_value.specs.declared.Agg.{Agg}
use Rattle.mesa_value.specs.declared.Agg.TheVariants as agg
use Rattle.mesa_batch.specs.Totals.{AreAtMost, abs_total, capped, over_bound, sum_bound, sum_places, totals_with}

-- what holds of each sum column holds of each of their places
pub all_sums : (P : ℕ → Type 0) (aggs : List Agg) (i : ℕ) → ((c : ℕ) → slice_get aggs c ≡ Some agg.Sum → P (i + c)) → AllByRecursion P (sum_places i aggs)
all_sums P [] i h = tt
all_sums P (agg.Sum ∷ aggs) i h = (subst P (add-zero i) (h zero refl), all_sums P aggs (i + 1) (λ c p. subst P (omega arith) (h (suc c) p)))
all_sums P (agg.Min ∷ aggs) i h = all_sums P aggs (i + 1) (λ c p. subst P (omega arith) (h (suc c) p))
all_sums P (agg.Max ∷ aggs) i h = all_sums P aggs (i + 1) (λ c p. subst P (omega arith) (h (suc c) p))
all_sums P (agg.Replace ∷ aggs) i h = all_sums P aggs (i + 1) (λ c p. subst P (omega arith) (h (suc c) p))

-- and what holds of each place, of each sum column
pub sum_at : (P : ℕ → Type 0) (aggs : List Agg) (i c : ℕ) → AllByRecursion P (sum_places i aggs) → slice_get aggs c ≡ Some agg.Sum → P (i + c)
sum_at P [] i c all p = absurd (cc)
sum_at P (agg.Sum ∷ aggs) i zero all p = subst P (sym (add-zero i)) all.0
sum_at P (agg.Min ∷ aggs) i zero all p = absurd (cc)
sum_at P (agg.Max ∷ aggs) i zero all p = absurd (cc)
sum_at P (agg.Replace ∷ aggs) i zero all p = absurd (cc)
sum_at P (agg.Sum ∷ aggs) i (suc c) all p = subst P (omega arith) (sum_at P aggs (i + 1) c all.1 p)
sum_at P (agg.Min ∷ aggs) i (suc c) all p = subst P (omega arith) (sum_at P aggs (i + 1) c all p)
sum_at P (agg.Max ∷ aggs) i (suc c) all p = subst P (omega arith) (sum_at P aggs (i + 1) c all p)
sum_at P (agg.Replace ∷ aggs) i (suc c) all p = subst P (omega arith) (sum_at P aggs (i + 1) c all p)

-- ---- no total over the bound

none_passes : {X : Type 0} (p : X → Bool) (i : ℕ) (xs : List X) → position_from p i xs ≡ None → AllByRecursion (λ x. p x ≡ false) xs
none_passes p i [] e = tt
none_passes p i (x ∷ xs) e = elim (p x) as (λ b. p x ≡ b → cond b (Some i) (position_from p (i + 1) xs) ≡ None → (p x ≡ false) × AllByRecursion (λ x. p x ≡ false) xs) [
  | true ↦ λ t f. absurd (cc)
  | false ↦ λ t f. (t, none_passes p (i + 1) xs f)
] refl e

below_bound : (n : ℕ) → nat_le sum_bound n ≡ false → n < sum_bound
below_bound n e = grind (arith, le-leb sum_bound n)

all_below : (totals : List ℕ) → AllByRecursion (λ total. nat_le sum_bound total ≡ false) totals → AllByRecursion (λ total. total < sum_bound) totals
all_below [] all = tt
all_below (total ∷ totals) all = (below_bound total all.0, all_below totals all.1)

-- so the totals are within it
pub with_bound : (totals more : List ℕ) → over_bound totals more ≡ None → AllByRecursion (λ total. total < sum_bound) (totals_with totals more)
with_bound totals more e = all_below (totals_with totals more) (none_passes (nat_le sum_bound) 0 (totals_with totals more) (sym (position_from-zero (nat_le sum_bound) (totals_with totals more)) ∙ e))

capped_over : (t m : ℕ) → nat_le sum_bound (t + min sum_bound m) ≡ nat_le sum_bound (t + m)
capped_over t m = grind (arith, le-leb, leb-true)

capped_from : (i : ℕ) (totals more : List ℕ) → position_from (nat_le sum_bound) i (totals_with totals (capped more)) ≡ position_from (nat_le sum_bound) i (totals_with totals more)
capped_from i [] more = refl
capped_from i (t ∷ totals) [] = refl
capped_from i (t ∷ totals) (m ∷ more) = λ j. cond (capped_over t m j) (Some i) (capped_from (i + 1) totals more j)

-- capped totals pass the bound where the totals do
pub over-capped : (totals more : List ℕ) → over_bound totals (capped more) ≡ over_bound totals more
over-capped totals more = position_from-zero (nat_le sum_bound) (totals_with totals (capped more)) ∙ capped_from 0 totals more ∙ sym (position_from-zero (nat_le sum_bound) (totals_with totals more))

small_capped : (totals more : List ℕ) → length totals ≡ length more → AllByRecursion (λ total. total < sum_bound) (totals_with totals more) → capped more ≡ more
small_capped [] [] len all = refl
small_capped [] (m ∷ more) len all = absurd (omega arith)
small_capped (t ∷ totals) [] len all = refl
small_capped (t ∷ totals) (m ∷ more) len all =
    let same : min sum_bound m ≡ m = omega (arith, all.0) in
    λ j. same j ∷ small_capped totals more (omega arith) all.1 j

-- and where none does they are the same
pub same-capped : (totals more : List ℕ) → length totals ≡ length more → over_bound totals more ≡ None → capped more ≡ more
same-capped totals more len e = small_capped totals more len (with_bound totals more e)

-- ---- what contents have stays at most the totals

pub at_most-more : (xs totals more : List ℕ) → AreAtMost xs totals → length totals ≡ length more → AreAtMost xs (totals_with totals more)
at_most-more [] [] more h len = tt
at_most-more [] (t ∷ totals) more h len = absurd h
at_most-more (x ∷ xs) [] more h len = absurd h
at_most-more (x ∷ xs) (t ∷ totals) [] h len = absurd (omega arith)
at_most-more (x ∷ xs) (t ∷ totals) (m ∷ more) h len = (omega (arith, h.0), at_most-more xs totals more h.1 (omega arith))

-- a content that adds at most the batch's values to those before
pub at_most-folded : (f g h : ℕ → ℕ) (places totals : List ℕ) → AreAtMost (map f places) totals → AllByRecursion (λ c. h c ≤ f c + g c) places → AreAtMost (map h places) (totals_with totals (map g places))
at_most-folded f g h [] [] most all = tt
at_most-folded f g h [] (t ∷ totals) most all = absurd most
at_most-folded f g h (c ∷ places) [] most all = absurd most
at_most-folded f g h (c ∷ places) (t ∷ totals) most all = (omega (arith, most.0, all.0), at_most-folded f g h places totals most.1 all.1)

-- no sum of a content's values and a batch's leaves its type
pub sums_below : (f g : ℕ → ℕ) (places totals : List ℕ) → AreAtMost (map f places) totals → AllByRecursion (λ total. total < sum_bound) (totals_with totals (map g places)) → AllByRecursion (λ c. f c + g c < sum_bound) places
sums_below f g [] totals most all = tt
sums_below f g (c ∷ places) [] most all = absurd most
sums_below f g (c ∷ places) (t ∷ totals) most all = (omega (arith, most.0, all.0), sums_below f g places totals most.1 all.1)

pub sums_below_alone : (f : ℕ → ℕ) (places totals : List ℕ) → AreAtMost (map f places) totals → AllByRecursion (λ total. total < sum_bound) totals → AllByRecursion (λ c. f c < sum_bound) places
sums_below_alone f [] totals most all = tt
sums_below_alone f (c ∷ places) [] most all = absurd most
sums_below_alone f (c ∷ places) (t ∷ totals) most all = (omega (arith, most.0, all.0), sums_below_alone f places totals most.1 all.1)

-- no rows add nothing
pub with_nothing : (places totals : List ℕ) → length totals ≡ length places → totals_with totals (map (λ c. abs_total c []) places) ≡ totals
with_nothing [] [] len = refl
with_nothing [] (t ∷ totals) len = absurd (omega arith)
with_nothing (c ∷ places) [] len = absurd (omega arith)
with_nothing (c ∷ places) (t ∷ totals) len = λ j. add-zero t j ∷ with_nothing places totals (omega arith) j

bound-from : (i : ℕ) (totals : List ℕ) → AllByRecursion (λ total. total < sum_bound) totals → position_from (nat_le sum_bound) i totals ≡ None
bound-from i [] all = refl
bound-from i (t ∷ totals) all =
    let no : nat_le sum_bound t ≡ false = grind (arith, leb-true sum_bound t, all.0) in
    ap (λ b. cond b (Some i) (position_from (nat_le sum_bound) (i + 1) totals)) no ∙ bound-from (i + 1) totals all.1

pub within_bound : (totals more : List ℕ) → AllByRecursion (λ total. total < sum_bound) (totals_with totals more) → over_bound totals more ≡ None
within_bound totals more all = position_from-zero (nat_le sum_bound) (totals_with totals more) ∙ bound-from 0 (totals_with totals more) all

-- ---- sums as far as their type goes

pub sums-far : (totals more : List ℕ) → AllByRecursion (λ total. total < sum_bound) (totals_with totals more) → map (λ (p : ℕ × ℕ). min (p.0 + p.1) (2 ^ 128 - 1)) (zip totals more) ≡ totals_with totals more
sums-far [] more all = refl
sums-far (t ∷ totals) [] all = refl
sums-far (t ∷ totals) (m ∷ more) all =
    let same : min (t + m) (2 ^ 128 - 1) ≡ t + m = omega (arith, all.0) in
    λ j. same j ∷ sums-far totals more all.1 j

-- there may be one version more
pub not_full : (next : ℕ) → next < 2 ^ 32 - 1 → nat_le (2 ^ 32 - 1) next ≡ false
not_full next below = elim (nat_le (2 ^ 32 - 1) next) as (λ b. nat_le (2 ^ 32 - 1) next ≡ b → b ≡ false) [ true ↦ λ e. absurd (omega (arith, leb-true (2 ^ 32 - 1) next e, below)) | false ↦ λ e. refl ] refl
