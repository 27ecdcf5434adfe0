-- Totals that are counted as far as the bound, and whether one passes it.
use Rattle.std.proofs.Common.{◌≡◌, ◌<◌, ◌≤◌, ◌+◌, ℕ, zero, suc, min, List, [], ◌∷◌, map, Bool, true, false, refl, sym, subst, arith, add-zero}
use Rattle.std.specs.Prelude.{◌||◌, nat_le, slice_get, Some}
use Rattle.std.specs.List.{AllByRecursion, list_any}
use Rattle.std.proofs.lemmas.Bool.{le-leb, leb-true}
use Rattle.mesa_open_files.specs.mesa_value.declared.Agg.{Agg}
use Rattle.mesa_open_files.specs.mesa_value.declared.Agg.TheVariants as agg
use Rattle.mesa_open_files.specs.mesa_columns.declared.rows.Row.{Row}
use Rattle.mesa_open_files.specs.mesa_columns.Columns.{Columns, aggs_of}
use Rattle.mesa_batch.specs.Totals.{abs_total, abs_totals, capped, sum_bound, sum_places}
use Rattle.mesa_answer.specs.Answering.{KeepsSums}
use Rattle.mesa_compact.specs.Regrouped.{PassesBound}

-- some total of the list passes
abbrev some_pass : List ℕ → Bool
some_pass totals = list_any (λ total. nat_le sum_bound total) totals

-- ---- none does

none_pass : (n : ℕ) (ns : List ℕ) → some_pass (n ∷ ns) ≡ false → (nat_le sum_bound n ≡ false) × (some_pass ns ≡ false)
none_pass n ns none = by (nat_le sum_bound n) none
  where
    by : (b : Bool) → (b || some_pass ns) ≡ false → (b ≡ false) × (some_pass ns ≡ false)
    by true e = absurd cc
    by false e = (refl, e)

below_bound : (n : ℕ) → nat_le sum_bound n ≡ false → n < sum_bound
below_bound n e = grind (arith, le-leb sum_bound n)

pub all_small : (ns : List ℕ) → some_pass ns ≡ false → AllByRecursion (λ n. n < sum_bound) ns
all_small [] none = tt
all_small (n ∷ ns) none = let parts = none_pass n ns none in (below_bound n parts.0, all_small ns parts.1)

-- so they are counted to their end
pub capped_whole : (ns : List ℕ) → AllByRecursion (λ n. n < sum_bound) (capped ns) → capped ns ≡ ns
capped_whole [] small = refl
capped_whole (n ∷ ns) small =
    let here : min sum_bound n ≡ n = omega (arith, small.0) in
    λ i. here i ∷ capped_whole ns small.1 i

-- ---- one does

passing_at : (n : ℕ) → nat_le sum_bound (min sum_bound n) ≡ true → sum_bound ≤ n
passing_at n e = grind (arith, leb-true)

-- it is that of a sum column
abbrev Passing : (ℕ → ℕ) → ℕ → List Agg → Type 0
Passing f i aggs = (c : ℕ) × (slice_get aggs c ≡ Some agg.Sum) × (sum_bound ≤ f (i + c))

passing_behind : (f : ℕ → ℕ) (i : ℕ) (a : Agg) (aggs : List Agg) → Passing f (i + 1) aggs → Passing f i (a ∷ aggs)
passing_behind f i a aggs more = (suc more.0, more.1, subst (λ n. sum_bound ≤ f n) (omega arith) more.2)

passing_sum : (f : ℕ → ℕ) (i : ℕ) (aggs : List Agg) (b : Bool) → nat_le sum_bound (min sum_bound (f i)) ≡ b → (b || some_pass (capped (map f (sum_places (i + 1) aggs)))) ≡ true
    → (some_pass (capped (map f (sum_places (i + 1) aggs))) ≡ true → Passing f (i + 1) aggs) → Passing f i (agg.Sum ∷ aggs)
passing_sum f i aggs true here e more = (zero, refl, subst (λ n. sum_bound ≤ f n) (sym (add-zero i)) (passing_at (f i) here))
passing_sum f i aggs false here e more = passing_behind f i agg.Sum aggs (more e)

passing : (f : ℕ → ℕ) (i : ℕ) (aggs : List Agg) → some_pass (capped (map f (sum_places i aggs))) ≡ true → Passing f i aggs
passing f i [] e = absurd cc
passing f i (agg.Sum ∷ aggs) e = passing_sum f i aggs (nat_le sum_bound (min sum_bound (f i))) refl e (λ rest. passing f (i + 1) aggs rest)
passing f i (agg.Min ∷ aggs) e = passing_behind f i agg.Min aggs (passing f (i + 1) aggs e)
passing f i (agg.Max ∷ aggs) e = passing_behind f i agg.Max aggs (passing f (i + 1) aggs e)
passing f i (agg.Replace ∷ aggs) e = passing_behind f i agg.Replace aggs (passing f (i + 1) aggs e)

pub passes_bound : (s : Columns) (rows : List Row) → some_pass (capped (abs_totals s rows)) ≡ true → PassesBound s rows
passes_bound s rows e =
    let one = passing (λ column. abs_total column rows) 0 (aggs_of s) e in
    record { column = one.0; sum = one.1; passes = subst (λ n. sum_bound ≤ abs_total n rows) (omega arith) one.2 }

-- none does where the sums keep the bound
pub keeps_bound : (s : Columns) (rows : List Row) → KeepsSums s rows → PassesBound s rows → ⊥
keeps_bound s rows keeps over = omega (arith, keeps over.column over.sum, over.passes)
