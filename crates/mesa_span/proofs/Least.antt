-- A plan spans, and no spanning set of the same ranges has fewer members.
use Rattle.std.proofs.Common.{◌≡◌, ℕ, zero, suc, ◌+◌, ◌-◌, ◌≤◌, ◌<◌, List, [], ◌∷◌, ◌++◌, map, length, Option, Some, None, refl, ap, sym, subst, ◌∙◌, arith, inl, inr}
use Rattle.std.specs.Prelude.{Contains, All}
use Rattle.std.specs.List.{range_with_len, AllByRecursion}
use Rattle.std.specs.Option.{ForSome}
use Rattle.std.proofs.lemmas.List.Elements.{All-from_recursion, recursion_from_All, All-contains, All-append, All-cons, All-nil}
use Rattle.std.proofs.lemmas.List.FromFn.{length-map-range_with_len}
use Rattle.mesa_span.specs.declared.ranges.Ranges.{Ranges}
use Rattle.mesa_span.specs.Ranges.{Span, Rise, start_behind, start_of, IsThere, IsInOrder}
use Rattle.mesa_span.specs.Plan.{Follow, IsSpanning, IsLeast, longest, base_span, behind_base, plan}
use Rattle.mesa_span.proofs.Longest.{longest_is, longest_none}

abbrev pub single : ℕ → Span
single k = (k, k)

follow_singles : (from n v : ℕ) → from + n ≡ v + 1 → Follow from (map single (range_with_len from n)) v
follow_singles from zero v all = omega arith
follow_singles from (suc n) v all = (refl, omega arith, follow_singles (from + 1) n v (omega arith))

there_singles : (r : Ranges) (from n : ℕ) → start_of r ≤ from → AllByRecursion (IsThere r) (map single (range_with_len from n))
there_singles r from zero behind = tt
there_singles r from (suc n) behind = (inr (inr (refl, behind)), there_singles r (from + 1) n (omega arith))

-- the ranges behind the base follow one another and are there
behind_follows : (base : Option ℕ) (ends : List ℕ) (v : ℕ) (found : Option ℕ) → longest v ends ≡ found → Rise (start_behind base) ends → start_behind base ≤ v + 1 → Follow (start_behind base) (behind_base (start_behind base) found v) v
behind_follows base ends v None none rise within = follow_singles (start_behind base) (v + 1 - start_behind base) v (omega arith)
behind_follows base ends v (Some end) found rise within =
    let is = longest_is (start_behind base) v ends end rise found in
    let fits : end + 1 + (v + 1 - (end + 1)) ≡ v + 1 = omega (arith, is.within) in
    (refl, is.behind, follow_singles (end + 1) (v + 1 - (end + 1)) v fits)

behind_there : (r : Ranges) (v : ℕ) (found : Option ℕ) → longest v r.cumulatives ≡ found → IsInOrder r → AllByRecursion (IsThere r) (behind_base (start_of r) found v)
behind_there r v None none rise = there_singles r (start_of r) (v + 1 - start_of r) (omega arith)
behind_there r v (Some end) found rise =
    let is = longest_is (start_of r) v r.cumulatives end rise found in
    let behind : start_of r ≤ end + 1 = omega (arith, is.behind) in
    (inr (inl (refl, is.there)), there_singles r (end + 1) (v + 1 - (end + 1)) behind)

plan_follows : (base : Option ℕ) (ends : List ℕ) (v : ℕ) → Rise (start_behind base) ends → ForSome base (λ to. to ≤ v) → Follow 0 (base_span base ++ behind_base (start_behind base) (longest v ends) v) v
plan_follows None ends v rise within = behind_follows None ends v (longest v ends) refl rise (omega arith)
plan_follows (Some to) ends v rise within =
    let reached : to ≤ v = within to refl in
    (refl, omega arith, behind_follows (Some to) ends v (longest v ends) refl rise (omega arith))

base_there : (r : Ranges) (base : Option ℕ) → r.base_to ≡ base → All (IsThere r) (base_span base)
base_there r None is = All-nil (IsThere r)
base_there r (Some to) is = All-cons (IsThere r) (0, to) [] (inl (refl, is)) (All-nil (IsThere r))

pub plan_spans : (r : Ranges) (v : ℕ) → IsInOrder r → ForSome r.base_to (λ to. to ≤ v) → IsSpanning r v (plan r v)
plan_spans r v rise within = record {
  spans_all = plan_follows r.base_to r.cumulatives v rise within;
  are_there = All-append (IsThere r) (base_span r.base_to) (behind_base (start_of r) (longest v r.cumulatives) v) (base_there r r.base_to refl) (All-from_recursion (IsThere r) (behind_base (start_of r) (longest v r.cumulatives) v) (behind_there r v (longest v r.cumulatives) refl rise));
}

-- behind the first range after the base only single versions follow, one for each
singles_only : (r : Ranges) (from v : ℕ) (spans : List Span) → start_of r < from → AllByRecursion (IsThere r) spans → Follow from spans v → length spans + from ≡ v + 1
singles_only r from v [] behind there follow = omega (arith, follow)
singles_only r from v (s ∷ spans) behind (first, rest) (begins, holds, follow) =
    elim first [
      | inl base ↦ absurd (omega (arith, base.0, begins))
      | inr other ↦ elim other [
        | inl cumulative ↦ absurd (omega (arith, cumulative.0, begins))
        | inr one ↦ let more : length spans + (s.1 + 1) ≡ v + 1 = singles_only r (s.1 + 1) v spans (omega (arith, holds, begins)) rest follow in omega (arith, more, one.0, begins)
      ]
    ]

-- how many ranges a plan has behind the base: one for each version, or the longest cumulative's and one for each version behind that
length_singles : (from n : ℕ) → length (map single (range_with_len from n)) ≡ n
length_singles from n = length-map-range_with_len single from n

behind_base_least : (start v : ℕ) (found : Option ℕ) (ends : List ℕ) → longest v ends ≡ found → Rise start ends → length (behind_base start found v) ≤ v + 1 - start
behind_base_least start v None ends none rise = omega (arith, length_singles start (v + 1 - start))
behind_base_least start v (Some end) ends found rise =
    let is = longest_is start v ends end rise found in
    omega (arith, length_singles (end + 1) (v + 1 - (end + 1)), is.behind, is.within)

-- with the longest cumulative there are at most as many ranges as with another
behind_base_beats : (start v : ℕ) (found : Option ℕ) (ends : List ℕ) (other : ℕ) → longest v ends ≡ found → Rise start ends → Contains ends other → other ≤ v → length (behind_base start found v) ≤ 1 + (v - other)
behind_base_beats start v None ends other none rise there within = absurd (All-contains (λ e. e ≤ v → ⊥) ends other (longest_none v ends none) there within)
behind_base_beats start v (Some end) ends other found rise there within =
    let is = longest_is start v ends end rise found in
    let longer : other ≤ end = All-contains (λ e. e ≤ v → e ≤ end) ends other is.greatest there within in
    omega (arith, length_singles (end + 1) (v + 1 - (end + 1)), is.within)

-- no ranges that follow one another behind the base are fewer
behind_least : (r : Ranges) (v : ℕ) (spans : List Span) → IsInOrder r → AllByRecursion (IsThere r) spans → Follow (start_of r) spans v → length (behind_base (start_of r) (longest v r.cumulatives) v) ≤ length spans
behind_least r v [] rise there follow = omega (arith, follow, behind_base_least (start_of r) v (longest v r.cumulatives) r.cumulatives refl rise)
behind_least r v (s ∷ spans) rise (first, rest) (begins, holds, follow) =
    elim first [
      | inl base ↦ (let start : start_of r ≡ s.1 + 1 = ap start_behind base.1 in absurd (omega (arith, begins, base.0, start)))
      | inr other ↦ elim other [
        | inl cumulative ↦
            let more : length spans + (s.1 + 1) ≡ v + 1 = singles_only r (s.1 + 1) v spans (omega (arith, holds, begins)) rest follow in
            omega (arith, more, behind_base_beats (start_of r) v (longest v r.cumulatives) r.cumulatives s.1 refl rise cumulative.1 (omega (arith, more)))
        | inr one ↦
            let more : length spans + (s.1 + 1) ≡ v + 1 = singles_only r (s.1 + 1) v spans (omega (arith, holds, begins)) rest follow in
            omega (arith, more, one.0, begins, behind_base_least (start_of r) v (longest v r.cumulatives) r.cumulatives refl rise)
      ]
    ]

-- with a base every spanning set begins with it
plan_least : (r : Ranges) (base : Option ℕ) → r.base_to ≡ base → (v : ℕ) (others : List Span) → IsInOrder r → AllByRecursion (IsThere r) others → Follow 0 others v → length (base_span base ++ behind_base (start_of r) (longest v r.cumulatives) v) ≤ length others
plan_least r None is v others rise there follow =
    let start : start_of r ≡ 0 = ap start_behind is in
    let P : ℕ → Type 0 = λ (from : ℕ). Follow from others v in
    behind_least r v others rise there (subst P (sym start) follow)
plan_least r (Some to) is v [] rise there follow = absurd (omega (arith, follow))
plan_least r (Some to) is v (s ∷ others) rise (first, rest) (begins, holds, follow) =
    let start : start_of r ≡ to + 1 = ap start_behind is in
    elim first [
      | inl base ↦
          let same : Some s.1 ≡ Some to = sym base.1 ∙ is in
          let ends : s.1 ≡ to = cc in
          let P : ℕ → Type 0 = λ (from : ℕ). Follow from others v in
          let less : length (behind_base (start_of r) (longest v r.cumulatives) v) ≤ length others = behind_least r v others rise rest (subst P (ap (λ n. n + 1) ends ∙ sym start) follow) in
          omega (arith, less)
      | inr other ↦ elim other [
        | inl cumulative ↦ absurd (omega (arith, begins, cumulative.0, start))
        | inr one ↦ absurd (omega (arith, begins, one.1, start))
      ]
    ]

pub plan_is_least : (r : Ranges) (v : ℕ) → IsInOrder r → IsLeast r v (plan r v)
plan_is_least r v rise others spanning = plan_least r r.base_to refl v others rise (recursion_from_All (IsThere r) others spanning.are_there) spanning.spans_all
