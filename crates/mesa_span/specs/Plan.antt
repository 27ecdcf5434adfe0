-- The ranges that a query reads.
use Rattle.std.specs.Prelude.{◌≡◌, ℕ, ◌+◌, ◌-◌, ◌≤◌, List, [], ◌∷◌, ◌++◌, map, length, Option, Some, None, All, nat_le, max, filter}
use Rattle.std.specs.List.{range_with_len, reduce}
use Rattle.mesa_span.specs.declared.ranges.Ranges.{Ranges}
use Rattle.mesa_span.specs.Ranges.{Span, start_of, IsThere}

-- the ranges follow one another without a gap, from a version on, up to and including v
abbrev pub Follow : ℕ → List Span → ℕ → Type 0
Follow from [] v = from ≡ v + 1
Follow from (s ∷ spans) v = (s.0 ≡ from) × (s.0 ≤ s.1) × Follow (s.1 + 1) spans v

-- The ranges are consecutive and reach from 0 to v.
abbrev pub Spans : List Span → ℕ → Type 0
Spans spans v = Follow 0 spans v

-- A set of ranges that are there spans the versions to v.
pub record IsSpanning (r : Ranges) (v : ℕ) (spans : List Span) : Type 0 where
  pub spans_all : Spans spans v
  pub are_there : All (IsThere r) spans

-- No spanning set taken from the same ranges has fewer members.
abbrev pub IsLeast : Ranges → ℕ → List Span → Type 0
IsLeast r v spans = (others : List Span) → IsSpanning r v others → length spans ≤ length others

-- each version from one on, up to and including v, as a range of its own
abbrev pub singletons : ℕ → ℕ → List Span
singletons from v = map (λ k. (k, k)) (range_with_len from ((v + 1) - from))

-- the greatest end that is at most v
abbrev pub longest : ℕ → List ℕ → Option ℕ
longest v ends = reduce max (filter (λ end. nat_le end v) ends)

-- the base's range, where there is a base
abbrev pub base_span : Option ℕ → List Span
base_span None = []
base_span (Some to) = (0, to) ∷ []

-- a cumulative that ends there, where there is one, and then singletons
abbrev pub behind_base : ℕ → Option ℕ → ℕ → List Span
behind_base start None v = singletons start v
behind_base start (Some end) v = (start, end) ∷ singletons (end + 1) v

-- The plan at v: the base, the longest cumulative that ends at or before v, then singletons.
abbrev pub plan : Ranges → ℕ → List Span
plan r v = base_span r.base_to ++ behind_base (start_of r) (longest v r.cumulatives) v
