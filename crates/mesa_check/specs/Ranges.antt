-- The ranges of versions that a table's deltas cover, in the order in which they are checked.
use Rattle.std.specs.Prelude.{ℕ, ◌+◌, List, [], ◌∷◌, ◌++◌, map, filter, take, drop, Bool, true, false, is_some, nat_lt, slice_get, ◌==◌, ◌||◌, ◌&&◌, Option, Some, None}
use Rattle.mesa_store_spec.specs.Catalog.{Delta, Ending, TableMeta, start_in}

-- what a range is: the base, a singleton, or a cumulative
pub data Kind : Type 0 where
  Base : Kind
  Single : Kind
  Cumulative : Kind

-- A range of versions, from its first to its last, with its delta.
pub record Range : Type 0 where
  pub kind : Kind
  pub from : ℕ
  pub to : ℕ
  pub delta : Delta

-- the base is from the first version on
abbrev pub base_range : Option Ending → List Range
base_range None = []
base_range (Some e) = record { kind = Base; from = 0; to = e.to; delta = e.delta } ∷ []

-- a singleton for each version from one on
abbrev pub single_ranges : ℕ → List Delta → List Range
single_ranges version [] = []
single_ranges version (d ∷ deltas) = record { kind = Single; from = version; to = version; delta = d } ∷ single_ranges (version + 1) deltas

-- every cumulative starts behind the base
abbrev pub cumulative_range : ℕ → Ending → Range
cumulative_range start e = record { kind = Cumulative; from = start; to = e.to; delta = e.delta }

-- The ranges of a table by their starts, and those of one start by their ends: the base, the first singleton, the cumulatives, which start with it, and the other singletons.
abbrev pub checked_ranges : TableMeta → List Range
checked_ranges t =
    base_range t.base
    ++ (take 1 (single_ranges (start_in t) t.singles) ++ (map (cumulative_range (start_in t)) t.cumulatives ++ drop 1 (single_ranges (start_in t) t.singles)))

-- The range that tells of a table's totals: the base, or where there is none the first singleton with rows.
abbrev pub totals_range : TableMeta → Option Range
totals_range t = slice_get (base_range t.base ++ filter (λ (r : Range). is_some r.delta.files) (single_ranges (start_in t) t.singles)) 0

-- the range of these versions
abbrev pub is_range : Option Range → Range → Bool
is_range None r = false
is_range (Some s) r = (s.from == r.from) && (s.to == r.to)

-- a range starts before another, or with it and ends before it
abbrev pub is_before : Range → Range → Bool
is_before r s = nat_lt r.from s.from || ((r.from == s.from) && nat_lt r.to s.to)

-- each range stands before the next
abbrev pub are_ordered : List Range → Bool
are_ordered [] = true
are_ordered (r ∷ []) = true
are_ordered (r ∷ s ∷ ranges) = is_before r s && are_ordered (s ∷ ranges)
