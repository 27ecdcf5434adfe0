-- The deltas that a query at a version reads.
use Rattle.std.specs.Prelude.{ℕ, ◌+◌, ◌-◌, List, ◌∷◌, ◌++◌, map, take, drop, find, ◌==◌, Option, Some, None}
use Rattle.mesa_history_spec.specs.mesa_span.Plan.{longest}
use Rattle.mesa_store_spec.specs.Catalog.{Delta, Ending, TableMeta, end_in, start_in}
use Rattle.mesa_store_spec.specs.Fitting.{base_deltas}

abbrev pub ending_at : List Ending → Option ℕ → Option Ending
ending_at endings None = None
ending_at endings (Some end) = find (λ (e : Ending). e.to == end) endings

-- the longest cumulative that ends at or before a version
abbrev pub longest_to : TableMeta → ℕ → Option Ending
longest_to t version = ending_at t.cumulatives (longest version (map end_in t.cumulatives))

-- a cumulative, if there is one, and then the singletons to a version
abbrev pub behind_base : TableMeta → ℕ → Option Ending → List Delta
behind_base t version None = take (version + 1 - start_in t) t.singles
behind_base t version (Some e) = e.delta ∷ take (version - e.to) (drop (e.to + 1 - start_in t) t.singles)

-- The deltas of the plan at a version: the base, the longest cumulative that ends at or before it, then singletons.
abbrev pub planned : TableMeta → ℕ → List Delta
planned t version = base_deltas t.base ++ behind_base t version (longest_to t version)
