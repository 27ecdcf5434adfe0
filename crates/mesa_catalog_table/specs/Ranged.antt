-- The delta of a range of versions.
use Rattle.std.specs.Prelude.{ℕ, ◌-◌, find, nat_le, ◌==◌, ◌&&◌, if◌then◌else◌, Option, Some, None, option_map, slice_get}
use Rattle.std.specs.Option.{option_or}
use Rattle.mesa_store_spec.specs.Catalog.{Delta, Ending, TableMeta, start_in}
use Rattle.mesa_store_spec.specs.Fitting.{delta_in}

-- the base, where it has just these versions
abbrev pub base_at : Option Ending → ℕ → ℕ → Option Delta
base_at None from to = None
base_at (Some b) from to = if (from == 0) && (b.to == to) then Some b.delta else None

-- the cumulative of just these versions: each starts behind the base
abbrev pub cumulative_at : TableMeta → ℕ → ℕ → Option Delta
cumulative_at t from to = if from == start_in t then option_map delta_in (find (λ (e : Ending). e.to == to) t.cumulatives) else None

-- the singleton of just these versions
abbrev pub single_at : TableMeta → ℕ → ℕ → Option Delta
single_at t from to = if (from == to) && nat_le (start_in t) from then slice_get t.singles (from - start_in t) else None

-- The delta of just these versions of a table, if there is one.
abbrev pub delta_at : TableMeta → ℕ → ℕ → Option Delta
delta_at t from to = option_or (base_at t.base from to) (option_or (cumulative_at t from to) (single_at t from to))
