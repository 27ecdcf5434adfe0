-- The deltas that a work folds.
use Rattle.std.specs.Prelude.{ℕ, List, Bool, true, false}
use Rattle.mesa_validate.specs.mesa_store_spec.Catalog.{Delta, TableMeta}
use Rattle.mesa_validate.specs.mesa_store_spec.Planned.{behind_base, longest_to, planned}

-- Those of the plan at the last version of its range, the base among them only where it makes one.
abbrev pub folded_deltas : TableMeta → Bool → ℕ → List Delta
folded_deltas t true to = planned t to
folded_deltas t false to = behind_base t to (longest_to t to)
