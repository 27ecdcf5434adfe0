-- How rows of an epoch become rows of the present.
use Rattle.std.specs.Prelude.{◌≡◌, ℕ, length}
use Rattle.mesa_columns.specs.declared.rows.Row.{Row}
use Rattle.mesa_columns.specs.declared.lifting.Lift.{Lift}
use Rattle.mesa_schema.specs.Changes.{Lineage, columns_at, epoch_of, lifted}
use Rattle.mesa_columns.specs.Lifting.{lifted_with}

-- A lift is one from an epoch: it lifts each row that has a value for each value column of that epoch.
abbrev pub Lifts : Lift → Lineage → ℕ → Type 0
Lifts lift l epoch = (row : Row) → length row.values ≡ length (columns_at l epoch).values → lifted_with lift row ≡ lifted l epoch (epoch_of l) row
