use Rattle.std.proofs.Common.{◌≡◌, drop, length}
use Rattle.mesa_columns.specs.declared.rows.Row.{Row}
use Rattle.mesa_columns.specs.Changes.{lifted_by}
use Rattle.mesa_columns.specs.Lifting.{moved}
use Rattle.mesa_columns.proofs.lifting.Lift.through.Given as goal

-- what the changes that are left make of the moved rows is what all make of the rows
abbrev pub invariant-loop-change : goal.invariant-loop-change
invariant-loop-change l = record {
  rows : (row : Row) → length row.values ≡ length l.fn.values.items
      → lifted_by (record { keys = l.keys.items; values = l.values.items }) (drop l.change-index l.changes) (moved l.sources.items l.suffix.items row)
      ≡ lifted_by (record { keys = l.fn.keys.items; values = l.fn.values.items }) l.changes row;
  count : length l.sources.items ≡ length l.values.items;
}
