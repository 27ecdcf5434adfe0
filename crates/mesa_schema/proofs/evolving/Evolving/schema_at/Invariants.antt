use Rattle.std.proofs.Common.{◌≡◌, drop}
use Rattle.mesa_columns.specs.Changes.{columns_after}
use Rattle.mesa_schema.proofs.evolving.Evolving.schema_at.Given as goal

-- what the changes that are left make of the columns is what all make of the first
abbrev pub invariant-loop-change : goal.invariant-loop-change
invariant-loop-change l =
    columns_after (record { keys = l.keys.items; values = l.values.items }) (drop l.change-index l.change-items) ≡ columns_after l.self.first l.change-items
