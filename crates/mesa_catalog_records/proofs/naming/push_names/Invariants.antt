use Rattle.std.proofs.Common.{◌≡◌, ◌++◌, ◌∷◌, take}
use Rattle.mesa_table_records.specs.mesa_catalog_table.Lookups.{view_names}
use Rattle.mesa_catalog_records.proofs.naming.push_names.Given as goal

-- the table's name, and its views' so far
abbrev pub invariant-loop-view : goal.invariant-loop-view
invariant-loop-view l = l.names.items ≡ l.fn.names.items ++ l.table.name ∷ take l.view (view_names l.table.evolving.value)
