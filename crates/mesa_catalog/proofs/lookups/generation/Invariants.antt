use Rattle.std.proofs.Common.{◌≡◌, ◌≤◌, ◌+◌, ◌*◌, drop}
use Rattle.std.specs.Prelude.{sum_by}
use Rattle.mesa_catalog.specs.Lookups.{changes_of}
use Rattle.mesa_catalog.proofs.lookups.generation.Given as goal

-- what is left is to be added, and not too much was
abbrev pub invariant-loop-table : goal.invariant-loop-table
invariant-loop-table l = record {
  left : l.changes + sum_by changes_of (drop l.table-index l.tables) ≡ sum_by changes_of l.tables;
  small : l.changes ≤ 1009 * l.table-index;
}
