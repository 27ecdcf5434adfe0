use Rattle.std.proofs.Common.{◌≡◌, drop}
use Rattle.mesa_validate.specs.Seen.{greatest_in}
use Rattle.mesa_validate.proofs.versions.common_oldest.Given as goal

-- the greatest of the one so far and of those that are left
abbrev pub invariant-loop-table : goal.invariant-loop-table
invariant-loop-table l = greatest_in l.found (drop l.table l.catalog.catalogue.tables) ≡ greatest_in l.catalog.catalogue.floor l.catalog.catalogue.tables
