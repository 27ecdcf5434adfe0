use Rattle.std.proofs.Common.{◌≤◌, map, take}
use Rattle.std.specs.List.{AllByRecursion}
use Rattle.mesa_catalog_records.specs.Named.{told_id}
use Rattle.mesa_catalog_records.proofs.newness.greatest_in_singles.Given as goal

abbrev pub invariant-loop-single : goal.invariant-loop-single
invariant-loop-single l = record {
  least : l.least ≤ l.greatest;
  all : AllByRecursion (λ id. id ≤ l.greatest) (map told_id (take l.single-index l.singles));
}
