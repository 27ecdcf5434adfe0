use Rattle.std.proofs.Common.{◌≤◌, take}
use Rattle.std.specs.Prelude.{flat_map}
use Rattle.std.specs.List.{AllByRecursion}
use Rattle.mesa_catalog_records.specs.Named.{part_ids}
use Rattle.mesa_catalog_records.proofs.newness.greatest_in_parts.Given as goal

abbrev pub invariant-loop-part : goal.invariant-loop-part
invariant-loop-part l = record {
  least : l.least ≤ l.greatest;
  all : AllByRecursion (λ id. id ≤ l.greatest) (flat_map part_ids (take l.part-index l.parts));
}
