use Rattle.std.proofs.Common.{◌≡◌, drop}
use Rattle.mesa_file_records.specs.Adopted.{ArePartsOf}
use Rattle.mesa_file_records.specs.Bounds.{parts_checked}
use Rattle.mesa_file_records.proofs.bounds.check_bounds.Given as goal

abbrev pub invariant-parts : goal.invariant-parts
invariant-parts g l = record {
  same : parts_checked l.catalog.catalogue l.parts ≡ parts_checked l.catalog.catalogue (drop l.part-index l.parts);
  parts : ArePartsOf l.catalog.catalogue (drop l.part-index l.parts);
}
