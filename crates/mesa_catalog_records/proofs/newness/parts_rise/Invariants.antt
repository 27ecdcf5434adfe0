use Rattle.std.proofs.Common.{take}
use Rattle.std.specs.Prelude.{flat_map}
use Rattle.mesa_catalog_records.specs.Named.{RiseTo, part_ids}
use Rattle.mesa_catalog_records.proofs.newness.parts_rise.Given as goal

abbrev pub invariant-loop-part : goal.invariant-loop-part
invariant-loop-part l = RiseTo l.run l.above (flat_map part_ids (take l.part-index l.parts)) l.last
