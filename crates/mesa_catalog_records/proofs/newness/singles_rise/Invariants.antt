use Rattle.std.proofs.Common.{map, take}
use Rattle.mesa_catalog_records.specs.Named.{RiseTo, told_id}
use Rattle.mesa_catalog_records.proofs.newness.singles_rise.Given as goal

abbrev pub invariant-loop-single : goal.invariant-loop-single
invariant-loop-single l = RiseTo l.run l.above (map told_id (take l.single-index l.singles)) l.last
