use Rattle.std.proofs.Common.{◌≡◌, ◌-◌, ◌^◌, take}
use Rattle.std.specs.Prelude.{flat_map, min}
use Rattle.mesa_table_records.specs.mesa_store_spec.Ids.{times}
use Rattle.mesa_catalog_records.specs.Named.{part_ids}
use Rattle.mesa_catalog_records.proofs.newness.times_in_parts.Given as goal

-- how often the id stands among the parts so far
abbrev pub invariant-loop-part : goal.invariant-loop-part
invariant-loop-part l = l.times ≡ min (2 ^ 64 - 1) (times l.id (flat_map part_ids (take l.part-index l.parts)))
