use Rattle.std.proofs.Common.{◌-◌, ◌^◌, ◌∙◌, ap, arith, take}
use Rattle.std.specs.Prelude.{flat_map, min}
use Rattle.std.proofs.lemmas.List.{take_all}
use Rattle.mesa_table_records.specs.mesa_store_spec.Ids.{times}
use Rattle.mesa_catalog_records.specs.Named.{part_ids}
use Rattle.mesa_catalog_records.proofs.Ids.{take_flat, times_append}
use Rattle.mesa_catalog_records.proofs.newness.times_in_parts.Goals as goal

pub loop-part-preserved : goal.loop-part-preserved
loop-part-preserved c =
    let id = c.args.id in
    let parts = c.args.parts.now in
    let i = c.loop-part.part-index in
    let more = ap (times id) (take_flat part_ids parts i c.part-item.result c.loop-part-test.true c.part-item.is) ∙ times_append id (flat_map part_ids (take i parts)) (part_ids c.part-item.result) in
    omega (arith, c.loop-part.invariant, c.times_in_files.ensures.count, c.saturating_add-times.ensures, more)

pub returns : goal.returns
returns c = c.loop-part.invariant ∙ ap (λ parts. min (2 ^ 64 - 1) (times c.args.id (flat_map part_ids parts))) (take_all c.loop-part.part-index c.args.parts.now c.loop-part-test.false)
