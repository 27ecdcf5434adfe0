use Rattle.std.proofs.Common.{◌≤◌, sym, subst, arith, take}
use Rattle.std.specs.Prelude.{flat_map}
use Rattle.std.specs.List.{AllByRecursion}
use Rattle.mesa_catalog_records.specs.Named.{part_ids}
use Rattle.mesa_catalog_records.proofs.Ids.{all_below, all_joined, take_flat}
use Rattle.mesa_catalog_records.proofs.newness.greatest_in_parts.Goals as goal

pub loop-part-preserved : goal.loop-part-preserved
loop-part-preserved c =
    let parts = c.args.parts.now in
    let i = c.loop-part.part-index in
    let old = c.loop-part.greatest in
    let new = c.greatest_in_files-greatest.result in
    let was = c.loop-part.invariant.least in
    let more = c.greatest_in_files-greatest.ensures.least in
    record {
      least = omega (arith, was, more);
      all = subst (AllByRecursion (λ id. id ≤ new)) (sym (take_flat part_ids parts i c.part-item.result c.loop-part-test.true c.part-item.is))
          (all_joined (λ id. id ≤ new) (flat_map part_ids (take i parts)) (part_ids c.part-item.result) (all_below old new (flat_map part_ids (take i parts)) more c.loop-part.invariant.all) c.greatest_in_files-greatest.ensures.all);
    }
