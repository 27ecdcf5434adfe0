use Rattle.std.proofs.Common.{◌≤◌, [], ◌∷◌, sym, subst, arith, map, take}
use Rattle.std.specs.List.{AllByRecursion}
use Rattle.mesa_catalog_records.specs.Named.{told_id}
use Rattle.mesa_catalog_records.proofs.Ids.{all_below, all_joined, take_each}
use Rattle.mesa_catalog_records.proofs.newness.greatest_in_singles.Goals as goal

pub loop-single-preserved : goal.loop-single-preserved
loop-single-preserved c =
    let singles = c.args.singles.now in
    let i = c.loop-single.single-index in
    let old = c.loop-single.greatest in
    let new = c.max-greatest.result in
    let was = c.loop-single.invariant.least in
    let more : old ≤ new = omega (arith, c.max-greatest.ensures) in
    let here : c.single-item.result.files.file.id ≤ new = omega (arith, c.max-greatest.ensures, c.number.ensures) in
    record {
      least = omega (arith, was, more);
      all = subst (AllByRecursion (λ id. id ≤ new)) (sym (take_each told_id singles i c.single-item.result c.loop-single-test.true c.single-item.is))
          (all_joined (λ id. id ≤ new) (map told_id (take i singles)) (c.single-item.result.files.file.id ∷ []) (all_below old new (map told_id (take i singles)) more c.loop-single.invariant.all) (here, tt));
    }
