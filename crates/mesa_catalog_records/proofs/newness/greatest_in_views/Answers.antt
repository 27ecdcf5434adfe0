use Rattle.std.proofs.Common.{◌≤◌, [], ◌∷◌, sym, subst, arith, map, take}
use Rattle.std.specs.List.{AllByRecursion}
use Rattle.mesa_table_records.specs.mesa_catalog_table.Named.{view_id}
use Rattle.mesa_catalog_records.proofs.Ids.{all_below, all_joined, take_each}
use Rattle.mesa_catalog_records.proofs.newness.greatest_in_views.Goals as goal

pub loop-view-preserved : goal.loop-view-preserved
loop-view-preserved c =
    let views = c.args.views.now in
    let i = c.loop-view.view-index in
    let old = c.loop-view.greatest in
    let new = c.max-greatest.result in
    let was = c.loop-view.invariant.least in
    let more : old ≤ new = omega (arith, c.max-greatest.ensures) in
    let here : c.view-item.result.file.id ≤ new = omega (arith, c.max-greatest.ensures, c.number.ensures) in
    record {
      least = omega (arith, was, more);
      all = subst (AllByRecursion (λ id. id ≤ new)) (sym (take_each view_id views i c.view-item.result c.loop-view-test.true c.view-item.is))
          (all_joined (λ id. id ≤ new) (map view_id (take i views)) (c.view-item.result.file.id ∷ []) (all_below old new (map view_id (take i views)) more c.loop-view.invariant.all) (here, tt));
    }
