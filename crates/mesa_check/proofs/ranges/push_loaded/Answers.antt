use Rattle.std.proofs.Common.{◌++◌, ◌∷◌, [], ◌∙◌, ap, map}
use Rattle.std.proofs.lemmas.List.{map_push}
use Rattle.mesa_catalog_table.proofs.Pushes.{pushed_each, pushed_one}
use Rattle.mesa_store_spec.specs.Catalog.{Delta}
use Rattle.mesa_check.specs.Ranges.{Single}
use Rattle.mesa_check.specs.Held.{loaded_range, range_in}
use Rattle.mesa_check.proofs.ranges.push_loaded.Goals as goal

pub loop-single-preserved : goal.loop-single-preserved
loop-single-preserved c =
    let x = c.single-item.result in
    let so_far = map range_in c.loop-single.ranges.items in
    pushed_one loaded_range _ _ _ c.args.loaded.now c.loop-single.single-index x c.loop-single-test.true c.single-item.is c.loop-single.invariant
    (ap (map range_in) c.in_ok-push.ensures.items ∙ map_push range_in c.loop-single.ranges.items _ ∙ ap (λ (d : Delta). so_far ++ record { kind = Single; from = x.version; to = x.version; delta = d } ∷ []) c.deref.ensures)

pub returns : goal.returns
returns c = pushed_each loaded_range _ _ c.args.loaded.now c.loop-single.single-index c.loop-single-test.false c.loop-single.invariant
