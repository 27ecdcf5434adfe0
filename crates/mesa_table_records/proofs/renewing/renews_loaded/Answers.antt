use Rattle.std.proofs.Common.{◌+◌, ◌∙◌, ap, sym, drop}
use Rattle.std.specs.Prelude.{◌==◌, flat_map}
use Rattle.mesa_schema.specs.Recasts.{recast_lineage}
use Rattle.mesa_catalog_table.specs.mesa_store_spec.Catalog.{recast_in}
use Rattle.mesa_table_records.specs.Renewed.{renewed_behind}
use Rattle.mesa_table_records.specs.Stated.{stating_loaded}
use Rattle.mesa_table_records.proofs.Renewed.{loaded_end, loaded_next}
use Rattle.mesa_table_records.proofs.renewing.renews_loaded.Goals as goal

pub returns-in_default : goal.returns-in_default
returns-in_default c =
    let k = c.args.k.now in
    let m = recast_lineage c.args.evolving.now (recast_in k) in
    ap (renewed_behind m k.epoch (flat_map stating_loaded (drop (c.loop-single.single-index + 1) c.args.loaded.now)) k.singles) (sym c.in_default.is)
    ∙ loaded_next m k.epoch c.loop-single.told k.singles c.args.loaded.now c.loop-single.single-index c.single-item.result c.deref.result.now c.told_with.result _
    c.loop-single-test.true c.single-item.is c.deref.ensures c.told_with.ensures.renewed c.loop-single.invariant.left

pub loop-single-preserved : goal.loop-single-preserved
loop-single-preserved c =
    let k = c.args.k.now in
    let m = recast_lineage c.args.evolving.now (recast_in k) in
    record {
      few = c.in-Some.ensures.within;
      left = ap (renewed_behind m k.epoch (flat_map stating_loaded (drop (c.loop-single.single-index + 1) c.args.loaded.now)) k.singles) (sym c.in-Some.is)
          ∙ loaded_next m k.epoch c.loop-single.told k.singles c.args.loaded.now c.loop-single.single-index c.single-item.result c.deref.result.now c.told_with.result _
          c.loop-single-test.true c.single-item.is c.deref.ensures c.told_with.ensures.renewed c.loop-single.invariant.left;
    }

pub returns : goal.returns
returns c =
    let k = c.args.k.now in
    let m = recast_lineage c.args.evolving.now (recast_in k) in
    ap (λ n. c.loop-single.told == n) c.len.ensures
    ∙ loaded_end m k.epoch c.loop-single.told k.singles c.args.loaded.now c.loop-single.single-index _ c.loop-single-test.false c.loop-single.invariant.few c.loop-single.invariant.left
