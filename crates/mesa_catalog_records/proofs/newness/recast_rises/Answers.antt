use Rattle.std.proofs.Common.{List, map, subst}
use Rattle.mesa_table_records.specs.mesa_record.declared.checkpoint.CheckpointSingle.{CheckpointSingle}
use Rattle.mesa_catalog_records.specs.Named.{RiseTo, recast_base_ids, told_id}
use Rattle.mesa_catalog_records.proofs.Ids.{rise_append, some_so}
use Rattle.mesa_catalog_records.proofs.newness.recast_rises.Goals as goal

pub returns : goal.returns
returns c =
    let k = c.args.told.now in
    let run = c.args.run in
    let middle = c.in_ok-last.last in
    some_so c.singles_rise.result _ _ (λ last rise.
    rise_append run c.args.above middle last (recast_base_ids k.base) (map told_id k.singles) c.in_ok-last.ensures
    (subst (λ (singles : List CheckpointSingle). RiseTo run middle (map told_id singles) last) c.as_slice.ensures rise)) c.singles_rise.ensures
