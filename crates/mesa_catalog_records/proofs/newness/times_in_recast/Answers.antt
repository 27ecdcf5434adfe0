use Rattle.std.proofs.Common.{◌∙◌, ap, sym, arith, map}
use Rattle.std.specs.Prelude.{◌==◌, count_by}
use Rattle.mesa_table_records.specs.mesa_record.declared.checkpoint.CheckpointSingle.{CheckpointSingle}
use Rattle.mesa_catalog_records.specs.Named.{recast_base_ids, told_id}
use Rattle.mesa_catalog_records.proofs.Ids.{times_append, times_mapped}
use Rattle.mesa_catalog_records.proofs.newness.times_in_recast.Goals as goal

pub returns : goal.returns
returns c =
    let k = c.args.told.now in
    let id = c.args.id in
    let split = times_append id (recast_base_ids k.base) (map told_id k.singles) in
    let singles = c.times_in_singles.ensures.count ∙ ap (count_by (λ (s : CheckpointSingle). id == s.files.file.id)) c.as_slice.ensures ∙ sym (times_mapped id told_id k.singles) in
    omega (arith, split, singles, c.times_in_base.ensures.count, c.times_in_singles.ensures.most, c.times_in_base.ensures.most)
