use Rattle.std.proofs.Common.{ℕ, ◌≤◌, List, map, subst}
use Rattle.std.specs.List.{AllByRecursion}
use Rattle.mesa_table_records.specs.mesa_record.declared.checkpoint.CheckpointSingle.{CheckpointSingle}
use Rattle.mesa_catalog_records.specs.Named.{recast_base_ids, told_id}
use Rattle.mesa_catalog_records.proofs.Ids.{all_below, all_joined}
use Rattle.mesa_catalog_records.proofs.newness.greatest_in_recast.Goals as goal

pub returns-clause-all : goal.returns-clause-all
returns-clause-all c =
    let k = c.args.told.now in
    let own = c.greatest_in_base-own.result in
    let new = c.greatest_in_singles.result in
    let P : ℕ → Type 0 = λ id. id ≤ new in
    all_joined P (recast_base_ids k.base) (map told_id k.singles) (all_below own new (recast_base_ids k.base) c.greatest_in_singles.ensures.least c.greatest_in_base-own.ensures.all)
    (subst (λ (singles : List CheckpointSingle). AllByRecursion P (map told_id singles)) c.as_slice.ensures c.greatest_in_singles.ensures.all)
