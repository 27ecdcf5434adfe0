use Rattle.std.proofs.Common.{leb, rules}
use Rattle.std.proofs.lemmas.List.Sorted.{IsPartitionPoint-from_clause, IsPartitionedBy-leb}
use Rattle.mesa_pick_files.proofs.Parted.{front_passes, version_of, versions_rise}
use Rattle.mesa_pick_files.proofs.between.up_to.Goals as goal

pub returns : goal.returns
returns c =
    let loaded = c.args.loaded.now in
    let to = c.args.to in
    let parted = IsPartitionedBy-leb version_of loaded to (versions_rise c.requires.0 c.requires.1 loaded c.requires.2) in
    let point = IsPartitionPoint-from_clause (λ l. leb (version_of l) to) loaded _ c.partition_point-count.ensures.partitioned parted (λ a r q k. search rules) in
    front_passes (λ l. leb (version_of l) to) loaded c.partition_point-count.result c.partition_point-count.ensures.bound point
