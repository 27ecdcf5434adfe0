use Rattle.std.proofs.Common.{ltb, ◌∙◌, arith, rules}
use Rattle.std.specs.Prelude.{nat_le}
use Rattle.std.proofs.lemmas.Bool.Decides.{nat_tests}
use Rattle.std.proofs.lemmas.List.Sorted.{IsPartitionPoint-from_clause, IsPartitionedBy-ltb}
use Rattle.std.proofs.lemmas.List.{take_rest}
use Rattle.mesa_pick_files.proofs.Parted.{rest_fails, version_of, versions_rise}
use Rattle.mesa_pick_files.proofs.between.from_on.Goals as goal

pub returns : goal.returns
returns c =
    let loaded = c.args.loaded.now in
    let from = c.args.from in
    let parted = IsPartitionedBy-ltb version_of loaded from (versions_rise c.requires.0 c.requires.1 loaded c.requires.2) in
    let point = IsPartitionPoint-from_clause (λ l. ltb (version_of l) from) loaded _ c.partition_point-first.ensures.partitioned parted (λ a r q k. search rules) in
    take_rest loaded c.partition_point-first.result ∙ rest_fails (λ l. ltb (version_of l) from) (λ l. nat_le from (version_of l)) (λ l is. grind (arith, nat_tests)) (λ l is. grind (arith, nat_tests)) loaded c.partition_point-first.result c.partition_point-first.ensures.bound point
