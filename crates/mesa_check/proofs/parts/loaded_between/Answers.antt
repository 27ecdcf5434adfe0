use Rattle.std.proofs.Common.{leb, rules, ◌++◌, ◌∙◌, ap, drop, sym, take}
use Rattle.std.proofs.lemmas.List.{take-append-drop, take_rest}
use Rattle.std.proofs.lemmas.List.Sorted.{IsPartitionPoint-from_clause, IsPartitionedBy-leb}
use Rattle.mesa_catalog_table.specs.Named.{through}
use Rattle.mesa_pick_files.proofs.Parted.{front_passes, version_of, versions_rise}
use Rattle.mesa_check.proofs.Behind.{loaded_taken, through_twice}
use Rattle.mesa_check.proofs.parts.loaded_between.Goals as goal

pub returns : goal.returns
returns c =
    let loaded = c.args.loaded.now in
    let end = c.args.end in
    let to = c.args.to in
    let start = c.requires.loaded.0 in
    let next = c.requires.loaded.1 in
    let are = c.requires.loaded.2 in
    let count = c.partition_point-count.result in
    let within = take count loaded in
    let first = c.partition_point-first.result in
    let point = IsPartitionPoint-from_clause (λ l. leb (version_of l) to) loaded _ c.partition_point-count.ensures.partitioned (IsPartitionedBy-leb version_of loaded to (versions_rise start next loaded are)) (λ a r q k. search rules) in
    let up = front_passes (λ l. leb (version_of l) to) loaded count c.partition_point-count.ensures.bound point in
    let cut = IsPartitionPoint-from_clause (λ l. leb (version_of l) end) within _ c.partition_point-first.ensures.partitioned (IsPartitionedBy-leb version_of within end (versions_rise start next within (loaded_taken count start next loaded are))) (λ a r q k. search rules) in
    let front = front_passes (λ l. leb (version_of l) end) within first c.partition_point-first.ensures.bound cut in
    ap (λ ls. through end loaded ++ ls) (take_rest within first)
    ∙ ap (λ ls. ls ++ drop first within) (sym (front ∙ ap (through end) up ∙ through_twice end to loaded c.requires.order))
    ∙ take-append-drop first within ∙ up
