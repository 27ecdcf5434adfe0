use Rattle.std.proofs.Common.{◌∙◌, ◌-◌, ap, sym}
use Rattle.mesa_engine.specs.mesa_store_spec.Catalog.{start_in}
use Rattle.mesa_read_turns.proofs.mesa_pick_files.Ranging.{start_held}
use Rattle.mesa_work_turns.proofs.recast_claiming.singletons.Goals as goal

pub returns : goal.returns
returns c =
    let next = c.args.catalog.now.catalogue.next in
    let start = c.start.ensures.start ∙ sym (start_held next c.table.result.now) ∙ ap start_in c.table.ensures.meta in
    c.saturating_sub.ensures ∙ (λ i. c.versions.ensures i - start i)
