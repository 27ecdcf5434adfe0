use Rattle.std.proofs.Common.{◌+◌, ◌∙◌, ap, sym, is_ok}
use Rattle.std.specs.Prelude.{◌==◌, ◌&&◌}
use Rattle.mesa_schema.specs.Changes.{Lineage, epoch_of}
use Rattle.mesa_schema.specs.Recasts.{recast_checked, recast_lineage}
use Rattle.mesa_catalog_table.specs.mesa_store_spec.Catalog.{recast_in}
use Rattle.mesa_catalog_table.specs.mesa_store_spec.Fitting.{ranges_renewed}
use Rattle.mesa_catalog_table.specs.Meaning.{meta_of}
use Rattle.mesa_catalog_table.proofs.Tests.{both}
use Rattle.mesa_table_records.proofs.renewing.allows_recast.Goals as goal

pub tells_ranges-requires : goal.tells_ranges-requires
tells_ranges-requires c =
    let k = c.args.k.now in
    let l = c.args.t.now.evolving.value in
    let its = c.begins_next.ensures ∙ ap (λ (m : Lineage). is_ok (recast_checked m (recast_in k)) && (k.epoch == epoch_of m + 1)) c.deref.ensures in
    (both (is_ok (recast_checked l (recast_in k))) (k.epoch == epoch_of l + 1) (sym its ∙ c.if-begins_next.true)).0

pub returns-then-begins_next : goal.returns-then-begins_next
returns-then-begins_next c = λ next table.
    let k = c.args.k.now in
    let l = c.args.t.now.evolving.value in
    let its = c.begins_next.ensures ∙ ap (λ (m : Lineage). is_ok (recast_checked m (recast_in k)) && (k.epoch == epoch_of m + 1)) c.deref.ensures in
    c.tells_ranges.ensures next table ∙ ap (λ b. b && ranges_renewed (recast_lineage l (recast_in k)) (meta_of next c.args.t.now) k) (sym c.if-begins_next.true ∙ its)

pub returns-else-begins_next : goal.returns-else-begins_next
returns-else-begins_next c = λ next table.
    let k = c.args.k.now in
    let l = c.args.t.now.evolving.value in
    let its = c.begins_next.ensures ∙ ap (λ (m : Lineage). is_ok (recast_checked m (recast_in k)) && (k.epoch == epoch_of m + 1)) c.deref.ensures in
    c.if-begins_next.false ∙ ap (λ b. b && ranges_renewed (recast_lineage l (recast_in k)) (meta_of next c.args.t.now) k) (sym c.if-begins_next.false ∙ its)
