use Rattle.std.proofs.Common.{◌∙◌}
use Rattle.mesa_schema.specs.Recasts.{recast_checked, recast_lineage}
use Rattle.mesa_catalog_table.specs.mesa_store_spec.Catalog.{recast_in}
use Rattle.mesa_table_records.proofs.Renewed.{checked_is}
use Rattle.mesa_catalog_table.proofs.Tests.{if_ok}
use Rattle.mesa_table_records.proofs.recasting.renew.Goals as goal

pub renewed-requires : goal.renewed-requires
renewed-requires c =
    let l = c.args.evolving.now in
    (λ i. recast_checked l (record { keys = c.in_ok-keys.ensures i; values = c.in_ok-values.ensures i })) ∙ checked_is l (recast_in c.args.k.now) c.requires

pub returns : goal.returns
returns c = if_ok c.renewed.result _ _ (λ e is. is ∙ (λ i. recast_lineage c.args.evolving.now (record { keys = c.in_ok-keys.ensures i; values = c.in_ok-values.ensures i }))) c.renewed.ensures
