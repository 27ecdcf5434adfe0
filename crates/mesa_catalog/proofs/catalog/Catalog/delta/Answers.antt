use Rattle.std.proofs.Common.{◌∙◌, ap, sym, subst}
use Rattle.mesa_catalog_records.specs.mesa_store_spec.Catalog.{TableMeta}
use Rattle.mesa_catalog_records.specs.mesa_catalog_table.Meaning.{IsTable, meta_of}
use Rattle.mesa_catalog_records.specs.mesa_catalog_table.Ranged.{delta_at}
use Rattle.mesa_catalog.specs.Kept.{Reserved}
use Rattle.mesa_catalog.proofs.catalog.Catalog.delta.Goals as goal

pub delta-requires : goal.delta-requires
delta-requires c = subst (λ n. IsTable n c.table.result.now) (sym (ap (λ (k : Reserved). k.catalogue.next) c.self.view_is)) c.table.ensures.held

pub returns : goal.returns
returns c =
    let next = ap (λ (k : Reserved). k.catalogue.next) c.self.view_is in
    c.delta.ensures
    ∙ ap (λ n. delta_at (meta_of n c.table.result.now) c.args.from c.args.to) next
    ∙ ap (λ (t : TableMeta). delta_at t c.args.from c.args.to) c.table.ensures.meta
