use Rattle.std.proofs.Common.{◌∙◌, ap, sym, subst, arith, length}
use Rattle.std.proofs.lemmas.Bool.Decides.{nat_tests}
use Rattle.mesa_catalog_records.specs.mesa_store_spec.Catalog.{meta_at}
use Rattle.mesa_catalog_records.specs.mesa_catalog_table.Meaning.{IsTable, meta_of}
use Rattle.mesa_catalog.specs.Kept.{Reserved}
use Rattle.mesa_catalog.proofs.catalog.Catalog.table.Goals as goal

pub table-requires-clause-there : goal.table-requires-clause-there
table-requires-clause-there c = let count = ap (λ (k : Reserved). length k.catalogue.tables) c.self.view_is in grind (arith, nat_tests)

pub returns-clause-meta : goal.returns-clause-meta
returns-clause-meta c =
    let next = ap (λ (k : Reserved). k.catalogue.next) c.self.view_is in
    ap (λ n. meta_of n c.table.result.now) (sym next) ∙ sym c.table.ensures.meta ∙ ap (λ (k : Reserved). meta_at k.catalogue c.args.table) c.self.view_is

pub returns-clause-held : goal.returns-clause-held
returns-clause-held c = subst (λ n. IsTable n c.table.result.now) (ap (λ (k : Reserved). k.catalogue.next) c.self.view_is) c.table.ensures.table

pub returns-clause-few : goal.returns-clause-few
returns-clause-few c =
    let next = ap (λ (k : Reserved). k.catalogue.next) c.self.view_is in
    let most = c.self.invariant.catalog_tables.most in
    omega arith
