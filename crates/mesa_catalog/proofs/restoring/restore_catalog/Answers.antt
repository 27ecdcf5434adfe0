use Rattle.std.proofs.Common.{ℕ, ◌∙◌, ◌≤◌, refl, ap, subst, sym}
use Rattle.std.specs.Prelude.{is_some, IfSome}
use Rattle.std.specs.List.{AllByRecursion}
use Rattle.mesa_catalog_records.specs.mesa_store_spec.Ids.{named}
use Rattle.mesa_catalog_records.specs.declared.catalog_tables.CatalogTables.{CatalogTables}
use Rattle.mesa_catalog_records.specs.Meaning.{catalogue_of}
use Rattle.mesa_catalog.proofs.Restored.{AreRestored, kept_restored, catalog_tables_restored}
use Rattle.mesa_catalog.proofs.restoring.restore_catalog.Goals as goal

pub invariant_of-result : goal.invariant_of-result
invariant_of-result c =
    let k = c.args.checkpoint in
    let s : CatalogTables = record { tables = c.in_ok-tables.tables; floor = k.floor; next = k.versions; run = k.run } in
    let made : AreRestored k s = record { floor = refl; next = refl; run = refl; metas = c.in_ok-tables.ensures.metas; tables = c.in_ok-tables.ensures.tables } in
    let most = subst (λ o. IfSome o (λ (most : ℕ). AllByRecursion (λ id. id ≤ most) (named (catalogue_of s)))) c.in-Some.is c.in_ok-greatest.ensures.most in
    kept_restored s c.in-Some.greatest (catalog_tables_restored k s c.requires made) (sym c.in_ok-greatest.ensures.fits ∙ ap is_some c.in-Some.is) most
