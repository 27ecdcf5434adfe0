use Rattle.std.proofs.Common.{◌≡◌, ◌≤◌, ◌∙◌, ap, sym, subst, arith, length, map}
use Rattle.std.specs.Prelude.{None}
use Rattle.std.specs.List.{AllByRecursion}
use Rattle.std.proofs.lemmas.List.{length-map}
use Rattle.mesa_catalog_records.specs.mesa_store_spec.Catalog.{Catalog}
use Rattle.mesa_catalog_records.specs.mesa_store_spec.Ids.{named, times}
use Rattle.mesa_catalog_records.specs.mesa_catalog_table.Meaning.{IsTable, meta_of}
use Rattle.mesa_catalog_records.specs.declared.catalog_tables.CatalogTables.{CatalogTables}
use Rattle.mesa_catalog.specs.Kept.{Reserved}
use Rattle.mesa_catalog_records.specs.Meaning.{catalogue_of}
use Rattle.mesa_catalog.proofs.catalog.Catalog.copy.Goals as goal

pub invariant_of-copy : goal.invariant_of-copy
invariant_of-copy c =
    let s = c.self.inside.catalog_tables in
    let kept = c.self.invariant in
    let new : CatalogTables = record { tables = c.in_ok-tables.tables; floor = s.floor; next = s.next; run = s.run } in
    let tables = c.in_ok-tables.ensures.same s.next ∙ ap (map (meta_of s.next)) c.deref.ensures.value in
    let same : catalogue_of new ≡ catalogue_of s = (λ i. record { tables = tables i; floor = s.floor; next = s.next; run = s.run }) in
    let count : length new.tables.items ≡ length s.tables.items = sym (length-map new.tables.items (meta_of s.next)) ∙ ap length tables ∙ length-map s.tables.items (meta_of s.next) in
    let few = kept.catalog_tables.few in
    record {
      catalog_tables = record {
        few = omega (arith, few, count);
        most = kept.catalog_tables.most;
        floor = kept.catalog_tables.floor;
        tables = c.in_ok-tables.ensures.tables s.next (subst (AllByRecursion (IsTable s.next)) (sym c.deref.ensures.value) kept.catalog_tables.tables);
      };
      ready = tt;
      once = λ id. subst (λ (k : Catalog). times id (named k) ≤ 1) (sym same) (kept.once id);
      most = subst (λ (k : Catalog). AllByRecursion (λ id. id ≤ c.self.inside.greatest) (named k)) (sym same) kept.most;
    }

pub returns : goal.returns
returns c =
    let s = c.self.inside.catalog_tables in
    let tables = c.in_ok-tables.ensures.same s.next ∙ ap (map (meta_of s.next)) c.deref.ensures.value in
    let same = (λ i. record { tables = tables i; floor = s.floor; next = s.next; run = s.run }) ∙ ap (λ (k : Reserved). k.catalogue) c.self.view_is in
    λ i. record { catalogue = same i; reserved = None }
