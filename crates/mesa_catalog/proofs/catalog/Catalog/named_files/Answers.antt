use Rattle.std.proofs.Common.{◌++◌, ◌∙◌, ap, sym, subst, arith}
use Rattle.std.specs.Prelude.{flat_map}
use Rattle.std.specs.List.{AllByRecursion}
use Rattle.mesa_catalog_records.specs.mesa_store_spec.Ids.{named}
use Rattle.mesa_catalog_records.specs.mesa_catalog_table.Meaning.{IsTable}
use Rattle.mesa_catalog_records.specs.mesa_catalog_table.Named.{table_ids}
use Rattle.mesa_catalog.specs.Kept.{Reserved}
use Rattle.mesa_catalog_records.proofs.Ids.{named_held}
use Rattle.mesa_catalog.proofs.catalog.Catalog.named_files.Goals as goal

pub push_ids-requires : goal.push_ids-requires
push_ids-requires c =
    let s = c.self.inside.catalog_tables in
    let few = c.self.invariant.catalog_tables.most in
    (s.next, omega (arith, few), subst (AllByRecursion (IsTable s.next)) (sym c.deref.ensures.value) c.self.invariant.catalog_tables.tables)

pub returns : goal.returns
returns c =
    let s = c.self.inside.catalog_tables in
    c.in_ok-push_ids.ensures ∙ (λ i. c.new-ids.ensures.items i ++ flat_map table_ids (c.deref.ensures.value i)) ∙ sym (named_held s) ∙ ap (λ (k : Reserved). named k.catalogue) c.self.view_is
