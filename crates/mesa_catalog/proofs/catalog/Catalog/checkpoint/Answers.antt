use Rattle.std.proofs.Common.{◌∙◌, ap, map, sym, subst, arith}
use Rattle.std.specs.List.{AllByRecursion}
use Rattle.mesa_catalog_records.specs.mesa_record.declared.record.Record.TheVariants as record_of
use Rattle.mesa_catalog_records.specs.mesa_store_spec.Checkpoint.{stating_table}
use Rattle.mesa_catalog_records.specs.mesa_catalog_table.Meaning.{IsTable, meta_of}
use Rattle.mesa_catalog.specs.Kept.{Reserved}
use Rattle.mesa_catalog.proofs.catalog.Catalog.checkpoint.Goals as goal

pub state_tables-requires : goal.state_tables-requires
state_tables-requires c =
    let s = c.self.inside.catalog_tables in
    let most = c.self.invariant.catalog_tables.most in
    (s.next, omega (arith, most), subst (AllByRecursion (IsTable s.next)) (sym c.deref.ensures.value) c.self.invariant.catalog_tables.tables)

pub returns : goal.returns
returns c =
    let s = c.self.inside.catalog_tables in
    let held = subst (AllByRecursion (IsTable s.next)) (sym c.deref.ensures.value) c.self.invariant.catalog_tables.tables in
    let tables = c.from_vec.ensures ∙ c.in_ok-tables.ensures s.next held ∙ ap (λ ts. map stating_table (map (meta_of s.next) ts)) c.deref.ensures.value ∙ ap (λ (k : Reserved). map stating_table k.catalogue.tables) c.self.view_is in
    let floor = ap (λ (k : Reserved). k.catalogue.floor) c.self.view_is in
    let next = ap (λ (k : Reserved). k.catalogue.next) c.self.view_is in
    λ i. record_of.Checkpoint (record { number = c.args.number; run = c.args.run; floor = floor i; versions = next i; tables = tables i })
