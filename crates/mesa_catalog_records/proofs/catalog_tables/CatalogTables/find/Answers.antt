use Rattle.std.proofs.Common.{◌∙◌, ap, sym, map, ◌+◌, drop}
use Rattle.std.specs.Option.{option_or}
use Rattle.mesa_catalog_records.specs.Names.{relation_from}
use Rattle.mesa_table_records.specs.mesa_catalog_table.Meaning.{meta_of}
use Rattle.mesa_catalog_records.proofs.Relations.{relation_end, relation_step}
use Rattle.mesa_catalog_records.proofs.catalog_tables.CatalogTables.find.Goals as goal

pub loop-number-init : goal.loop-number-init
loop-number-init c = ap (λ tables. relation_from 0 c.args.name.now (map (meta_of c.args.self.now.next) tables)) c.deref-table-items.ensures.value

pub returns-in-Some : goal.returns-in-Some
returns-in-Some c =
    let next = c.args.self.now.next in
    let tables = c.deref-table-items.result.now in
    let number = c.loop-number.number in
    let later = relation_from (number + 1) c.args.name.now (map (meta_of next) (drop (number + 1) tables)) in
    sym (ap (λ o. option_or o later) (sym (c.relation.ensures next) ∙ c.in-Some.is))
    ∙ sym (relation_step next number c.args.name.now tables c.table-item.result c.loop-number-test.true c.table-item.is) ∙ c.loop-number.invariant

pub loop-number-preserved : goal.loop-number-preserved
loop-number-preserved c =
    let next = c.args.self.now.next in
    let tables = c.deref-table-items.result.now in
    let number = c.loop-number.number in
    let later = relation_from (number + 1) c.args.name.now (map (meta_of next) (drop (number + 1) tables)) in
    sym (ap (λ o. option_or o later) (sym (c.relation.ensures next) ∙ c.in_default.is))
    ∙ sym (relation_step next number c.args.name.now tables c.table-item.result c.loop-number-test.true c.table-item.is) ∙ c.loop-number.invariant

pub returns : goal.returns
returns c = sym (relation_end c.args.self.now.next c.loop-number.number c.args.name.now c.deref-table-items.result.now c.loop-number-test.false) ∙ c.loop-number.invariant
