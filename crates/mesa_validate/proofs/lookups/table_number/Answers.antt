use Rattle.std.proofs.Common.{◌∙◌, ap, sym, map, arith, []}
use Rattle.std.proofs.Math.ListN.{get_or-map}
use Rattle.std.proofs.lemmas.Iterator.Adapters.{position_from-zero}
use Rattle.std.proofs.lemmas.List.{length-map}
use Rattle.mesa_list.specs.Bytes.{same_bytes}
use Rattle.mesa_catalog.specs.mesa_store_spec.Catalog.{TableMeta, no_meta}
use Rattle.mesa_catalog.proofs.mesa_catalog_table.Places.{place_here, place_later, place_nowhere}
use Rattle.mesa_validate.proofs.lookups.table_number.Goals as goal

pub loop-table-init : goal.loop-table-init
loop-table-init c = sym (position_from-zero (same_bytes c.args.name.now) (map (λ (t : TableMeta). t.name) c.args.catalog.now.catalogue.tables))

pub returns-then-eq-clause-found : goal.returns-then-eq-clause-found
returns-then-eq-clause-found c =
    let tables = c.args.catalog.now.catalogue.tables in
    let names = map (λ (t : TableMeta). t.name) tables in
    let count = length-map tables (λ (t : TableMeta). t.name) in
    let here = get_or-map (λ (t : TableMeta). t.name) tables c.loop-table.table no_meta ∙ sym c.name.ensures ∙ sym c.bytes.ensures.same in
    let test = ap (same_bytes c.args.name.now) here ∙ sym c.eq.ensures ∙ c.if-eq.true in
    sym (place_here (same_bytes c.args.name.now) names c.loop-table.table [] (omega arith) test) ∙ c.loop-table.invariant

pub loop-table-preserved : goal.loop-table-preserved
loop-table-preserved c =
    let tables = c.args.catalog.now.catalogue.tables in
    let names = map (λ (t : TableMeta). t.name) tables in
    let count = length-map tables (λ (t : TableMeta). t.name) in
    let here = get_or-map (λ (t : TableMeta). t.name) tables c.loop-table.table no_meta ∙ sym c.name.ensures ∙ sym c.bytes.ensures.same in
    let test = ap (same_bytes c.args.name.now) here ∙ sym c.eq.ensures ∙ c.if-eq.false in
    sym (place_later (same_bytes c.args.name.now) names c.loop-table.table [] (omega arith) test) ∙ c.loop-table.invariant

pub returns-clause-found : goal.returns-clause-found
returns-clause-found c =
    let tables = c.args.catalog.now.catalogue.tables in
    let names = map (λ (t : TableMeta). t.name) tables in
    let count = length-map tables (λ (t : TableMeta). t.name) in
    sym (place_nowhere (same_bytes c.args.name.now) names c.loop-table.table (omega arith)) ∙ c.loop-table.invariant
