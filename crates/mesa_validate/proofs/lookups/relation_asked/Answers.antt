use Rattle.std.proofs.Common.{◌∙◌, ap, sym, arith}
use Rattle.mesa_list.specs.Bytes.{same_bytes}
use Rattle.mesa_catalog.specs.mesa_catalog_table.Lookups.{view_names}
use Rattle.mesa_catalog.specs.mesa_columns.Columns.{place_of}
use Rattle.mesa_validate.proofs.Finding.{found_nowhere, found_table, found_view, found_later}
use Rattle.mesa_validate.proofs.lookups.relation_asked.Goals as goal

pub returns-then-eq-clause-found : goal.returns-then-eq-clause-found
returns-then-eq-clause-found c =
    let here = sym c.name.ensures ∙ sym c.bytes.ensures.same in
    let test = ap (same_bytes c.args.name.now) here ∙ sym c.eq.ensures ∙ c.if-eq.true in
    sym (found_table c.args.catalog.now.catalogue c.args.name.now c.loop-table.table (omega arith) test) ∙ c.loop-table.invariant

pub returns-in-Some-clause-found : goal.returns-in-Some-clause-found
returns-in-Some-clause-found c =
    let here = sym c.name.ensures ∙ sym c.bytes.ensures.same in
    let test = ap (same_bytes c.args.name.now) here ∙ sym c.eq.ensures ∙ c.if-eq.false in
    let view = ap (λ l. place_of c.args.name.now (view_names l)) (sym (c.deref.ensures ∙ c.evolving.ensures)) ∙ sym c.view_place.ensures.found ∙ c.in-Some.is in
    sym (found_view c.args.catalog.now.catalogue c.args.name.now c.loop-table.table (omega arith) test c.in-Some.view view) ∙ c.loop-table.invariant

pub loop-table-preserved : goal.loop-table-preserved
loop-table-preserved c =
    let here = sym c.name.ensures ∙ sym c.bytes.ensures.same in
    let test = ap (same_bytes c.args.name.now) here ∙ sym c.eq.ensures ∙ c.if-eq.false in
    let view = ap (λ l. place_of c.args.name.now (view_names l)) (sym (c.deref.ensures ∙ c.evolving.ensures)) ∙ sym c.view_place.ensures.found ∙ c.in_default.is in
    sym (found_later c.args.catalog.now.catalogue c.args.name.now c.loop-table.table (omega arith) test view) ∙ c.loop-table.invariant

pub returns-clause-found : goal.returns-clause-found
returns-clause-found c = sym (found_nowhere c.args.catalog.now.catalogue c.args.name.now c.loop-table.table (omega arith)) ∙ c.loop-table.invariant
