use Rattle.std.proofs.Common.{◌∙◌, ◌≡◌, ap, sym, map, false}
use Rattle.mesa_list.specs.Bytes.{same_bytes}
use Rattle.mesa_batch.specs.Numbers.{known_of}
use Rattle.mesa_oracle_tables.proofs.Items.{map_there, read_there}
use Rattle.mesa_oracle_tables.proofs.Relations.{not_here, view_of_table}
use Rattle.mesa_oracle_tables.proofs.names.relation_place.Goals as goal

pub returns-in-Some-clause-found : goal.returns-in-Some-clause-found
returns-in-Some-clause-found c =
    let table = c.index-tables-number.result in
    let name = c.args.name.now in
    let there = map_there known_of c.args.tables.now c.tables.number table c.tables-test.true c.index-tables-number.is in
    let other : same_bytes name table.name ≡ false = sym (c.if-eq.ensures ∙ ap (same_bytes name) c.bytes.ensures.same) in
    let within = rw c.deref.ensures at c.in-Some.ensures.within in
    let place = rw c.deref.ensures at c.in-Some.ensures.place in
    view_of_table name (map known_of c.args.tables.now) c.tables.number (known_of table) c.in-Some.view there other within place c.tables.invariant

pub returns-in-Some-clause-view_within : goal.returns-in-Some-clause-view_within
returns-in-Some-clause-view_within c = rw (read_there c.args.tables.now c.tables.number c.index-tables-number.result c.tables-test.true c.index-tables-number.is) (rw c.deref.ensures at c.in-Some.ensures.within)

pub tables-preserved : goal.tables-preserved
tables-preserved c =
    let table = c.index-tables-number.result in
    let name = c.args.name.now in
    let there = map_there known_of c.args.tables.now c.tables.number table c.tables-test.true c.index-tables-number.is in
    let other : same_bytes name table.name ≡ false = sym (c.if-eq.ensures ∙ ap (same_bytes name) c.bytes.ensures.same) in
    not_here name (map known_of c.args.tables.now) c.tables.number (known_of table) there other (sym (rw c.deref.ensures at c.in_default.ensures.place)) c.tables.invariant
