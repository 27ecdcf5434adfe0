use Rattle.std.proofs.Common.{◌≡◌, ℕ, ◌∙◌, ap, sym, arith, Bool, true, false}
use Rattle.std.specs.Prelude.{◌==◌}
use Rattle.std.specs.List.{list_any}
use Rattle.std.proofs.lemmas.Bool.Decides.{nat_tests}
use Rattle.mesa_table_records.specs.mesa_store_spec.Fitting.{has_number, run_of_id}
use Rattle.mesa_table_records.specs.mesa_catalog_table.declared.table.Table.{Table}
use Rattle.mesa_table_records.specs.mesa_catalog_table.Named.{table_ids}
use Rattle.mesa_catalog_records.specs.Named.{held_ids, ids_brought}
use Rattle.mesa_catalog_records.proofs.Ids.{any-flat_map, free_is_new, taken_not_new}
use Rattle.mesa_catalog_records.proofs.newness.is_new.Goals as goal

pub returns-then-tables_name : goal.returns-then-tables_name
returns-then-tables_name c =
    let s = c.args.catalog_tables.now in
    let id = c.args.id in
    let same : ℕ → Bool = λ n. id == n in
    let test : Table → Bool = λ t. has_number id (table_ids t) in
    let has : has_number id (held_ids s) ≡ true = any-flat_map same table_ids s.tables.items ∙ ap (list_any test) (sym c.deref.ensures.value) ∙ sym c.tables_name.ensures ∙ c.if-tables_name.true in
    taken_not_new s.run (held_ids s) (ids_brought c.args.r.now) id has

pub returns : goal.returns
returns c =
    let s = c.args.catalog_tables.now in
    let id = c.args.id in
    let same : ℕ → Bool = λ n. id == n in
    let test : Table → Bool = λ t. has_number id (table_ids t) in
    let free : has_number id (held_ids s) ≡ false = any-flat_map same table_ids s.tables.items ∙ ap (list_any test) (sym c.deref.ensures.value) ∙ sym c.tables_name.ensures ∙ c.if-tables_name.false in
    let own : (run_of_id id == s.run) ≡ true = grind (arith, nat_tests) in
    free_is_new s.run (held_ids s) (ids_brought c.args.r.now) id c.times_in_record.result own free c.times_in_record.ensures
