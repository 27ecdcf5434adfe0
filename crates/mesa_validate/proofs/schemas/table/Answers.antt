use Rattle.std.proofs.Common.{◌≡◌, ◌≤◌, ◌<◌, ◌∙◌, ap, sym, true, false, length, arith, rules}
use Rattle.std.specs.Prelude.{is_some}
use Rattle.std.proofs.lemmas.Result.{err_from_is_err_and}
use Rattle.mesa_catalog.specs.mesa_columns.Names.{is_name}
use Rattle.mesa_record.specs.declared.record.Record.TheVariants as record_of
use Rattle.mesa_model.specs.declared.replies.Reply.TheVariants as reply
use Rattle.mesa_model.specs.Warehouse.{max_tables}
use Rattle.mesa_catalog.specs.mesa_catalog_records.Names.{relation_of}
use Rattle.mesa_validate.proofs.Doing.{bad_table, full_table, ruled_table, taken_table}
use Rattle.mesa_validate.proofs.schemas.table.Goals as goal

pub returns-then-is_some-clause-refused : goal.returns-then-is_some-clause-refused
returns-then-is_some-clause-refused c =
    let words = c.args.words.now in
    let cat = c.args.catalog.now.catalogue in
    let named = ap is_name (sym c.as_slice.ensures) ∙ c.in_ok-name.ensures.named in
    let name = c.in_ok-name.ensures.read ∙ c.as_slice.ensures in
    let there : c.is_some.result ≡ true = search rules in
    let taken : is_some (relation_of cat words.table) ≡ true = ap (λ n. is_some (relation_of cat n)) (sym name) ∙ sym (c.is_some.ensures ∙ ap is_some c.find.ensures) ∙ there in
    taken_table cat words named taken

pub returns-in_err-schema-clause-refused : goal.returns-in_err-schema-clause-refused
returns-in_err-schema-clause-refused c =
    let p = err_from_is_err_and c.from_residual-in_err-schema.result c.from_residual-in_err-schema.ensures.1 in
    let words = c.args.words.now in
    let cat = c.args.catalog.now.catalogue in
    let named = ap is_name (sym c.as_slice.ensures) ∙ c.in_ok-name.ensures.named in
    let name = c.in_ok-name.ensures.read ∙ c.as_slice.ensures in
    let there : c.is_some.result ≡ false = search rules in
    let free : is_some (relation_of cat words.table) ≡ false = ap (λ n. is_some (relation_of cat n)) (sym name) ∙ sym (c.is_some.ensures ∙ ap is_some c.find.ensures) ∙ there in
    rw (p.1, p.2) (bad_table cat words named free c.in_err-schema.field-0.0 c.in_err-schema.ensures.refused)

pub returns-then-tables-ge-MAX_TABLES-clause-refused : goal.returns-then-tables-ge-MAX_TABLES-clause-refused
returns-then-tables-ge-MAX_TABLES-clause-refused c =
    let words = c.args.words.now in
    let cat = c.args.catalog.now.catalogue in
    let named = ap is_name (sym c.as_slice.ensures) ∙ c.in_ok-name.ensures.named in
    let name = c.in_ok-name.ensures.read ∙ c.as_slice.ensures in
    let there : c.is_some.result ≡ false = search rules in
    let free : is_some (relation_of cat words.table) ≡ false = ap (λ n. is_some (relation_of cat n)) (sym name) ∙ sym (c.is_some.ensures ∙ ap is_some c.find.ensures) ∙ there in
    let full : max_tables ≤ length cat.tables = omega (arith, c.tables.ensures, c.if-tables-ge-MAX_TABLES.true) in
    full_table cat words named free c.in_ok-schema.ensures.checked full

pub returns-clause-ruled : goal.returns-clause-ruled
returns-clause-ruled c =
    let words = c.args.words.now in
    let cat = c.args.catalog.now.catalogue in
    let named = ap is_name (sym c.as_slice.ensures) ∙ c.in_ok-name.ensures.named in
    let name = c.in_ok-name.ensures.read ∙ c.as_slice.ensures in
    let there : c.is_some.result ≡ false = search rules in
    let free : is_some (relation_of cat words.table) ≡ false = ap (λ n. is_some (relation_of cat n)) (sym name) ∙ sym (c.is_some.ensures ∙ ap is_some c.find.ensures) ∙ there in
    let room : length cat.tables < max_tables = omega (arith, c.tables.ensures, c.if-tables-ge-MAX_TABLES.false) in
    let schema = c.in_ok-schema.ensures.asked in
    let written = c.in_ok-table_made.ensures.written ∙ (λ j. record_of.Table (name j) (schema j).keys (schema j).values) in
    ruled_table cat words named free c.in_ok-schema.ensures.checked _ room written (c.in_ok-table_made.ensures.told ∙ ap reply.Table name)
