use Rattle.std.proofs.Common.{◌∙◌, ap, sym}
use Rattle.mesa_schema.specs.mesa_columns.Columns.{place_of}
use Rattle.mesa_schema.specs.Changes.{columns_of}
use Rattle.mesa_batch.specs.Glance.{names_in}
use Rattle.mesa_batch.specs.Batch.{row_of}
use Rattle.mesa_batch.proofs.ReadWords.{columns_found, read_bad_row, read_no_table, read_row_of}
use Rattle.mesa_batch.proofs.builder.read_words.Goals as goal

pub returns-in_default-clause-refused : goal.returns-in_default-clause-refused
returns-in_default-clause-refused c = λ _.
    read_no_table c.args.glance.now c.args.number c.args.words.now (ap (λ name. place_of name (names_in c.args.glance.now)) (sym c.table.ensures) ∙ sym c.find.ensures.place ∙ c.in_default.is)

pub returns-in-Ok-clause-read : goal.returns-in-Ok-clause-read
returns-in-Ok-clause-read c =
    let at = ap (λ name. place_of name (names_in c.args.glance.now)) (sym c.table.ensures) ∙ sym c.find.ensures.place ∙ c.in-Some.is in
    let columns = columns_found c.args.glance.now c.in-Some.table c.evolving.result.now.value c.in-Some.ensures.there c.evolving.ensures in
    read_row_of c.args.glance.now c.args.number c.args.words.now c.in-Some.table (record { key = c.read_row.new.row.key.items; values = c.read_row.new.row.values.items }) c.present-schema.result.now
    at (columns ∙ ap columns_of (sym c.deref.ensures) ∙ sym c.present-schema.ensures.columns) (ap (row_of c.present-schema.result.now) (sym c.fields.ensures) ∙ c.in-Ok.ensures.read)

pub returns-in-Err-Bad-clause-refused : goal.returns-in-Err-Bad-clause-refused
returns-in-Err-Bad-clause-refused c = λ _.
    let at = ap (λ name. place_of name (names_in c.args.glance.now)) (sym c.table.ensures) ∙ sym c.find.ensures.place ∙ c.in-Some.is in
    let columns = columns_found c.args.glance.now c.in-Some.table c.evolving.result.now.value c.in-Some.ensures.there c.evolving.ensures in
    let bad = rw c.in-Err-Bad.field-0-is at c.in-Err-Bad.ensures.refused in
    read_bad_row c.args.glance.now c.args.number c.args.words.now c.in-Some.table c.in-Err-Bad.column c.present-schema.result.now
    at (columns ∙ ap columns_of (sym c.deref.ensures) ∙ sym c.present-schema.ensures.columns) (ap (row_of c.present-schema.result.now) (sym c.fields.ensures) ∙ bad)
