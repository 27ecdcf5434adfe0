use Rattle.std.proofs.Common.{◌≡◌, drop, length}
use Rattle.std.proofs.lemmas.Result.{err_from_is_err_and}
use Rattle.mesa_batch.proofs.Fields.{others, row_key_refused, row_values_refused, row_read}
use Rattle.mesa_batch.proofs.reading.read_row.Goals as goal

pub returns-in_err-read_key-clause-refused : goal.returns-in_err-read_key-clause-refused
returns-in_err-read_key-clause-refused c =
    let p = err_from_is_err_and c.from_residual.result c.from_residual.ensures.1 in
    let refused = rw c.keys-columns.ensures.same at c.in_err-read_key.ensures.refused in
    rw (p.1, p.2) (row_key_refused c.args.schema.now c.args.fields.now c.in_err-read_key.field-0.0 refused)

pub returns-in_err-read_values-clause-refused : goal.returns-in_err-read_values-clause-refused
returns-in_err-read_values-clause-refused c =
    let p = err_from_is_err_and c.from_residual-in_err-read_values.result c.from_residual-in_err-read_values.ensures.1 in
    let key = rw c.keys-columns.ensures.same at c.in_ok-read_key.ensures.read in
    let rest : c.range-rest.result ≡ drop (length c.args.schema.now.keys) c.args.fields.now =
    rw (c.range-rest.ensures, c.len.ensures, c.keys-columns.ensures.same) (others (length c.args.schema.now.keys) c.args.fields.now) in
    let refused = rw (c.keys-columns.ensures.same, c.values.ensures.same, rest) at c.in_err-read_values.ensures.refused in
    rw (p.1, p.2) (row_values_refused c.args.schema.now c.args.fields.now c.read_key.new.bytes.items c.in_err-read_values.field-0.0 key refused)

pub returns-clause-read : goal.returns-clause-read
returns-clause-read c =
    let key = rw c.keys-columns.ensures.same at c.in_ok-read_key.ensures.read in
    let rest : c.range-rest.result ≡ drop (length c.args.schema.now.keys) c.args.fields.now =
    rw (c.range-rest.ensures, c.len.ensures, c.keys-columns.ensures.same) (others (length c.args.schema.now.keys) c.args.fields.now) in
    let read = rw (c.keys-columns.ensures.same, c.values.ensures.same, rest) at c.in_ok-read_values.ensures.read in
    row_read c.args.schema.now c.args.fields.now c.read_key.new.bytes.items c.read_values.new.values.items key read
