use Rattle.std.proofs.Common.{◌-◌, ◌+◌, arith}
use Rattle.std.proofs.lemmas.Result.{err_from_is_err_and}
use Rattle.mesa_record_fields.proofs.Series.{ends, goes_on, is_done}
use Rattle.mesa_record_fields.proofs.numbered.read_rising.Goals as goal

pub returns-in_err-field : goal.returns-in_err-field
returns-in_err-field g c =
    let p = err_from_is_err_and c.from_residual.result c.from_residual.ensures.1 in
    rw (p.1, p.2)
    (ends g.T.Numbered.number_of (g.T.Numbered.read_at c.args.edition) c.loop.least (c.args.count - c.loop.counter) (c.args.count - (c.loop.counter + 1)) c.loop.fields c.in_err-field.field-0.0 c.loop.cursor _ (omega (arith, c.loop-test.true)) c.in_err-field.ensures c.loop.invariant)

pub loop-preserved : goal.loop-preserved
loop-preserved g c =
    rw (c.in_ok-push.ensures.ok, c.number.ensures)
    (goes_on g.T.Numbered.number_of (g.T.Numbered.read_at c.args.edition) c.loop.least (c.args.count - c.loop.counter) (c.args.count - (c.loop.counter + 1)) c.loop.fields c.in_ok-field.field c.loop.cursor c.read.new.cursor _ (omega (arith, c.loop-test.true)) c.in_ok-field.ensures c.loop.invariant)

pub returns : goal.returns
returns g c = is_done g.T.Numbered.number_of (g.T.Numbered.read_at c.args.edition) c.loop.least (c.args.count - c.loop.counter) c.loop.fields c.loop.cursor _ (omega (arith, c.loop-test.false)) c.loop.invariant
