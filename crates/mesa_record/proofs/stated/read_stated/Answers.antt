use Rattle.std.proofs.Common.{◌-◌, ◌+◌, arith}
use Rattle.std.proofs.lemmas.Result.{err_from_is_err_and}
use Rattle.mesa_record_fields.proofs.Series.{ends, goes_on, is_done}
use Rattle.mesa_record.proofs.stated.read_stated.Goals as goal

pub returns-in_err-read : goal.returns-in_err-read
returns-in_err-read g c =
    let p = err_from_is_err_and c.from_residual.result c.from_residual.ensures.1 in
    rw (p.1, p.2)
    (ends (λ x. 0) (λ least. g.T.Stated.read_at c.args.edition c.args.floor) 1 (c.args.count - c.loop.counter) (c.args.count - (c.loop.counter + 1)) c.loop.fields c.in_err-read.field-0.0 c.loop.cursor _ (omega (arith, c.loop-test.true)) c.in_err-read.ensures c.loop.invariant)

pub loop-preserved : goal.loop-preserved
loop-preserved g c =
    rw c.in_ok-push.ensures.ok
    (goes_on (λ x. 0) (λ least. g.T.Stated.read_at c.args.edition c.args.floor) 1 (c.args.count - c.loop.counter) (c.args.count - (c.loop.counter + 1)) c.loop.fields c.in_ok-read.field-0 c.loop.cursor c.read.new.cursor _ (omega (arith, c.loop-test.true)) c.in_ok-read.ensures c.loop.invariant)

pub returns : goal.returns
returns g c = is_done (λ x. 0) (λ least. g.T.Stated.read_at c.args.edition c.args.floor) 1 (c.args.count - c.loop.counter) c.loop.fields c.loop.cursor _ (omega (arith, c.loop-test.false)) c.loop.invariant
