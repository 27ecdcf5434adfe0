use Rattle.std.proofs.lemmas.Result.{err_from_is_err_and}
use Rattle.std.proofs.lemmas.List.{drop_more, drop_all}
use Rattle.mesa_block.specs.Reading.{column_at}
use Rattle.mesa_block.proofs.Walk.{goes_on, ends, is_done}
use Rattle.mesa_block.proofs.reading.columns_of.Goals as goal

pub returns-in_err-column : goal.returns-in_err-column
returns-in_err-column c =
    let p = err_from_is_err_and c.from_residual-in_err-column.result c.from_residual-in_err-column.ensures.1 in
    rw (p.1, p.2) (ends (λ kind. column_at kind c.args.r) c.in_err-column.field-0.0 c.loop-kind.columns.items _ _ _ c.loop-kind.rest.now _ (drop_more c.args.kinds.now c.loop-kind.kind-index _ c.loop-kind-test.true) c.in_err-column.ensures c.loop-kind.invariant)

pub loop-kind-preserved : goal.loop-kind-preserved
loop-kind-preserved c =
    let e = c.in_ok-push.ensures.items in
    rw e (goes_on (λ kind. column_at kind c.args.r) c.loop-kind.columns.items _ _ _ c.loop-kind.rest.now c.in_ok-column.column c.in_ok-column.after.now _ (drop_more c.args.kinds.now c.loop-kind.kind-index _ c.loop-kind-test.true) c.in_ok-column.ensures c.loop-kind.invariant)

pub returns : goal.returns
returns c = is_done (λ kind. column_at kind c.args.r) c.loop-kind.columns.items _ c.loop-kind.rest.now _ (drop_all c.loop-kind.kind-index c.args.kinds.now c.loop-kind-test.false) c.loop-kind.invariant
