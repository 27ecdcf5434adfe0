use Rattle.std.proofs.lemmas.Result.{err_from_is_err_and}
use Rattle.std.proofs.lemmas.List.{drop_more, drop_all}
use Rattle.mesa_block.specs.Reading.{cells_at}
use Rattle.mesa_block.proofs.Walk.{goes_on, ends, is_done}
use Rattle.mesa_block.proofs.reading.value_columns_of.Goals as goal

pub returns-in_err-column : goal.returns-in_err-column
returns-in_err-column c =
    let p = err_from_is_err_and c.from_residual-in_err-column.result c.from_residual-in_err-column.ensures.1 in
    rw (p.1, p.2) (ends (λ w. cells_at w c.args.r) c.in_err-column.field-0.0 c.loop-width.columns.items _ _ _ c.loop-width.rest.now _ (drop_more c.args.widths.now c.loop-width.width-index _ c.loop-width-test.true) c.in_err-column.ensures c.loop-width.invariant)

pub loop-width-preserved : goal.loop-width-preserved
loop-width-preserved c =
    let e = c.in_ok-push.ensures.items in
    rw e (goes_on (λ w. cells_at w c.args.r) c.loop-width.columns.items _ _ _ c.loop-width.rest.now c.in_ok-column.column c.in_ok-column.after.now _ (drop_more c.args.widths.now c.loop-width.width-index _ c.loop-width-test.true) c.in_ok-column.ensures c.loop-width.invariant)

pub returns : goal.returns
returns c = is_done (λ w. cells_at w c.args.r) c.loop-width.columns.items _ c.loop-width.rest.now _ (drop_all c.loop-width.width-index c.args.widths.now c.loop-width-test.false) c.loop-width.invariant
