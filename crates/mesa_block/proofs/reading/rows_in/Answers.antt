use Rattle.std.proofs.Common.{◌∙◌}
use Rattle.std.proofs.lemmas.Result.{err_from_is_err_and}
use Rattle.mesa_block.proofs.Found.{columns_read, counts}
use Rattle.mesa_block.proofs.FoundBlock.{rows_fault}
use Rattle.mesa_block.proofs.reading.rows_in.Goals as goal

pub checked_rows-requires-clause-cells : goal.checked_rows-requires-clause-cells
checked_rows-requires-clause-cells c =
    rw c.deref-5.ensures.value (counts c.args.r _ _ (columns_read _ c.args.r c.args.bytes.now _ c.in_ok-keys.ensures))

pub returns-in_err-rows : goal.returns-in_err-rows
returns-in_err-rows c =
    let p = err_from_is_err_and c.from_residual-in_err-rows.result c.from_residual-in_err-rows.ensures.1 in
    rw (p.1, p.2) (λ other. rows_fault (record { format = c.args.format; columns = c.args.schema.now }) c.args.r c.args.bytes.now _ _ _ _ _ _ _
    (c.deref.ensures.value ∙ c.in_ok-kinds.ensures) (c.deref-2.ensures.value ∙ c.in_ok-widths.ensures)
    c.in_ok-keys.ensures c.in_ok-values.ensures (rw (c.deref-3.ensures.value, ← c.deref.ensures.value, c.deref-4.ensures.value, ← c.deref-2.ensures.value, c.deref-5.ensures.value, c.deref-6.ensures.value) at (c.in_err-rows.ensures other)))
