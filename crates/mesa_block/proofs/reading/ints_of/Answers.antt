use Rattle.std.proofs.lemmas.Result.{err_from_is_err_and}
use Rattle.mesa_block.proofs.Pieces.{cells_fault, cells_read}
use Rattle.mesa_block.proofs.reading.ints_of.Goals as goal

pub returns-in_err-cells : goal.returns-in_err-cells
returns-in_err-cells c =
    let p = err_from_is_err_and c.from_residual.result c.from_residual.ensures.1 in
    rw (p.1, p.2) (λ other. cells_fault 8 c.args.r c.args.bytes.now _ (c.in_err-cells.ensures other))

pub returns : goal.returns
returns c = rw c.ints.ensures (cells_read 8 c.args.r c.args.bytes.now c.in_ok-cells.cells.now c.in_ok-cells.rest.now c.in_ok-cells.ensures)
