use Rattle.mesa_print.proofs.Printing.{printed_then}
use Rattle.mesa_shell.proofs.generating.print_last.Goals as goal

pub returns : goal.returns
returns g c =
    printed_then _ _ _ _ _ _ _
    (printed_then _ _ _ _ _ _ _
    (printed_then _ _ _ _ _ _ _
    (printed_then _ _ _ _ _ _ _ c.put.ensures c.put_number.ensures)
    (printed_then _ _ _ _ _ _ _ c.put-2.ensures c.put_number-2.ensures)) c.put-3.ensures) c.put-4.ensures
