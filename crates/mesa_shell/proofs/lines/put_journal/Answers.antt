use Rattle.mesa_print.proofs.Printing.{printed_then}
use Rattle.mesa_shell.proofs.lines.put_journal.Goals as goal

pub returns : goal.returns
returns g c =
    printed_then _ _ _ _ _ _ _
    (printed_then _ _ _ _ _ _ _
    (printed_then _ _ _ _ _ _ _
    (printed_then _ _ _ _ _ _ _
    (printed_then _ _ _ _ _ _ _
    (printed_then _ _ _ _ _ _ _ c.put_labelled.ensures c.put.ensures) c.put_number.ensures) c.put-2.ensures) c.put_seen.ensures) c.put-3.ensures) c.put_seen-2.ensures
