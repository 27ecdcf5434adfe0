use Rattle.mesa_print.proofs.Printing.{printed_then}
use Rattle.mesa_print.proofs.printer.Printer.put_block.Goals as goal

pub returns-in-None : goal.returns-in-None
returns-in-None g c = rw (← c.head-length.ensures.line) (printed_then _ _ _ _ _ _ _ c.put-in-None.ensures c.put-in-None-2.ensures)
