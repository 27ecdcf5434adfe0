use Rattle.mesa_print.proofs.Printing.{printed_then}
use Rattle.mesa_shell.proofs.lines.put_labelled.Goals as goal

pub returns : goal.returns
returns g c = printed_then _ _ _ _ _ _ _ c.put.ensures c.put_number.ensures
