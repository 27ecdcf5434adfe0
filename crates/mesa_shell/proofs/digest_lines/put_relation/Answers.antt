use Rattle.mesa_print.proofs.Printing.{printed_then}
use Rattle.mesa_shell.proofs.digest_lines.put_relation.Goals as goal

pub returns : goal.returns
returns g c = printed_then _ _ _ _ _ _ _ c.put.ensures (printed_then _ _ _ _ _ _ _ (printed_then _ _ _ _ _ _ _ c.put-2.ensures c.put-3.ensures) c.put_number.ensures)
