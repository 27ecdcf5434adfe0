use Rattle.mesa_print.proofs.Printing.{printed_then}
use Rattle.mesa_shell.proofs.lines.put_seen.Goals as goal

pub returns-in-Digest : goal.returns-in-Digest
returns-in-Digest g c = rw c.in-Digest.is (printed_then _ _ _ _ _ _ _ c.put.ensures c.put_hex.ensures)
