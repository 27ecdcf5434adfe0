use Rattle.mesa_print.proofs.Printing.{printed_then}
use Rattle.mesa_shell.proofs.verdict_line.put_verdict.Goals as goal

pub returns-in-Unsound : goal.returns-in-Unsound
returns-in-Unsound g c = rw c.in-Unsound.is (printed_then _ _ _ _ _ _ _ (printed_then _ _ _ _ _ _ _ c.put_range.ensures c.put-in-Unsound.ensures) c.put_shown_key.ensures)
