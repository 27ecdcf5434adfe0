use Rattle.std.proofs.Common.{ℕ, List, subst}
use Rattle.mesa_print.specs.Printed.{Printed}
use Rattle.mesa_print.proofs.Printing.{printed_then}
use Rattle.mesa_shell.proofs.verdict_line.put_range.Goals as goal

pub returns : goal.returns
returns g c =
    printed_then _ _ _ _ _ _ _ c.put.ensures
    (printed_then _ _ _ _ _ _ _
    (printed_then _ _ _ _ _ _ _
    (printed_then _ _ _ _ _ _ _
    (printed_then _ _ _ _ _ _ _ (subst (λ (text : List ℕ). Printed g.K.Sink.held g.K.Sink.faults c.put.new.self c.put-2.new.self text) c.bytes.ensures.same c.put-2.ensures) c.put-3.ensures) c.put_number.ensures) c.put-4.ensures) c.put_number-2.ensures)
