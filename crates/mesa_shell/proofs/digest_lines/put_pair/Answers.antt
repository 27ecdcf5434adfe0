use Rattle.std.proofs.Common.{ℕ, List, subst}
use Rattle.mesa_session.specs.mesa_filter.Hex.{hex_of}
use Rattle.mesa_print.specs.Printed.{Printed}
use Rattle.mesa_print.proofs.Printing.{printed_then}
use Rattle.mesa_shell.proofs.digest_lines.put_pair.Goals as goal

pub returns : goal.returns
returns g c =
    printed_then _ _ _ _ _ _ _ c.put.ensures
    (printed_then _ _ _ _ _ _ _
    (printed_then _ _ _ _ _ _ _
    (printed_then _ _ _ _ _ _ _
    (printed_then _ _ _ _ _ _ _ c.put_number.ensures c.put-2.ensures) c.put_hex.ensures) c.put-3.ensures)
    (subst (λ (bytes : List ℕ). Printed g.K.Sink.held g.K.Sink.faults c.put-3.new.self c.put_hex-2.new.printer (hex_of bytes)) c.to_be_bytes.ensures c.put_hex-2.ensures))
