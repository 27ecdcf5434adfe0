use Rattle.std.proofs.Common.{◌∙◌, ℕ, List, ap, subst}
use Rattle.std.specs.Int.{w64, to_be_bytes}
use Rattle.mesa_session.specs.mesa_filter.Hex.{hex_of}
use Rattle.mesa_print.specs.Printed.{Printed}
use Rattle.mesa_shell.proofs.lines.put_file.Goals as goal

pub returns : goal.returns
returns g c =
    subst (λ (bytes : List ℕ). Printed g.K.Sink.held g.K.Sink.faults c.args.printer.now c.put_hex.new.printer (hex_of bytes)) (c.to_be_bytes.ensures ∙ ap (to_be_bytes w64) c.number.ensures) c.put_hex.ensures
