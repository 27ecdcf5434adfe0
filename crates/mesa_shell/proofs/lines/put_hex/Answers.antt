use Rattle.std.proofs.Common.{◌≡◌, ◌∙◌, subst, arith}
use Rattle.hex.specs.Hex.{encode_lower}
use Rattle.mesa_session.specs.mesa_filter.Hex.{hex_of}
use Rattle.mesa_print.proofs.HexText.{hex_text}
use Rattle.mesa_print.specs.Printed.{Printed}
use Rattle.mesa_shell.proofs.lines.put_hex.Goals as goal

pub returns : goal.returns
returns g c =
    let same : encode_lower c.args.bytes.now ≡ hex_of c.args.bytes.now = hex_text c.args.bytes.now (λ i. omega (arith, c.type_inv.bytes i)) in
    subst (λ text. Printed g.K.Sink.held g.K.Sink.faults c.args.printer.now c.put.new.self text) (c.in-Ok.ensures.written ∙ same) c.put.ensures
