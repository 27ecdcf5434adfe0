use Rattle.std.proofs.Common.{◌≡◌, arith}
use Rattle.std.proofs.lemmas.Grind.{common_steps}
use Rattle.hex.specs.Hex.{encode_lower}
use Rattle.mesa_filter.specs.Hex.{hex_of}
use Rattle.mesa_print.proofs.HexText.{hex_text}
use Rattle.mesa_print.proofs.pages.push_hex.Goals as goal

pub returns : goal.returns
returns c =
    let same : encode_lower c.args.bytes.now ≡ hex_of c.args.bytes.now = hex_text c.args.bytes.now (λ i. omega (arith, c.type_inv.bytes i)) in
    rw (← same) (grind (arith, common_steps))
