use Rattle.std.proofs.Common.{◌∙◌, ap}
use Rattle.std.specs.Int.{from_be_bytes, w64}
use Rattle.mesa_key.proofs.Eights.{first_bytes}
use Rattle.mesa_key.proofs.order.first_eight.Goals as goal

pub returns : goal.returns
returns c = c.from_be_bytes.ensures ∙ ap (from_be_bytes w64) (first_bytes c.args.key.now c.requires)
