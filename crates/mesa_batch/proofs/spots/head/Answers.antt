use Rattle.std.proofs.Common.{◌∙◌, ap}
use Rattle.std.specs.Int.{from_be_bytes, w64}
use Rattle.mesa_batch.proofs.Heads.{padded_bytes}
use Rattle.mesa_batch.proofs.spots.head.Goals as goal

pub returns : goal.returns
returns c = c.from_be_bytes.ensures ∙ ap (from_be_bytes w64) (padded_bytes c.args.key.now)
