use Rattle.mesa_core.proofs.Behind.{place_found, place_first, place_second}
use Rattle.mesa_core.proofs.Dividing.{gains}
use Rattle.mesa_core.proofs.passes.turns_go_on.Goals as goal

pub returns : goal.returns
returns c = record { found = place_found; first = place_first; second = place_second; gains = gains }
