use Rattle.mesa_invariant_spec.proofs.Pinning.{pin_change, release_change}
use Rattle.mesa_invariant_spec.proofs.laws.pins_change_books.Goals as goal

pub returns : goal.returns
returns c = record { pin = pin_change; release = release_change }
