use Rattle.mesa_invariant_spec.proofs.Alike.{due_alike, asks_alike}
use Rattle.mesa_invariant_spec.proofs.laws.starts_are_alike.Goals as goal

pub returns : goal.returns
returns c = record { due = due_alike; asked = asks_alike }
