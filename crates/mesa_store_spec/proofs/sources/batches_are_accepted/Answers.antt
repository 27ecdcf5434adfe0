use Rattle.mesa_store_spec.proofs.Accepted.{read_accepted}
use Rattle.mesa_store_spec.proofs.sources.batches_are_accepted.Goals as goal

pub returns : goal.returns
returns g c words batch read = read_accepted c words batch read
