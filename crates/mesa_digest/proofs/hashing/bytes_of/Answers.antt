use Rattle.std.proofs.Common.{rules}
use Rattle.mesa_digest.specs.Digests.{amount_bytes}
use Rattle.mesa_digest.proofs.hashing.bytes_of.Goals as goal

pub returns : goal.returns
unfolding amount_bytes
returns c = search rules
