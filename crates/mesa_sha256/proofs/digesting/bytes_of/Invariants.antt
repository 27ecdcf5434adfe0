use Rattle.std.proofs.Common.{◌≡◌, ◌*◌, length, take}
use Rattle.sha2.specs.Sha256.{digest_bytes}
use Rattle.mesa_sha256.specs.Lanes.{lane}
use Rattle.mesa_sha256.proofs.digesting.bytes_of.Given as goal

abbrev pub invariant-words : goal.invariant-words
invariant-words m = (length m.out ≡ 32) × (take (4 * m.i) m.out ≡ digest_bytes (lane m.l m.state) m.i)
