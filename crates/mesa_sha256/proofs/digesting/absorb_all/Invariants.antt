use Rattle.std.proofs.Common.{◌≡◌, ℕ, ◌<◌}
use Rattle.sha2.specs.Sha256.{hash_after}
use Rattle.mesa_sha256.specs.Lanes.{lane, one_of}
use Rattle.mesa_sha256.proofs.digesting.absorb_all.Given as goal

abbrev pub invariant-loop-i : goal.invariant-loop-i
invariant-loop-i m = (l : ℕ) → l < 4 → lane l m.state ≡ hash_after (lane l m.initial.state) (one_of l m.a m.b m.c m.d) m.i
