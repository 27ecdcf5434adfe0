use Rattle.std.proofs.Common.{◌≡◌, ℕ, List, ◌<◌}
use Rattle.sha2.specs.Sha256.{hash_after}
use Rattle.mesa_sha256.specs.Lanes.{lane}
use Rattle.mesa_sha256.proofs.digesting.absorb_rest.Given as goal

abbrev pub invariant-loop-i : goal.invariant-loop-i
invariant-loop-i m = (l : ℕ) (h : List ℕ) → l < 4 → lane l m.initial.state ≡ hash_after h m.message m.from → lane l m.state ≡ hash_after h m.message m.i
