use Rattle.std.proofs.Common.{◌≡◌, ℕ, ◌<◌, ◌*◌, [], length, slice_index, slice_index_or}
use Rattle.sha2.specs.Sha256.{word_at}
use Rattle.mesa_sha256.specs.Lanes.{one_of}
use Rattle.mesa_sha256.proofs.compressing.load.Given as goal

abbrev pub invariant-loop-i : goal.invariant-loop-i
invariant-loop-i l = (length l.w ≡ 16) × ((k j : ℕ) → k < l.i → j < 4 → slice_index (slice_index_or l.w k []) j ≡ word_at (one_of j l.a l.b l.c l.d) (4 * k))
