use Rattle.std.proofs.Common.{slice_index, arith}
use Rattle.mesa_sha256.proofs.Rotations.{rotated_three}
use Rattle.mesa_sha256.proofs.Lanes.{word_fits}
use Rattle.mesa_sha256.proofs.words.sums.Goals as goal

pub returns : goal.returns
returns c = λ l lt. rw (c.rotated-3.ensures l lt, c.xor-2.ensures l lt, c.rotated-2.ensures l lt, c.xor.ensures l lt, c.rotated.ensures l lt)
    (rotated_three 32 (slice_index c.args.x l) 2 11 9 (omega arith) (word_fits c.args.x l c.fits-x lt))
