use Rattle.std.proofs.Common.{ℕ, ◌/◌, ◌^◌, bit_xor, slice_index, ap, arith}
use Rattle.mesa_sha256.proofs.Rotations.{rotated_two}
use Rattle.mesa_sha256.proofs.Lanes.{word_fits}
use Rattle.mesa_sha256.proofs.words.early.Goals as goal

pub returns : goal.returns
returns c = λ l lt. rw (c.xor-2.ensures l lt, c.rotated-2.ensures l lt, c.xor.ensures l lt, c.rotated.ensures l lt, c.shifted.ensures l lt)
    (ap (λ (y : ℕ). bit_xor y (slice_index c.args.x l / 2 ^ 3)) (rotated_two 32 (slice_index c.args.x l) 7 11 (omega arith) (word_fits c.args.x l c.fits-x lt)))
