use Rattle.std.proofs.Common.{w32, slice_index}
use Rattle.mesa_sha256.proofs.ChMaj.{ch_short}
use Rattle.mesa_sha256.proofs.Lanes.{word_fits}
use Rattle.mesa_sha256.proofs.words.chosen.Goals as goal

pub returns : goal.returns
returns c = λ l lt. rw (c.xor-2.ensures l lt, c.and.ensures l lt, c.xor.ensures l lt) (ch_short w32 (slice_index c.args.x l) (slice_index c.args.y l) (slice_index c.args.z l) (word_fits c.args.x l c.fits-x lt) (word_fits c.args.y l c.fits-y lt) (word_fits c.args.z l c.fits-z lt))
