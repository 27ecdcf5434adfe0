use Rattle.mesa_block.proofs.Alone.{row_alone}
use Rattle.mesa_block.proofs.laws.fits_alone.Goals as goal

pub returns : goal.returns
returns c = row_alone c.reads_back.ensures.passes
