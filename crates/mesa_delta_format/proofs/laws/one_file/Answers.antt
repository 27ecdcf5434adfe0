use Rattle.mesa_delta_format.proofs.Once.{rows_once}
use Rattle.mesa_delta_format.proofs.laws.one_file.Goals as goal

pub returns : goal.returns
returns c = rows_once c.fits_alone.ensures c.reads_blocks.ensures
