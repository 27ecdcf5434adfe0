use Rattle.mesa_delta_format.proofs.Bounding.{between}
use Rattle.mesa_delta_format.proofs.laws.keys_between.Goals as goal

pub returns : goal.returns
returns c = between c.fits_alone.ensures
