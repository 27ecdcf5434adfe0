use Rattle.mesa_store_spec.proofs.Wholes.{fits_shaped}
use Rattle.mesa_store_spec.proofs.shapes.records_keep_shape.Goals as goal

pub returns : goal.returns
returns g c r is typed fit = fits_shaped c r is typed fit
