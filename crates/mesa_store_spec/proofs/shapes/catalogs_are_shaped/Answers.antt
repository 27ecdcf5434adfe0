use Rattle.mesa_store_spec.proofs.Wholes.{catalog_whole}
use Rattle.mesa_store_spec.proofs.shapes.catalogs_are_shaped.Goals as goal

pub returns : goal.returns
returns g area bodies c bytes e = (catalog_whole area bodies c bytes e).shaped
