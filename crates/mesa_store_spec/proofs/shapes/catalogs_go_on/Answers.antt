use Rattle.mesa_store_spec.proofs.OneMore.{catalog_more}
use Rattle.mesa_store_spec.proofs.shapes.catalogs_go_on.Goals as goal

pub returns : goal.returns
returns g area bodies body c r is reads fit = catalog_more area bodies body c r is reads fit
