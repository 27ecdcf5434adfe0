use Rattle.mesa_store_spec.proofs.Ids.{own_ids}
use Rattle.mesa_store_spec.proofs.Wholes.{catalog_whole}
use Rattle.mesa_store_spec.proofs.files.catalogs_own_ids.Goals as goal

pub returns : goal.returns
returns g = record { whole = λ area bodies c bytes e. (catalog_whole area bodies c bytes e).own; kept = own_ids }
