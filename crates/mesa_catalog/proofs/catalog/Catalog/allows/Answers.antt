use Rattle.std.proofs.Common.{◌∙◌, ap}
use Rattle.mesa_catalog_records.specs.mesa_store_spec.Fitting.{kind_fits}
use Rattle.mesa_catalog.specs.Kept.{Reserved}
use Rattle.mesa_catalog.proofs.catalog.Catalog.allows.Goals as goal

pub returns : goal.returns
returns c = c.allows.ensures ∙ ap (λ (k : Reserved). kind_fits k.catalogue c.args.r.now) c.self.view_is
