use Rattle.std.proofs.Common.{◌∙◌, ap}
use Rattle.mesa_catalog_records.specs.mesa_store_spec.Fitting.{fits}
use Rattle.mesa_catalog.specs.Kept.{Reserved}
use Rattle.mesa_catalog_records.specs.Meaning.{catalogue_of}
use Rattle.mesa_catalog_records.proofs.Applies.{kind_of_fits}
use Rattle.mesa_catalog.proofs.catalog.Catalog.dropped.Goals as goal

pub push_dropped-requires-clause-fits : goal.push_dropped-requires-clause-fits
push_dropped-requires-clause-fits c = kind_of_fits (catalogue_of c.self.inside.catalog_tables) c.args.r.now (ap (λ (k : Reserved). fits k.catalogue c.args.r.now) c.self.view_is ∙ c.requires)
