use Rattle.std.proofs.Common.{◌∙◌, ap}
use Rattle.std.specs.Prelude.{is_some, not}
use Rattle.mesa_catalog_records.specs.Meaning.{catalogue_of}
use Rattle.mesa_catalog_records.proofs.Relations.{known_name, turned}
use Rattle.mesa_catalog_records.proofs.catalog_tables.CatalogTables.is_new_name.Goals as goal

pub returns : goal.returns
returns c = turned _ _ c.is_none.ensures ∙ ap (λ o. not (is_some o)) c.find.ensures ∙ ap not (known_name 0 c.args.name.now (catalogue_of c.args.self.now).tables)
