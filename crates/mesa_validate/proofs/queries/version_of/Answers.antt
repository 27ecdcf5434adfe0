use Rattle.std.proofs.Common.{◌∙◌, ap, sym}
use Rattle.mesa_model.specs.Versions.{version_asked}
use Rattle.mesa_validate.specs.Found.{of_catalog, version_in}
use Rattle.mesa_validate.proofs.Seen.{catalog_has}
use Rattle.mesa_validate.proofs.queries.version_of.Goals as goal

pub returns-in-None : goal.returns-in-None
returns-in-None c =
    let cat = c.args.catalog.now.catalogue in
    c.version_asked.ensures.asked (of_catalog cat) (catalog_has cat) ∙ ap (λ o. version_asked (of_catalog cat) o c.args.asked) c.oldest.ensures ∙ ap (λ p. version_in cat p c.args.asked c.args.table) (sym c.in-None.is)
