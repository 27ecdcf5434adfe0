use Rattle.std.proofs.Common.{◌∙◌, ap}
use Rattle.std.specs.Prelude.{sum_by}
use Rattle.mesa_catalog.specs.Kept.{Reserved}
use Rattle.mesa_catalog.specs.Lookups.{changes_of, generation_of}
use Rattle.mesa_catalog.proofs.Generation.{generation_held}
use Rattle.mesa_catalog.proofs.catalog.Catalog.generation.Goals as goal

pub returns : goal.returns
returns c =
    let s = c.self.inside.catalog_tables in
    c.generation.ensures ∙ ap (sum_by changes_of) c.deref.ensures.value ∙ generation_held s.next s.tables.items ∙ ap (λ (k : Reserved). generation_of k.catalogue) c.self.view_is
