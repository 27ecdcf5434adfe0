use Rattle.std.proofs.Common.{◌∙◌, ap, map}
use Rattle.mesa_catalog.specs.Kept.{Reserved}
use Rattle.mesa_catalog.specs.Lookups.{known_as, known_in}
use Rattle.mesa_catalog.proofs.Generation.{known_held}
use Rattle.mesa_catalog_records.proofs.mesa_catalog_table.Tests.{if_ok_both}
use Rattle.mesa_catalog.proofs.catalog.Catalog.glance.Goals as goal

pub returns : goal.returns
returns c =
    let s = c.self.inside.catalog_tables in
    let known = c.in_ok-glanced.ensures.known ∙ ap (map known_in) c.deref.ensures.value ∙ known_held s.next s.tables.items ∙ ap (λ (k : Reserved). map known_as k.catalogue.tables) c.self.view_is in
    if_ok_both c.new.result _ _ _ (λ g generation tables. λ i. record { generation = (generation ∙ c.generation.ensures) i; tables = (tables ∙ known) i }) c.new.ensures.generation c.new.ensures.tables
