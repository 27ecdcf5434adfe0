use Rattle.std.proofs.Common.{◌∙◌, ap, subst}
use Rattle.mesa_schema.specs.Changes.{Lineage, columns_of}
use Rattle.mesa_query.specs.mesa_columns.Columns.{Columns}
use Rattle.mesa_filter.specs.Query.{IsQueryOf}
use Rattle.mesa_file_tests.proofs.query.answering.query_of.Goals as goal

pub returns : goal.returns
returns g c = subst (λ (s : Columns). IsQueryOf s c.in-Ok.query) (c.present.ensures.columns ∙ ap (λ (k : Lineage). columns_of k) c.deref.ensures) c.in-Ok.ensures.sound
