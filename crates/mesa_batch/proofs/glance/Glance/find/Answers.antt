use Rattle.std.proofs.Common.{◌∙◌, ap}
use Rattle.mesa_schema.specs.mesa_columns.Columns.{place_of}
use Rattle.mesa_batch.specs.Glance.{Sight, names_in}
use Rattle.mesa_batch.proofs.NameNumbers.{names_known, found_there}
use Rattle.mesa_batch.proofs.glance.Glance.find.Goals as goal

pub returns-clause-place : goal.returns-clause-place
returns-clause-place c =
    c.copied.ensures ∙ c.get.ensures.value ∙ c.self.invariant.numbers c.args.name.now
    ∙ ap (place_of c.args.name.now) (names_known c.self.inside.tables.items) ∙ ap (λ (sight : Sight). place_of c.args.name.now (names_in sight)) c.self.view_is

pub returns-clause-there : goal.returns-clause-there
returns-clause-there c = found_there c.args.name.now c.args.self.now c.copied.result (returns-clause-place c)
