use Rattle.std.proofs.Common.{◌∙◌, ap}
use Rattle.std.specs.Prelude.{is_some}
use Rattle.mesa_model.specs.mesa_columns.declared.rows.Row.{Row}
use Rattle.std.specs.Prelude.{List}
use Rattle.mesa_answer.specs.Held.{value_at}
use Rattle.mesa_answer.proofs.Entries.{same_there}
use Rattle.mesa_answer.proofs.held.Held.holds.Goals as goal

pub returns : goal.returns
returns c =
    let h = c.self.inside in
    c.contains_key.ensures ∙ same_there h.groups.items h.places.entries c.args.key.now ∙ ap (λ (rows : List Row). is_some (value_at c.args.key.now rows)) c.self.view_is
