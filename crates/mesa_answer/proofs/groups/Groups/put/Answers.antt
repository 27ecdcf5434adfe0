use Rattle.std.proofs.Common.{◌∙◌, subst, Option}
use Rattle.std.specs.Prelude.{IfSome}
use Rattle.mesa_model.specs.mesa_columns.Columns.{kinds_of}
use Rattle.mesa_model.specs.mesa_columns.Lent.{lent}
use Rattle.mesa_answer.specs.declared.window.Window.{Window}
use Rattle.mesa_answer.specs.Window.{IsWindow}
use Rattle.mesa_answer.proofs.groups.Groups.put.Goals as goal

pub put_part-requires-clause-part : goal.put_part-requires-clause-part
put_part-requires-clause-part c =
    let g = c.args.self.now in
    let its : IsWindow (kinds_of g.schema.now) g.columns.now g.values.now c.in-Some.window = subst (λ (o : Option Window). IfSome o (IsWindow (kinds_of g.schema.now) g.columns.now g.values.now)) c.in-Some.is c.requires.gathering.1.window in
    c.in-Some-row.ensures ∙ its (lent c.args.row)
