use Rattle.std.proofs.Common.{◌∙◌, ap, sym, map}
use Rattle.mesa_columns.specs.declared.columns.ValueColumn.{ValueColumn}
use Rattle.mesa_columns.specs.Columns.{place_of}
use Rattle.mesa_columns.proofs.LiftSteps.{dropped}
use Rattle.mesa_columns.proofs.lifting.move_further.Goals as goal

pub returns-in-Some-clause-rows : goal.returns-in-Some-clause-rows
returns-in-Some-clause-rows c = λ row.
    dropped c.args.sources.now.items c.remove.new.self.items c.args.suffix.now.items c.args.values.now c.in-DropValue.name c.in-Some.place c.args.change.now row c.remove.ensures.items c.in-DropValue.is
    (ap (λ name. place_of name (map (λ (v : ValueColumn). v.name) c.args.values.now)) (sym c.bytes.ensures.same) ∙ sym c.place_of.ensures.place ∙ c.in-Some.is)
