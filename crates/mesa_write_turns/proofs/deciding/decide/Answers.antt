use Rattle.std.proofs.Common.{◌∙◌, ap, length, refl, subst}
use Rattle.std.specs.Prelude.{IfErr, IfOk}
use Rattle.mesa_engine.specs.Engine.{Standing}
use Rattle.mesa_write_turns.specs.Ruling.{IsAllowed, IsRefused}
use Rattle.mesa_write_turns.proofs.Keeping.{same_keep}
use Rattle.mesa_write_turns.proofs.Rulings.{allowed_writes}
use Rattle.mesa_write_turns.proofs.deciding.decide.Goals as goal

pub write-requires-clause-change : goal.write-requires-clause-change
write-requires-clause-change g c κs within =
    let to = c.requires.ruled in
    let m = c.engine.inside.metadata in
    let l = c.args.engine.now.state in
    let said = to.rules m c.rule.result (_, c.rule.ensures, refl) in
    let here : IsAllowed m.state to.asked c.in-Ok.field-0 = subst (λ r. IfOk r (IsAllowed m.state to.asked)) c.in-Ok.is said.0 in
    let allowed : IsAllowed l to.asked c.in-Ok.field-0 = subst (λ (s : Standing). IsAllowed s.state to.asked c.in-Ok.field-0) c.engine.view_is here in
    record {
      asked = to.asked;
      due = to.due;
      can = allowed_writes g.M.Made.bytes l to.asked c.in-Ok.field-0 c.new.result c.adopted-adopted.result to.simple allowed c.new.ensures.items
          (c.adopted-adopted.ensures.adopted ∙ ap (λ (s : Standing). s.state.adopted) c.engine.view_is) c.adopted-adopted.ensures.few;
    }

pub fail-requires-clause-fails : goal.fail-requires-clause-fails
fail-requires-clause-fails g c κs within =
    let to = c.requires.ruled in
    let m = c.engine.inside.metadata in
    let said = to.rules m c.rule.result (_, c.rule.ensures, refl) in
    let here : IsRefused m.state to.asked c.in-Err.failure = subst (λ r. IfErr r (IsRefused m.state to.asked)) c.in-Err.is said.1 in
    let refused : IsRefused c.args.engine.now.state to.asked c.in-Err.failure = subst (λ (s : Standing). IsRefused s.state to.asked c.in-Err.failure) c.engine.view_is here in
    record { asked = to.asked; due = to.due; decides = to.decides; why = refused.failed (length c.args.engine.now.shown.history) c.args.who.session; quiet = refused.quiet }

pub returns-in-Err-clause-keeps : goal.returns-in-Err-clause-keeps
returns-in-Err-clause-keeps g c = same_keep c.args.engine.now.told c.fail.new.self.told c.fail.ensures.told

pub returns-in-Err-clause-disk : goal.returns-in-Err-clause-disk
returns-in-Err-clause-disk g c = λ low e grew is. absurd (c.fail.ensures.disk low e grew is)
