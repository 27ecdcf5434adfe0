use Rattle.std.proofs.Common.{◌≡◌, ◌∙◌, inl, inr, ap, subst, sym}
use Rattle.std.proofs.lemmas.Result.{IfOk-weaker}
use Rattle.clap.specs.Words.{IsAmong, app_of, fault_of, is_simple, is_simple_and_free, kind_of, subcommand_of}
use Rattle.mesa_parse.specs.Command.{mesa}
use Rattle.mesa_parse.specs.Found.{form_found}
use Rattle.mesa_parse.proofs.Outcomes.{refused_form, taken_form, texts}
use Rattle.mesa_parse.proofs.forms.parsed_form.Goals as goal

pub returns-in-Ok : goal.returns-in-Ok
returns-in-Ok c =
    let words = c.args.words.now in
    let app : app_of c.in_ok-mesa_command.field-0 ≡ mesa = c.in_ok-mesa_command.ensures in
    let found = (c.in-Ok.ensures.matches (ap is_simple app)).1 ∙ ap (λ a. subcommand_of a (texts words)) app in
    let none = sym (ap (λ a. fault_of a (texts words)) app) ∙ c.in-Ok.ensures.kinds (ap is_simple_and_free app) in
    IfOk-weaker c.found_form.result _ _ (λ form is. is ∙ ap form_found found ∙ taken_form words c.requires none) c.found_form.ensures

pub returns-in-Err : goal.returns-in-Err
returns-in-Err c =
    let words = c.args.words.now in
    let app : app_of c.in_ok-mesa_command.field-0 ≡ mesa = c.in_ok-mesa_command.ensures in
    IfOk-weaker c.no_form.result _ _ (λ form told. elim (c.in-Err.ensures.kinds (ap is_simple_and_free app)) [
      | inl memory ↦ absurd (told.1 (c.kind.ensures ∙ memory))
      | inr among ↦ told.0 ∙ sym (refused_form words (kind_of c.in-Err.error) c.requires (subst (λ a. IsAmong (kind_of c.in-Err.error) (fault_of a (texts words))) app among))
    ]) c.no_form.ensures
