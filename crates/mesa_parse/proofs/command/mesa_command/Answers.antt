use Rattle.std.proofs.Common.{◌≡◌, ◌∙◌, ap, ap₂, codes, rules}
use Rattle.std.proofs.lemmas.Result.{IfOk-weaker}
use Rattle.clap.specs.Words.{App, Shape, app_of, new_app, with_subcommand}
use Rattle.clap.specs.Simple.{on_top}
use Rattle.mesa_parse.specs.Command.{digest, gen, set_up}
use Rattle.mesa_parse.proofs.command.mesa_command.Goals as goal

abbrev top_of : App → Shape
top_of a = a.top

pub returns : goal.returns
returns c =
    let bare : app_of c.subcommand_required.result ≡ on_top set_up (new_app (codes "mesa")) = search rules in
    let run = c.in_ok-subcommand.ensures.shape (search rules) ∙ ap₂ with_subcommand bare (ap top_of c.new-2.ensures.app) in
    let check = c.in_ok-checks.ensures.shape (search rules) ∙ ap₂ with_subcommand run (ap top_of c.new-3.ensures.app) in
    let generates = c.in_ok-generates.ensures ∙ ap (λ (a : App). with_subcommand a gen.top) check in
    IfOk-weaker c.with_digest.result _ _ (λ m h. h ∙ ap (λ (a : App). with_subcommand a digest.top) generates) c.with_digest.ensures
