use Rattle.std.proofs.Common.{◌≡◌, ◌∙◌, ap, ap₂, codes, rules}
use Rattle.std.proofs.lemmas.Result.{IfOk-weaker}
use Rattle.clap.specs.Words.{App, app_of, rule_of, with_rule, with_subcommand}
use Rattle.mesa_parse.specs.Command.{digest, needed}
use Rattle.mesa_parse.proofs.command.with_digest.Goals as goal

pub returns : goal.returns
returns c =
    let relation : rule_of c.required-relation.result ≡ needed (codes "relation") = search rules in
    let digests : app_of c.in_ok-digest.digest ≡ digest = c.in_ok-digest.ensures.shape (search rules) ∙ ap₂ with_rule c.new-2.ensures.app relation in
    IfOk-weaker c.subcommand.result _ _ (λ m h. h.shape (search rules) ∙ ap (λ (a : App). with_subcommand (app_of c.args.command) a.top) digests) c.subcommand.ensures
