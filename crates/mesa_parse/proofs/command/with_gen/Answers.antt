use Rattle.std.proofs.Common.{◌≡◌, ◌∙◌, ap, ap₂, codes, rules}
use Rattle.std.proofs.lemmas.Result.{IfOk-weaker}
use Rattle.clap.specs.Words.{App, app_of, rule_of, with_rule, with_subcommand}
use Rattle.mesa_parse.specs.Command.{gen, needed}
use Rattle.mesa_parse.proofs.command.with_gen.Goals as goal

pub returns : goal.returns
returns c =
    let seed : rule_of c.required-seed.result ≡ needed (codes "seed") = search rules in
    let versions : rule_of c.required-versions.result ≡ needed (codes "versions") = search rules in
    let generate : app_of c.in_ok-generate.generate ≡ gen = c.in_ok-generate.ensures.shape (search rules)
    ∙ ap₂ with_rule (c.in_ok-arg.ensures.shape (search rules) ∙ ap₂ with_rule c.new-3.ensures.app seed) versions in
    IfOk-weaker c.subcommand.result _ _ (λ m h. h.shape (search rules) ∙ ap (λ (a : App). with_subcommand (app_of c.args.command) a.top) generate) c.subcommand.ensures
