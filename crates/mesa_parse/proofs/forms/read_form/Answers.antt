use Rattle.std.proofs.Common.{◌∙◌, sym}
use Rattle.mesa_parse.proofs.Outcomes.{hyphened_none}
use Rattle.mesa_parse.proofs.forms.read_form.Goals as goal

pub returns-then-has_hyphened : goal.returns-then-has_hyphened
returns-then-has_hyphened c = sym (hyphened_none c.args.words.now (sym c.has_hyphened.ensures ∙ c.if-has_hyphened.true))
