use Rattle.std.proofs.Common.{◌∙◌}
use Rattle.mesa_key.proofs.Utf8.{utf8_told}
use Rattle.mesa_key.proofs.text.is_utf8.Goals as goal

pub returns : goal.returns
returns c = c.is_ok.ensures.value ∙ utf8_told _ _ c.args.bytes.now c.from_utf8.result c.from_utf8.ensures.cases
