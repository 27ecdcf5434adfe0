use Rattle.std.proofs.Common.{◌∙◌, sym, ap}
use Rattle.mesa_columns.specs.Numbers.{signed_of}
use Rattle.mesa_columns.proofs.NumberWords.{parsed, unreadable}
use Rattle.mesa_columns.proofs.numbers.parsed.Goals as goal

pub returns-in-Ok : goal.returns-in-Ok
returns-in-Ok c = c.ok.ensures.value ∙ parsed c.in-Ok.text.now c.parse.result c.parse.ensures.value.0 ∙ ap signed_of c.in-Ok.ensures.cases.0

pub returns-in-Err : goal.returns-in-Err
returns-in-Err c = sym (unreadable _ c.in-Err.ensures.cases.0)
