use Rattle.std.proofs.Common.{◌∙◌, sym, ap}
use Rattle.mesa_key.specs.mesa_value.declared.Agg.TheVariants as agg
use Rattle.mesa_columns.specs.Numbers.{amount_of}
use Rattle.mesa_columns.proofs.NumberWords.{parsed_wide, unreadable_wide}
use Rattle.mesa_columns.proofs.numbers.wide.Goals as goal

pub returns-in-Ok : goal.returns-in-Ok
returns-in-Ok c = c.ok.ensures.value ∙ parsed_wide c.in-Ok.text.now c.parse.result c.parse.ensures.value.0 ∙ ap (amount_of agg.Sum) c.in-Ok.ensures.cases.0

pub returns-in-Err : goal.returns-in-Err
returns-in-Err c = sym (unreadable_wide _ c.in-Err.ensures.cases.0)
