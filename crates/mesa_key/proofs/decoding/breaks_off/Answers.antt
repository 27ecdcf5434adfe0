use Rattle.std.proofs.Common.{◌∙◌, ap}
use Rattle.std.specs.Option.{is_some}
use Rattle.mesa_key.proofs.Utf8.{broken_text, whole_text}
use Rattle.mesa_key.proofs.decoding.breaks_off.Goals as goal

pub returns-in_default : goal.returns-in_default
returns-in_default c = whole_text c.args.bytes.now c.in_default.ensures.cases.1

pub returns : goal.returns
returns c =
    let told = c.in-Err.ensures in
    c.is_some.ensures ∙ ap is_some c.error_len.ensures ∙ broken_text c.args.bytes.now _ _ told.cases.0 told.valid_len told.fault
