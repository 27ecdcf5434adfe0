use Rattle.std.proofs.Common.{◌∙◌, ap, sym}
use Rattle.std.specs.Prelude.{is_some}
use Rattle.mesa_key.proofs.Zeros.{no_text, text_ends}
use Rattle.mesa_key.proofs.key_columns.text_length.Goals as goal

pub returns-in_err-place_of_byte-clause-whole : goal.returns-in_err-place_of_byte-clause-whole
returns-in_err-place_of_byte-clause-whole c = ap is_some c.from_residual.ensures ∙ no_text c.args.bytes.now (sym c.place_of_byte.ensures.place ∙ c.in_err-place_of_byte.was)

pub returns-clause-whole : goal.returns-clause-whole
returns-clause-whole c = (text_ends c.args.bytes.now c.in_ok-place_of_byte.field-0 (sym c.place_of_byte.ensures.place ∙ c.in_ok-place_of_byte.was)).whole

pub returns-clause-length : goal.returns-clause-length
returns-clause-length c = (text_ends c.args.bytes.now c.in_ok-place_of_byte.field-0 (sym c.place_of_byte.ensures.place ∙ c.in_ok-place_of_byte.was)).length
