use Rattle.std.proofs.Common.{◌∷◌, ◌∙◌, ap, sym}
use Rattle.std.specs.Prelude.{option_map}
use Rattle.std.proofs.lemmas.Bool.{ne_eqb}
use Rattle.std.proofs.lemmas.List.{take_rest}
use Rattle.mesa_filter.specs.Filter.{unescaped}
use Rattle.mesa_filter.proofs.Texts.{escape_read, plain_byte}
use Rattle.mesa_filter.proofs.literals.first_byte.Goals as goal

pub returns-then-first-ne37-clause-read : goal.returns-then-first-ne37-clause-read
returns-then-first-ne37-clause-read c = plain_byte c.args.first c.args.rest.now (ne_eqb c.args.first 37 c.if-first-ne37.true)

pub returns-in_ok-byte_of-in-len2-up-clause-read : goal.returns-in_ok-byte_of-in-len2-up-clause-read
returns-in_ok-byte_of-in-len2-up-clause-read c =
    escape_read c.args.first c.args.rest.now c.in_ok-byte_of-in-len2-up.field-0 c.if-first-ne37.false c.in-len2-up.len_at_least c.in_ok-byte_of-in-len2-up.ensures
    ∙ ap (λ xs. option_map (λ text. c.in_ok-byte_of-in-len2-up.field-0 ∷ text) (unescaped xs)) (sym (take_rest c.args.rest.now 2))
