use Rattle.std.proofs.Common.{◌∙◌, arith, sym}
use Rattle.mesa_parse.proofs.Digits.{too_great}
use Rattle.mesa_parse.proofs.numbers.number_in.Goals as goal

pub returns-then-number-high-clause-read : goal.returns-then-number-high-clause-read
returns-then-number-high-clause-read c = too_great c.args.low c.args.high c.digits.number c.digits.byte-index c.args.word.now (sym c.is_empty.ensures ∙ c.if-is_empty.false) c.digits.invariant.same c.digits-test.true (sym c.is_ascii_digit.ensures.value ∙ c.if-not-is_ascii_digit.false) (omega arith)
