use Rattle.std.proofs.Common.{◌∙◌, sym, ap, inl, inr, Some}
use Rattle.mesa_filter.proofs.HexDigits.{bytes_read, none_read, not_lower}
use Rattle.mesa_filter.proofs.resuming.bytes_of.Goals as goal

pub returns-then-not-are_lower_digits : goal.returns-then-not-are_lower_digits
returns-then-not-are_lower_digits c = sym (not_lower c.args.digits.now (sym c.are_lower_digits.ensures ∙ c.if-not-are_lower_digits.true))

pub returns-in-Ok : goal.returns-in-Ok
returns-in-Ok c = ap Some c.from_vec.ensures ∙ bytes_read c.args.digits.now c.in-Ok.bytes.items (sym c.are_lower_digits.ensures ∙ c.if-not-are_lower_digits.false) c.in-Ok.ensures.ok

pub returns-in_default : goal.returns-in_default
returns-in_default c = elim c.in-Err.ensures.err [
  | inl memory ↦ absurd (c.in_default.not-OutOfMemory memory)
  | inr e ↦ none_read c.args.digits.now c.in-Err.fault (sym c.are_lower_digits.ensures ∙ c.if-not-are_lower_digits.false) e
]
