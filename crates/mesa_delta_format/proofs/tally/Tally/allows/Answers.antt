use Rattle.std.proofs.Common.{◌<◌, length, arith, refl}
use Rattle.mesa_delta_format.proofs.tally.Tally.allows.Goals as goal

pub returns-then-self-eq0 : goal.returns-then-self-eq0
returns-then-self-eq0 c = λ rows h. (λ t some. absurd (omega (arith, h.rows, c.if-self-eq0.true)), λ f. refl)

pub returns : goal.returns
returns c = λ rows h.
    let some : 0 < length rows = omega (arith, h.rows, c.if-self-eq0.false) in
    let is = rw (c.values.ensures.same, c.deref.ensures.value, h.totals) at c.all_combine.ensures in
    (λ t more. is.0 t, λ f. is.1 (f some))
