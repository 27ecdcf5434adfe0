use Rattle.std.proofs.Common.{◌≡◌, ◌+◌, ◌%◌, length, arith, refl}
use Rattle.mesa_sha256.proofs.Lanes.{lane_at}
use Rattle.mesa_sha256.proofs.compressing.next_word.Goals as goal

pub returns-clause-value : goal.returns-clause-value
returns-clause-value c = λ l lt.
    let w = c.args.w.now in
    let p = c.args.place in
    let long : length w ≡ 16 = omega arith in
    let at : p % 16 ≡ p = omega arith in
    rw (
      c.add-word.ensures l lt,
      c.add.ensures l lt,
      c.add-front.ensures l lt,
      c.late.ensures l lt,
      c.early.ensures l lt,
      lane_at l ((p + 14) % 16) w (omega (arith, long)),
      lane_at l ((p + 9) % 16) w (omega (arith, long)),
      lane_at l ((p + 1) % 16) w (omega (arith, long)),
      at,
      lane_at l p w (omega (arith, long)),
    ) refl
