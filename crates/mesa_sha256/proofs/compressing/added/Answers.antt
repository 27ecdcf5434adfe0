use Rattle.std.proofs.Common.{◌≡◌, length, arith, refl}
use Rattle.mesa_sha256.proofs.Lanes.{lane_at}
use Rattle.mesa_sha256.proofs.compressing.added.Goals as goal

pub returns : goal.returns
returns c = λ l lt.
    let h = c.args.h in
    let v = c.args.v in
    let long : length h ≡ 8 = omega arith in
    let long2 : length v ≡ 8 = omega arith in
    rw (
      c.add.ensures l lt,
      c.add-2.ensures l lt,
      c.add-3.ensures l lt,
      c.add-4.ensures l lt,
      c.add-5.ensures l lt,
      c.add-6.ensures l lt,
      c.add-7.ensures l lt,
      c.add-8.ensures l lt,
      lane_at l 0 h (omega (arith, long)),
      lane_at l 1 h (omega (arith, long)),
      lane_at l 2 h (omega (arith, long)),
      lane_at l 3 h (omega (arith, long)),
      lane_at l 4 h (omega (arith, long)),
      lane_at l 5 h (omega (arith, long)),
      lane_at l 6 h (omega (arith, long)),
      lane_at l 7 h (omega (arith, long)),
      lane_at l 0 v (omega (arith, long2)),
      lane_at l 1 v (omega (arith, long2)),
      lane_at l 2 v (omega (arith, long2)),
      lane_at l 3 v (omega (arith, long2)),
      lane_at l 4 v (omega (arith, long2)),
      lane_at l 5 v (omega (arith, long2)),
      lane_at l 6 v (omega (arith, long2)),
      lane_at l 7 v (omega (arith, long2)),
    ) refl
