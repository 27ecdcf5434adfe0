use Rattle.std.proofs.Common.{◌≡◌, length, arith, refl}
use Rattle.std.proofs.lemmas.Simd.{get_or-replicate}
use Rattle.mesa_sha256.proofs.Lanes.{lane_at}
use Rattle.mesa_sha256.proofs.compressing.round.Goals as goal

pub returns : goal.returns
returns c = λ l lt.
    let v = c.args.v in
    let long : length v ≡ 8 = omega arith in
    rw (
      c.add-3.ensures l lt,
      c.add-4.ensures l lt,
      c.add-two.ensures l lt,
      c.sums.ensures l lt,
      c.majority.ensures l lt,
      c.add-one.ensures l lt,
      c.add-2.ensures l lt,
      c.add-front.ensures l lt,
      c.add.ensures l lt,
      c.choices.ensures l lt,
      c.chosen.ensures l lt,
      get_or-replicate 4 l c.args.k 0 lt,
      lane_at l 0 v (omega (arith, long)),
      lane_at l 1 v (omega (arith, long)),
      lane_at l 2 v (omega (arith, long)),
      lane_at l 3 v (omega (arith, long)),
      lane_at l 4 v (omega (arith, long)),
      lane_at l 5 v (omega (arith, long)),
      lane_at l 6 v (omega (arith, long)),
      lane_at l 7 v (omega (arith, long)),
    ) refl
