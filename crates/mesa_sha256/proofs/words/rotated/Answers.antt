use Rattle.std.proofs.Common.{◌≡◌, ◌-◌, ◌%◌, arith, refl}
use Rattle.mesa_sha256.proofs.words.rotated.Goals as goal

pub returns : goal.returns
returns c = λ l lt.
    let at : c.args.by % 32 ≡ c.args.by = omega arith in
    let up : (32 - c.args.by) % 32 ≡ 32 - c.args.by = omega arith in
    rw (c.or.ensures l lt, c.shifted.ensures l lt, c.raised.ensures l lt, at, up) refl
