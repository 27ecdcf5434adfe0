use Rattle.std.proofs.Common.{refl}
use Rattle.sha2.specs.Sha256.{rounds}
use Rattle.mesa_sha256.specs.Lanes.{lane}
use Rattle.mesa_sha256.proofs.compressing.first_steps.Goals as goal

pub returns : goal.returns
unfolding rounds
returns c = λ l b lt window.
    let h = lane l c.args.h in
    let s1 = c.first_four_steps-v.ensures l b h lt window refl in
    let s2 = c.first_four_steps-v-2.ensures l b h lt window s1 in
    let s3 = c.first_four_steps-v-3.ensures l b h lt window s2 in
    c.first_four_steps.ensures l b h lt window s3
