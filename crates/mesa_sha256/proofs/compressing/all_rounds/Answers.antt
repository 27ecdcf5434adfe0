use Rattle.std.proofs.Common.{arith}
use Rattle.sha2.proofs.Schedule256.{IsRoundsAt_at}
use Rattle.mesa_sha256.specs.Lanes.{lane}
use Rattle.mesa_sha256.proofs.compressing.all_rounds.Goals as goal

pub returns : goal.returns
returns c = λ l b lt window.
    let h = lane l c.args.h in
    let s1 = c.sixteen_steps-v.ensures l b h lt (IsRoundsAt_at b h _ _ _ _ (omega arith) (window, c.first_steps-v.ensures l b lt window)) in
    let s2 = c.sixteen_steps-v-2.ensures l b h lt (IsRoundsAt_at b h _ _ _ _ (omega arith) s1) in
    let s3 = c.sixteen_steps.ensures l b h lt (IsRoundsAt_at b h _ _ _ _ (omega arith) s2) in
    (IsRoundsAt_at b h _ _ _ 64 (omega arith) s3).1
