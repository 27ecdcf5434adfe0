use Rattle.std.proofs.Common.{arith}
use Rattle.sha2.proofs.Schedule256.{IsRoundsAt_at}
use Rattle.mesa_sha256.proofs.compressing.sixteen_steps.Goals as goal

pub returns : goal.returns
returns c = λ l b h lt held.
    let s1 = c.four_steps-v.ensures l b h lt (IsRoundsAt_at b h _ _ _ _ (omega arith) held) in
    let s2 = c.four_steps-v-2.ensures l b h lt s1 in
    let s3 = c.four_steps-v-3.ensures l b h lt s2 in
    let s4 = c.four_steps.ensures l b h lt s3 in
    IsRoundsAt_at b h _ _ _ _ (omega arith) s4
