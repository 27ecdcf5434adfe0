use Rattle.std.proofs.Common.{rules, ◌≡◌, ◌∙◌, inl, inr, [], length, arith}
use Rattle.std.proofs.lemmas.List.{get_or-set_same, get_or-set_other}
use Rattle.std.proofs.lemmas.Bool.{cases_lt}
use Rattle.sha2.proofs.Schedule256.{IsWindow_first}
use Rattle.mesa_sha256.specs.Lanes.{lane, one_of}
use Rattle.mesa_sha256.proofs.Lanes.{lane_at, lane_count}
use Rattle.mesa_sha256.proofs.compressing.load.Goals as goal

pub loop-i-preserved : goal.loop-i-preserved
loop-i-preserved c = (
  search rules,
  λ k j lt less. elim (cases_lt k c.loop-i.i) [
    | inl a ↦ rw (get_or-set_other c.loop-i.w c.loop-i.i k c.words.result [] (omega arith)) (c.loop-i.invariant.1 k j a less)
    | inr b ↦
        let e : c.loop-i.i ≡ k = omega arith in
        rw (← e) (rw (get_or-set_same c.loop-i.w c.loop-i.i c.words.result [] (omega (arith, c.loop-i.invariant.0, c.loop-i-test.true))) (c.words.ensures j less))
  ],
)

pub returns : goal.returns
returns c = λ l lt.
    let x = c.args in
    let w = c.loop-i.w in
    let long : length w ≡ 16 = c.loop-i.invariant.0 in
    IsWindow_first (one_of l x.a.now x.b.now x.c.now x.d.now) (lane l w) (lane_count l w ∙ long)
    (λ k less. lane_at l k w (omega (arith, long, less)) ∙ c.loop-i.invariant.1 k l (omega (arith, less, c.loop-i-test.false)) lt)
