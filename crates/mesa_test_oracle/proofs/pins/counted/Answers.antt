use Rattle.std.proofs.Common.{◌≡◌, ◌∙◌, ◌+◌, ◌-◌, ap, arith, length, set}
use Rattle.std.proofs.lemmas.Grind.{common_steps}
use Rattle.mesa_model.specs.Pins.{count_at}
use Rattle.mesa_test_oracle.proofs.Pinnings.{padded}
use Rattle.mesa_test_oracle.proofs.pins.counted.Goals as goal

pub returns-clause-more : goal.returns-clause-more
returns-clause-more c =
    let counts = c.args.counts.now in
    let session = c.args.session in
    let n = c.sessions._more - length counts in
    let now = c.at_mut-count.result.now in
    let one : now + 1 ≡ count_at counts session + 1 = grind (arith, common_steps) in
    ap (λ ws. set ws session (now + 1)) c.sessions.invariant.padded ∙ padded counts session n (now + 1) (omega (arith, c.sessions-test.false)) c.sessions.invariant.top one
