use Rattle.std.proofs.Common.{◌≡◌, ◌+◌, ◌-◌, ◌*◌, ◌/◌, ℕ, ap, arith, drop, length, take}
use Rattle.mesa_sha256.proofs.Blocks.{block_first, block_later}
use Rattle.mesa_sha256.proofs.padding.block_in.Goals as goal

pub returns-then-i-whole-clause-block : goal.returns-then-i-whole-clause-block
returns-then-i-whole-clause-block c =
    let m = c.args.message.now in
    let i = c.args.i in
    let one : 64 * i + 64 - 64 * i ≡ 64 = omega arith in
    block_first m _ i c.if-i-whole.true (ap (λ (n : ℕ). take n (drop (64 * i) m)) one)

pub returns-else-i-whole-clause-block : goal.returns-else-i-whole-clause-block
returns-else-i-whole-clause-block c =
    let m = c.args.message.now in
    let i = c.args.i in
    let at = 64 * (i - length m / 64) in
    let one : at + 64 - at ≡ 64 = omega arith in
    block_later m c.args.tail.now _ i c.requires.tail c.if-i-whole.false (ap (λ (n : ℕ). take n (drop at c.args.tail.now)) one)
