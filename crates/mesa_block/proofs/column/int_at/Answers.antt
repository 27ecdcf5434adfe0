use Rattle.std.proofs.Common.{◌≡◌, ℕ, ◌+◌, ◌-◌, ◌*◌, take, drop, sym, ap, ◌∙◌, arith}
use Rattle.mesa_block.proofs.Pieces.{beyond_pieces, piece_there}
use Rattle.mesa_block.proofs.column.int_at.Goals as goal

pub returns-then-i-count : goal.returns-then-i-count
returns-then-i-count c =
    let i = c.args.i in
    let eight : 8 * i + 8 - 8 * i ≡ 8 = omega arith in
    ap (λ (n : ℕ). take n (drop (8 * i) c.args.bytes.now)) eight ∙ sym (piece_there 8 c.args.count i c.args.bytes.now c.if-i-count.true)

pub returns-else-i-count : goal.returns-else-i-count
returns-else-i-count c = sym (beyond_pieces 8 c.args.count c.args.i c.args.bytes.now c.if-i-count.false)
