use Rattle.std.proofs.Common.{◌≡◌, ℕ, ◌+◌, ◌-◌, ◌*◌, take, drop, sym, ap, ◌∙◌, arith}
use Rattle.mesa_block.proofs.Pieces.{beyond_pieces, piece_there}
use Rattle.mesa_block.proofs.column.wide_at.Goals as goal

pub returns-then-i-count : goal.returns-then-i-count
returns-then-i-count c =
    let i = c.args.i in
    let wide : 16 * i + 16 - 16 * i ≡ 16 = omega arith in
    ap (λ (n : ℕ). take n (drop (16 * i) c.args.bytes.now)) wide ∙ sym (piece_there 16 c.args.count i c.args.bytes.now c.if-i-count.true)

pub returns-else-i-count : goal.returns-else-i-count
returns-else-i-count c = sym (beyond_pieces 16 c.args.count c.args.i c.args.bytes.now c.if-i-count.false)
