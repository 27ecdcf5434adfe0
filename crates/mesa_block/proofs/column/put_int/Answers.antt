use Rattle.std.proofs.Common.{◌≡◌, ℕ, ◌+◌, ◌-◌, ◌*◌, ◌++◌, List, take, drop, sym, ap, ◌∙◌, arith}
use Rattle.std.proofs.lemmas.List.{append-nil}
use Rattle.mesa_block.proofs.Pieces.{beyond_pieces, piece_there}
use Rattle.mesa_block.proofs.column.put_int.Goals as goal

pub returns-then-i-count : goal.returns-then-i-count
returns-then-i-count c =
    let there = c.args.to.now.items in
    sym (append-nil there) ∙ ap (λ (l : List ℕ). there ++ l) (sym (beyond_pieces 8 c.args.count c.args.i c.args.bytes.now c.if-i-count.true))

pub returns : goal.returns
returns c =
    let there = c.args.to.now.items in
    let i = c.args.i in
    let eight : 8 * i + 8 - 8 * i ≡ 8 = omega arith in
    c.in_ok-extend_from_slice.ensures.items
    ∙ ap (λ (l : List ℕ). there ++ l) (ap (λ (n : ℕ). take n (drop (8 * i) c.args.bytes.now)) eight ∙ sym (piece_there 8 c.args.count i c.args.bytes.now c.if-i-count.false))
