use Rattle.std.proofs.Common.{map}
use Rattle.std.proofs.lemmas.Result.{err_from_is_err_and}
use Rattle.std.proofs.lemmas.List.{map_push, drop_more, drop_all}
use Rattle.mesa_block.specs.Reading.{piece_at}
use Rattle.mesa_block.proofs.Walk.{goes_on, ends, is_done}
use Rattle.mesa_block.proofs.reading.pieces_of.Goals as goal

pub returns-in_err-piece : goal.returns-in_err-piece
returns-in_err-piece c =
    let p = err_from_is_err_and c.from_residual-in_err-piece.result c.from_residual-in_err-piece.ensures.1 in
    rw (p.1, p.2) (ends piece_at c.in_err-piece.field-0.0 (map (λ k. k.now) c.loop-len.pieces.items) _ _ _ c.loop-len.rest.now _ (drop_more c.args.lengths.now c.loop-len.len-index 0 c.loop-len-test.true) c.in_err-piece.ensures c.loop-len.invariant)

pub loop-len-preserved : goal.loop-len-preserved
loop-len-preserved c =
    let e = c.in_ok-push.ensures.items in
    rw (e, map_push) (goes_on piece_at (map (λ k. k.now) c.loop-len.pieces.items) _ _ _ c.loop-len.rest.now c.in_ok-piece.piece.now c.in_ok-piece.after.now _ (drop_more c.args.lengths.now c.loop-len.len-index 0 c.loop-len-test.true) c.in_ok-piece.ensures c.loop-len.invariant)

pub returns : goal.returns
returns c = is_done piece_at (map (λ k. k.now) c.loop-len.pieces.items) _ c.loop-len.rest.now _ (drop_all c.loop-len.len-index c.args.lengths.now c.loop-len-test.false) c.loop-len.invariant
