use Rattle.std.proofs.Common.{◌≡◌, List, ℕ, refl, rules}
use Rattle.mesa_delta_format.specs.mesa_block.Spelling.{block}
use Rattle.mesa_delta.proofs.Placing.{closed}
use Rattle.mesa_delta.proofs.Putting.{one_more_pending}
use Rattle.mesa_delta.proofs.blocks.BlockWriter.close.Goals as goal

pub returns-clause-laid : goal.returns-clause-laid
returns-clause-laid g c = λ s f h.
    let old = c.args.self.now in
    let piece : List ℕ = block old.builder.layout old.builder.rows in
    let last : c.last-bytes.result.now ≡ piece = c.last-bytes.ensures _ _ c.in_ok-push.ensures.last in
    closed g.T.Draft.bytes s old _ f c.in-Some.short piece (search rules) refl
    (rw last at c.in_ok-append.ensures.appended)
    (one_more_pending _ _ _ _ _ c.in_ok-make_room.ensures c.in_ok-push.ensures.last)
    (search (rules, last)) (search rules) c.in_ok-push.ensures.empty refl h
