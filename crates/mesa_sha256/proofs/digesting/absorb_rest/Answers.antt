use Rattle.std.proofs.Common.{ℕ, List, ◌∙◌, ap, sym}
use Rattle.sha2.specs.Sha256.{compress, hash_after}
use Rattle.sha2.proofs.Absorbing256.{hash_after_next}
use Rattle.mesa_sha256.specs.Lanes.{one_of}
use Rattle.mesa_sha256.proofs.Lanes.{same_block}
use Rattle.mesa_sha256.proofs.digesting.absorb_rest.Goals as goal

pub loop-i-preserved : goal.loop-i-preserved
loop-i-preserved c = λ l h lt held.
    let p = c.args.message.now in
    let i = c.loop-i.i in
    let b : List ℕ = c.block-block.result.now in
    c.absorb.ensures l lt ∙ ap (λ (s : List ℕ). compress s (one_of l b b b b)) (c.loop-i.invariant l h lt held)
    ∙ ap (compress (hash_after h p i)) (same_block b l lt ∙ c.block-block.ensures.block)
    ∙ sym (hash_after_next h p i)
