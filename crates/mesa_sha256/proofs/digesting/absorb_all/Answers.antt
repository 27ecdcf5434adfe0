use Rattle.std.proofs.Common.{ℕ, List, ◌∙◌, ◌*◌, ap, sym, refl}
use Rattle.sha2.specs.Sha256.{compress, hash_after}
use Rattle.sha2.proofs.Absorbing256.{hash_after_next}
use Rattle.mesa_sha256.specs.Lanes.{lane, one_of}
use Rattle.mesa_sha256.proofs.Lanes.{block_of}
use Rattle.mesa_sha256.proofs.digesting.absorb_all.Goals as goal

pub loop-i-init : goal.loop-i-init
unfolding hash_after
loop-i-init c = λ l lt. refl

pub loop-i-preserved : goal.loop-i-preserved
loop-i-preserved c = λ l lt.
    let x = c.args in
    let i = c.loop-i.i in
    let whole = one_of l x.a.now x.b.now x.c.now x.d.now in
    let block : List ℕ = one_of l c.block.result.now c.block-in-loop-i.result.now c.block-in-loop-i-2.result.now c.block-in-loop-i-3.result.now in
    c.absorb.ensures l lt ∙ ap (λ (h : List ℕ). compress h block) (c.loop-i.invariant l lt)
    ∙ ap (compress (hash_after (lane l x.state.now) whole i)) (block_of x.a.now x.b.now x.c.now x.d.now _ _ _ _ (i * 64) c.block.ensures.block c.block-in-loop-i.ensures.block c.block-in-loop-i-2.ensures.block c.block-in-loop-i-3.ensures.block l lt)
    ∙ sym (hash_after_next (lane l x.state.now) whole i)
