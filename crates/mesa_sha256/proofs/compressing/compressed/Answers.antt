use Rattle.std.proofs.Common.{◌∙◌, ap}
use Rattle.sha2.specs.Sha256.{add_state, compress}
use Rattle.mesa_sha256.specs.Lanes.{lane, one_of}
use Rattle.mesa_sha256.proofs.compressing.compressed.Goals as goal

pub returns : goal.returns
unfolding compress
returns c = λ l lt.
    let x = c.args in
    let b = one_of l x.a.now x.b.now x.c.now x.d.now in
    c.added.ensures l lt ∙ ap (add_state (lane l x.h)) (c.all_rounds-v.ensures l b lt (c.load.ensures l lt))
