use Rattle.std.proofs.lemmas.Bool.{false≢true}
use Rattle.mesa_delta_format.proofs.Entering.{past}
use Rattle.mesa_delta_format.proofs.place.follow.Goals as goal

pub returns-then-entry-place : goal.returns-then-entry-place
returns-then-entry-place c =
    let l = c.loop-entry in
    (λ f. absurd (false≢true f), λ h. absurd (past l.at c.args.entries.now c.args.place l.entry-index _ c.loop-entry-test.true c.if-entry-place.true (l.invariant.from h)))
