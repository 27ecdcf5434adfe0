use Rattle.mesa_shell.proofs.Opened.{has_begun, unopened_from, unread}
use Rattle.mesa_shell.proofs.opening.open.Goals as goal

pub returns-in-Ok-clause-begun : goal.returns-in-Ok-clause-begun
returns-in-Ok-clause-begun g c =
    let r = c.in-Ok.ensures in
    let b = c.begin.ensures in
    has_begun g.D.Disk.story (g.D.Disk.story c.args.disk) c.in-Ok.opened r.opened r.unmoved r.quiet.0 r.quiet.1 c.begin.result
    b.run b.catalog b.free b.place b.room b.held b.keeps b.filed b.told b.quiet b.clock b.full

pub returns-in-Ok-clause-unopened : goal.returns-in-Ok-clause-unopened
returns-in-Ok-clause-unopened g c =
    let r = c.in-Ok.ensures in
    let b = c.begin.ensures in
    unopened_from g.D.Disk.story (g.D.Disk.story c.args.disk) c.in-Ok.opened r.opened r.unmoved r.quiet.0 r.quiet.1 c.begin.result b.reason b.keeps_err b.told_err b.other b.untouched

pub returns-in-Err-clause-unopened : goal.returns-in-Err-clause-unopened
returns-in-Err-clause-unopened g c =
    let laws = g.met.D.Disk g.world.𝓛 g.world.𝓜 g.world.𝓡 ((λ s x. x), (λ x. x), (λ x. x), λ x. x) in
    let e = c.in-Err.ensures in
    unread (g.D.Disk.story c.args.disk) (g.D.Disk.story c.in-Err.failed.1) c.in-Err.failed.0 e.reason e.unmoved_err (laws.only_now c.in-Err.failed.1) e.other
