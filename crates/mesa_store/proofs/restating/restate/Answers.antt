use Rattle.mesa_disk.proofs.Run.{spans_weaken}
use Rattle.mesa_store_spec.specs.Fitting.{live_files}
use Rattle.mesa_store_spec.specs.Sound.{wants}
use Rattle.mesa_store.proofs.Gates.{takes_over, either_stands, held_restated}
use Rattle.mesa_store.proofs.restating.restate.Goals as goal

pub returns-in_err-end-clause-images : goal.returns-in_err-end-clause-images
returns-in_err-end-clause-images g c bodies end k rows r =
    let s0 = g.D.Disk.story c.args.disk.now in
    spans_weaken _ _ s0 (g.D.Disk.story c.restate.new.disk)
    (c.restate.ensures.images bodies end (wants rows (live_files k)) (takes_over c.args.live bodies end k rows c.args.framed.now s0 r))
    (either_stands c.args.live bodies end k rows c.args.framed.now s0 r)

pub returns-clause-images : goal.returns-clause-images
returns-clause-images g c bodies end k rows r =
    let s0 = g.D.Disk.story c.args.disk.now in
    spans_weaken _ _ s0 (g.D.Disk.story c.restate.new.disk)
    (c.restate.ensures.images bodies end (wants rows (live_files k)) (takes_over c.args.live bodies end k rows c.args.framed.now s0 r))
    (either_stands c.args.live bodies end k rows c.args.framed.now s0 r)

pub returns-clause-done : goal.returns-clause-done
returns-clause-done g c bodies end k rows r =
    let s0 = g.D.Disk.story c.args.disk.now in
    held_restated c.args.live bodies end k rows c.args.framed.now s0 r (g.D.Disk.story c.restate.new.disk)
    (c.in_ok-end.ensures.done bodies end (wants rows (live_files k)) (takes_over c.args.live bodies end k rows c.args.framed.now s0 r))
