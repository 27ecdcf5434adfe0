use Rattle.std.proofs.Common.{◌<◌, length, sym, subst, slice_index_or, arith}
use denote.Param.Send.{sendable}
use Rattle.mesa_load.specs.FilesToWrite.{IsReady}
use Rattle.mesa_load.proofs.building.write_jobs.Goals as goal

pub for_each_mut-requires-clause-accepts : goal.for_each_mut-requires-clause-accepts
for_each_mut-requires-clause-accepts g c κs within =
    λ i p lt is.
    let below : i < length c.args.jobs.now = omega (arith, c.requires.each) in
    let m = c.type_bounds.send-M in
    let t = c.type_bounds.send-T in (
      (search sendable, search sendable, below, (λ j. subst (IsReady g.T.Draft.bytes g.T.Draft.id_of (slice_index_or c.args.jobs.now i j)) (sym is) (c.requires.ready i j p.now below))),
      (search sendable, search sendable),
    )
