use Rattle.mesa_disk.specs.Files.{files_of}
use Rattle.mesa_disk.proofs.Run.{spans_weaken}
use Rattle.mesa_store_spec.specs.Catalog.{applied}
use Rattle.mesa_store_spec.specs.Fitting.{brought, live_files}
use Rattle.mesa_store_spec.specs.Sound.{wants}
use Rattle.mesa_store.proofs.Joined.{brings, either, held_on}
use Rattle.mesa_store.proofs.writing.write_record.Goals as goal

pub returns-in_err-end-clause-images : goal.returns-in_err-end-clause-images
returns-in_err-end-clause-images g c bodies k rows r writes =
    let s0 = g.D.Disk.story c.args.disk.now in
    let made = files_of g.M.Made.bytes c.args.made.items in
    spans_weaken _ _ s0 (g.D.Disk.story c.commit_turn.new.disk)
    (c.commit_turn.ensures.images bodies (wants rows (live_files k)) (wants rows (brought k r)) (wants rows (live_files (applied k r))) writes.brings (brings s0 c.args.live bodies c.args.end k rows r c.args.framed.now made c.args.dropped.now writes))
    (either s0 c.args.live bodies c.args.end k rows r c.args.framed.now made c.args.dropped.now writes)

pub returns-clause-images : goal.returns-clause-images
returns-clause-images g c bodies k rows r writes =
    let s0 = g.D.Disk.story c.args.disk.now in
    let made = files_of g.M.Made.bytes c.args.made.items in
    spans_weaken _ _ s0 (g.D.Disk.story c.commit_turn.new.disk)
    (c.commit_turn.ensures.images bodies (wants rows (live_files k)) (wants rows (brought k r)) (wants rows (live_files (applied k r))) writes.brings (brings s0 c.args.live bodies c.args.end k rows r c.args.framed.now made c.args.dropped.now writes))
    (either s0 c.args.live bodies c.args.end k rows r c.args.framed.now made c.args.dropped.now writes)

pub returns-clause-done : goal.returns-clause-done
returns-clause-done g c bodies k rows r writes =
    let s0 = g.D.Disk.story c.args.disk.now in
    let made = files_of g.M.Made.bytes c.args.made.items in
    held_on s0 c.args.live bodies c.args.end k rows r c.args.framed.now made c.args.dropped.now writes (g.D.Disk.story c.commit_turn.new.disk)
    (c.in_ok-end.ensures.done bodies (wants rows (live_files k)) (wants rows (brought k r)) (wants rows (live_files (applied k r))) writes.brings (brings s0 c.args.live bodies c.args.end k rows r c.args.framed.now made c.args.dropped.now writes))
