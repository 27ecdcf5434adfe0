use Rattle.mesa_shell.specs.Ports.{ports}
use Rattle.mesa_shell.proofs.Ends.{ended_with, lacked, opening_failed}
use Rattle.mesa_shell.proofs.Ran.{script_ran, unrun_sound}
use Rattle.mesa_shell.proofs.shell.run_script.Goals as goal

pub returns-in-Err : goal.returns-in-Err
returns-in-Err g c =
    let p = ports g.K.Sink.held g.K.Sink.faults g.D.Disk.story g.M.Made.bytes g.B.Bench.faults in
    let e = c.ended_opening.ensures in
    opening_failed p c.args.given c.ended_opening.result c.args.script.now c.in-Err.disk c.in-Err.error e.disk c.in-Err.ensures.unopened e.ended

pub returns-in-Ok-run_begun : goal.returns-in-Ok-run_begun
returns-in-Ok-run_begun g c =
    let p = ports g.K.Sink.held g.K.Sink.faults g.D.Disk.story g.M.Made.bytes g.B.Bench.faults in
    script_ran p c.args.given c.args.script.now c.in-Ok.begun c.in-Ok-run_begun.left c.in-Ok.ensures.begun c.in-Ok-run_begun.ensures.ran _ c.run_status.ensures

pub returns-in-Err-run_begun : goal.returns-in-Err-run_begun
returns-in-Err-run_begun g c =
    let p = ports g.K.Sink.held g.K.Sink.faults g.D.Disk.story g.M.Made.bytes g.B.Bench.faults in
    let back = c.in-Err-run_begun.ensures.memory in
    let e = c.lacks_memory.ensures in
    lacked p c.args.given c.lacks_memory.result c.args.script.now c.in-Err-run_begun.given.disk e.disk (unrun_sound p c.args.given c.args.script.now c.in-Ok.begun c.in-Ok.ensures.begun c.in-Err-run_begun.given back)
    (ended_with p c.in-Err-run_begun.given c.args.given c.lacks_memory.result back.held back.faults back.same _ _ e.ended)
