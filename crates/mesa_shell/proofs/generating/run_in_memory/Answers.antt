use Rattle.std.proofs.Common.{◌≡◌, inl, inr, refl, sym, ap, subst, Some}
use Rattle.std.specs.Prelude.{if◌then◌else◌}
use Rattle.mesa_io.specs.Memory.{SinkState}
use Rattle.mesa_shell.specs.Ports.{ports}
use Rattle.mesa_shell.specs.Exit.{EndsShown}
use Rattle.mesa_shell.specs.declared.done.Devices.{Devices}
use Rattle.mesa_shell.proofs.Ends.{ended_with, short_of_memory, unopened}
use Rattle.mesa_shell.proofs.Ran.{refused_told, unrun_sound, whole_run}
use Rattle.mesa_shell.proofs.Showing.{shown_ended}
use Rattle.mesa_shell.proofs.generating.run_in_memory.Goals as goal

pub returns-in-Err : goal.returns-in-Err
returns-in-Err g c =
    let p = ports g.K.Sink.held g.K.Sink.faults g.D.Disk.story g.M.Made.bytes g.B.Bench.faults in
    let e = c.ended_opening.ensures in
    inl (c.in-Err.error, unopened p c.args.given c.ended_opening.result c.in-Err.disk c.in-Err.error e.disk c.in-Err.ensures.unopened e.ended)

pub returns-in-Ok-run_begun : goal.returns-in-Ok-run_begun
returns-in-Ok-run_begun g c =
    let p = ports g.K.Sink.held g.K.Sink.faults g.D.Disk.story g.M.Made.bytes g.B.Bench.faults in
    let m = ports (λ (s : SinkState). Some s.held) (λ (s : SinkState). s.faults) g.D.Disk.story g.M.Made.bytes g.B.Bench.faults in
    let left = c.in-Ok-run_begun.left in
    let script = c.args.script.now in
    let given : Devices SinkState _ _ = record { out = c.new-memory.result; disk = c.args.given.disk; benches = c.args.given.benches } in
    let has = c.in-Ok.ensures.begun in
    let ran = c.in-Ok-run_begun.ensures.ran in
    let s = c.show.ensures in
    let n = if left.failed then 5 else (if left.refused then 1 else 0) in
    let same : c.show.result ≡ record { status = c.show.result.status; out = c.show.result.out; disk = left.disk; benches = left.benches; history = left.history } =
    λ i. record { status = c.show.result.status; out = c.show.result.out; disk = s.disk i; benches = s.benches i; history = s.history i } in
    subst (λ d. EndsShown p c.args.given d c.args.seed c.args.versions script) (sym same)
    (shown_ended g.K.Sink.held g.K.Sink.faults (λ (s : SinkState). Some s.held) (λ (s : SinkState). s.faults) g.D.Disk.story g.M.Made.bytes g.B.Bench.faults
    c.args.given c.new-memory.result left left.out.held c.show.result.status c.show.result.out c.args.seed c.args.versions script has.catalogue (ap Some c.new-memory.ensures.held) refl
    n (whole_run m given script c.in-Ok.begun left has ran n refl) c.requires.read (refused_told m given script c.in-Ok.begun left has ran) s.shown s.failed)

pub returns-in-Err-run_begun : goal.returns-in-Err-run_begun
returns-in-Err-run_begun g c =
    let p = ports g.K.Sink.held g.K.Sink.faults g.D.Disk.story g.M.Made.bytes g.B.Bench.faults in
    let m = ports (λ (s : SinkState). Some s.held) (λ (s : SinkState). s.faults) g.D.Disk.story g.M.Made.bytes g.B.Bench.faults in
    let given : Devices SinkState _ _ = record { out = c.new-memory.result; disk = c.args.given.disk; benches = c.args.given.benches } in
    let back = c.in-Err-run_begun.ensures.memory in
    let unrun = c.in-Err-run_begun.unrun in
    let e = c.lacks_memory.ensures in
    inr (inr (short_of_memory p c.args.given c.lacks_memory.result unrun.disk e.disk (unrun_sound m given c.args.script.now c.in-Ok.begun c.in-Ok.ensures.begun unrun back)
    (ended_with p (record { out = c.args.given.out; disk = unrun.disk; benches = unrun.benches }) c.args.given c.lacks_memory.result refl refl back.same _ _ e.ended)))
