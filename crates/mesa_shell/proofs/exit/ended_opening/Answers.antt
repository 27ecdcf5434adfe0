use Rattle.std.proofs.Common.{◌∙◌, ap}
use Rattle.std.specs.Prelude.{if◌then◌else◌}
use Rattle.mesa_print.proofs.Printing.{printed_then}
use Rattle.mesa_shell.specs.Ports.{ports}
use Rattle.mesa_shell.proofs.Printing.{printed_ends}
use Rattle.mesa_shell.proofs.exit.ended_opening.Goals as goal

pub returns-clause-ended : goal.returns-clause-ended
returns-clause-ended g c =
    let w = c.without_run.ensures in
    let p = printed_then _ _ _ _ _ _ _ c.put.ensures (printed_then _ _ _ _ _ _ _ c.put_open_error.ensures c.put-2.ensures) in
    let status = w.status ∙ ap (λ n. if c.put-2.new.self.broken then 5 else n) c.status_of.ensures in
    printed_ends (ports g.K.Sink.held g.K.Sink.faults g.D.Disk.story g.M.Made.bytes g.B.Bench.faults) c.args.given c.without_run.result _ _ _ p status w.out w.benches w.history
