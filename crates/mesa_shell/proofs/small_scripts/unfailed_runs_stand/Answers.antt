use Rattle.mesa_shell.specs.Ports.{ports}
use Rattle.mesa_shell.proofs.Unfailed.{runs_unfailed}
use Rattle.mesa_shell.proofs.small_scripts.unfailed_runs_stand.Goals as goal

pub returns : goal.returns
returns g c held sink_faults bench_faults given done input before now = runs_unfailed (ports held sink_faults g.D.Disk.story g.M.Made.bytes bench_faults) given done input before now
