use Rattle.mesa_shell.specs.Ports.{ports}
use Rattle.mesa_shell.proofs.Lives.{lives_law}
use Rattle.mesa_shell.proofs.small_scripts.lives_are_lists_of_runs.Goals as goal

pub returns : goal.returns
returns g c held sink_faults bench_faults =
    let laws = g.met.D.Disk g.world.𝓛 g.world.𝓜 g.world.𝓡 ((λ s x. x), (λ x. x), (λ x. x), λ x. x) in
    lives_law (ports held sink_faults g.D.Disk.story g.M.Made.bytes bench_faults)
    (λ disk. record { read_is_left = laws.read_is_left disk; counts_now = laws.counts_now disk; only_now = laws.only_now disk })
