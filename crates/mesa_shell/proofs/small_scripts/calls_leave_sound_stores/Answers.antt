use Rattle.mesa_shell.specs.Ports.{ports}
use Rattle.mesa_shell.proofs.Next.{crash_leaves_front, opens_sound, rest_leaves_sound, run_leaves_sound}
use Rattle.mesa_shell.proofs.small_scripts.calls_leave_sound_stores.Goals as goal

pub returns-clause-run : goal.returns-clause-run
returns-clause-run g c held sink_faults bench_faults given done asked input before now =
    let laws = g.met.D.Disk g.world.𝓛 g.world.𝓜 g.world.𝓡 ((λ s x. x), (λ x. x), (λ x. x), λ x. x) in
    run_leaves_sound (ports held sink_faults g.D.Disk.story g.M.Made.bytes bench_faults) given done
    (record { read_is_left = laws.read_is_left done.disk; counts_now = laws.counts_now done.disk; only_now = laws.only_now done.disk }) input before now asked

pub returns-clause-rest : goal.returns-clause-rest
returns-clause-rest g c held sink_faults bench_faults given done asked input before now =
    let laws = g.met.D.Disk g.world.𝓛 g.world.𝓜 g.world.𝓡 ((λ s x. x), (λ x. x), (λ x. x), λ x. x) in
    rest_leaves_sound (ports held sink_faults g.D.Disk.story g.M.Made.bytes bench_faults) given done
    (record { read_is_left = laws.read_is_left done.disk; counts_now = laws.counts_now done.disk; only_now = laws.only_now done.disk }) input before now asked

pub returns-clause-crash : goal.returns-clause-crash
returns-clause-crash g c held sink_faults bench_faults given done asked input before now =
    let laws = g.met.D.Disk g.world.𝓛 g.world.𝓜 g.world.𝓡 ((λ s x. x), (λ x. x), (λ x. x), λ x. x) in
    crash_leaves_front (ports held sink_faults g.D.Disk.story g.M.Made.bytes bench_faults) given done
    (record { read_is_left = laws.read_is_left done.disk; counts_now = laws.counts_now done.disk; only_now = laws.only_now done.disk }) input before now asked

pub returns-clause-opened : goal.returns-clause-opened
returns-clause-opened g c disk =
    let laws = g.met.D.Disk g.world.𝓛 g.world.𝓜 g.world.𝓡 ((λ s x. x), (λ x. x), (λ x. x), λ x. x) in
    opens_sound g.M.Made.bytes (g.D.Disk.story disk) (record { read_is_left = laws.read_is_left disk; counts_now = laws.counts_now disk; only_now = laws.only_now disk })
