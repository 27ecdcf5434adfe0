use Rattle.std.proofs.Common.{vec_len}
use Rattle.mesa_disk.specs.Story.{Unmoved}
use Rattle.mesa_open_files.proofs.Retired.{HaveGiven}
use Rattle.mesa_open_files.proofs.giving_back.retire_all.Given as goal

abbrev pub invariant-inputs : goal.invariant-inputs
invariant-inputs g l =
    Unmoved (g.D.Disk.story l.initial.disk) (g.D.Disk.story l.disk)
    × HaveGiven (λ is. is) g.D.Reader.FileReader.faults l.initial.inputs.items l.inputs.items (g.D.Disk.story l.initial.disk) (g.D.Disk.story l.disk)

abbrev pub decreases-inputs : goal.decreases-inputs
decreases-inputs g l = vec_len l.inputs
