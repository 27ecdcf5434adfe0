use Rattle.std.proofs.Common.{vec_len, flat_map}
use Rattle.mesa_disk.specs.Story.{Unmoved}
use Rattle.mesa_open_files.specs.GivingBack.{spare_inputs}
use Rattle.mesa_open_files.proofs.Retired.{HaveGiven}
use Rattle.mesa_open_files.proofs.giving_back.retire_spares.Given as goal

abbrev pub invariant-spares : goal.invariant-spares
invariant-spares g l =
    Unmoved (g.D.Disk.story l.initial.disk) (g.D.Disk.story l.disk)
    × HaveGiven (flat_map spare_inputs) g.D.Reader.FileReader.faults l.initial.spares.items l.spares.items (g.D.Disk.story l.initial.disk) (g.D.Disk.story l.disk)

abbrev pub decreases-spares : goal.decreases-spares
decreases-spares g l = vec_len l.spares
