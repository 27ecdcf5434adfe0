use Rattle.std.proofs.Common.{vec_len, flat_map}
use Rattle.mesa_disk.specs.Story.{Unmoved}
use Rattle.mesa_open_files.specs.Recasts.{own}
use Rattle.mesa_open_files.proofs.Retired.{HaveGiven}
use Rattle.mesa_open_files.proofs.giving_back.retire_ranges.Given as goal

abbrev pub invariant-each : goal.invariant-each
invariant-each g l =
    Unmoved (g.D.Disk.story l.initial.disk) (g.D.Disk.story l.disk)
    × HaveGiven (flat_map own) g.D.Reader.FileReader.faults l.initial.ranges.items l.ranges.items (g.D.Disk.story l.initial.disk) (g.D.Disk.story l.disk)

abbrev pub decreases-each : goal.decreases-each
decreases-each g l = vec_len l.ranges
