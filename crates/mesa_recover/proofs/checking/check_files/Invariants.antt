use Rattle.std.proofs.Common.{◌≡◌, take, Some}
use Rattle.std.specs.List.{AllByRecursion}
use Rattle.mesa_disk.specs.Image.{Image}
use Rattle.mesa_disk.specs.Story.{Unmoved}
use Rattle.mesa_recover.specs.Damages.{IsAsRecorded}
use Rattle.mesa_recover.proofs.checking.check_files.Given as goal

-- the files so far are as they are recorded, and the disk is as it was
abbrev pub invariant-loop-file : goal.invariant-loop-file
invariant-loop-file g l = record {
  good : (i : Image) → (g.D.Disk.story l.fn.disk).told ≡ Some i → AllByRecursion (IsAsRecorded i) (take l.file-index l.files);
  unmoved : Unmoved (g.D.Disk.story l.fn.disk) (g.D.Disk.story l.disk);
  faults : (g.D.Disk.story l.disk).faults ≡ (g.D.Disk.story l.fn.disk).faults;
  read_faults : (g.D.Disk.story l.disk).read_faults ≡ (g.D.Disk.story l.fn.disk).read_faults;
}
