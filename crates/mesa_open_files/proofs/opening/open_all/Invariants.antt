use Rattle.std.proofs.Common.{◌≡◌, length, false, vec_len, vec_capacity, take, None}
use Rattle.mesa_disk.specs.Story.{Unmoved}
use Rattle.mesa_open_files.specs.Opening.{Counted, HaveOpened}
use Rattle.mesa_open_files.proofs.opening.open_all.Given as goal

abbrev pub invariant-files : goal.invariant-files
invariant-files g l = record {
  unmoved : Unmoved (g.D.Disk.story l.initial.disk) (g.D.Disk.story l.disk);
  counted : Counted (g.D.Disk.story l.initial.disk) (g.D.Disk.story l.disk) false;
  opened : HaveOpened g.D.Reader.FileReader.bytes g.D.Reader.FileReader.faults (g.D.Disk.story l.initial.disk).told (take l.one-index l.wanted) l.inputs.items None;
  len : vec_len l.inputs ≡ l.one-index;
  room : vec_capacity l.inputs ≡ length l.wanted;
}
