use Rattle.std.proofs.Common.{◌≡◌, false, vec_capacity, vec_len, None}
use Rattle.std.specs.List.{AllByRecursion}
use Rattle.mesa_disk.specs.Story.{Unmoved}
use Rattle.mesa_open_files.specs.Opening.{Counted}
use Rattle.mesa_pick_files.specs.Parts.{AreReaders}
use Rattle.mesa_pick_files.proofs.parts.open_further.Given as goal

-- the further readers so far
abbrev pub invariant-parts : goal.invariant-parts
invariant-parts g l = record {
  unmoved : Unmoved (g.D.Disk.story l.initial.disk) (g.D.Disk.story l.disk);
  counted : Counted (g.D.Disk.story l.initial.disk) (g.D.Disk.story l.disk) false;
  spare : AllByRecursion (AreReaders g.D.Reader.FileReader.bytes g.D.Reader.FileReader.faults (g.D.Disk.story l.initial.disk).told l.wanted None) l.spare.items;
  len : vec_len l.spare ≡ l.counter;
  room : vec_capacity l.spare ≡ l.more;
}
