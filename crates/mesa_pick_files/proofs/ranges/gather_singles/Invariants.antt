use Rattle.std.proofs.Common.{ℕ, ◌≤◌, length, take, false}
use Rattle.std.specs.List.{AllByRecursion}
use Rattle.mesa_disk.specs.Story.{Unmoved}
use Rattle.mesa_catalog_table.specs.Meaning.{IsTable, meta_of}
use Rattle.mesa_open_files.specs.Opening.{Counted}
use Rattle.mesa_pick_files.specs.Ranges.{HasMore}
use Rattle.mesa_pick_files.proofs.Ranging.{HoldsSingle}
use Rattle.mesa_pick_files.proofs.ranges.gather_singles.Given as goal

-- the singletons so far
abbrev pub invariant-singles : goal.invariant-singles
invariant-singles g l = record {
  unmoved : Unmoved (g.D.Disk.story l.initial.disk) (g.D.Disk.story l.disk);
  counted : Counted (g.D.Disk.story l.initial.disk) (g.D.Disk.story l.disk) false;
  place : l.place ≤ length l.ranges.items;
  more : (next : ℕ) → IsTable next l.table → HasMore g.D.Reader.FileReader.bytes g.D.Reader.FileReader.faults (g.D.Disk.story l.initial.disk).told (meta_of next l.table) l.initial.ranges.items l.ranges.items;
  held : AllByRecursion (HoldsSingle l.ranges.items) (take l.single-index l.table.loaded.items);
}
