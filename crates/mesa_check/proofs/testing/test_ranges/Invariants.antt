use Rattle.std.proofs.Common.{◌≡◌, map, take, false}
use Rattle.std.specs.List.{AllByRecursion}
use Rattle.mesa_disk.specs.Story.{Unmoved}
use Rattle.mesa_compare.specs.mesa_open_files.Opening.{Counted}
use Rattle.mesa_check.specs.Tested.{IsTestOf, range_of}
use Rattle.mesa_check.proofs.testing.test_ranges.Given as goal

-- the ranges so far are tested
abbrev pub invariant-each : goal.invariant-each
invariant-each g l = record {
  unmoved : Unmoved (g.D.Disk.story l.fn.disk) (g.D.Disk.story l.disk);
  counted : Counted (g.D.Disk.story l.fn.disk) (g.D.Disk.story l.disk) false;
  ranges : map range_of l.tests.items ≡ take l.range-index l.ranges;
  tests : AllByRecursion (IsTestOf (g.D.Disk.story l.fn.disk).told l.evolving.value) l.tests.items;
}
