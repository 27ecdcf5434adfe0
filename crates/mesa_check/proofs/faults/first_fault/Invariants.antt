use Rattle.std.proofs.Common.{◌≡◌, ℕ, [], take, true, false, Some}
use Rattle.std.specs.Prelude.{flat_map, IfSome}
use Rattle.std.specs.List.{AllByRecursion}
use Rattle.mesa_disk.specs.Image.{Image}
use Rattle.mesa_disk.specs.Story.{Unmoved}
use Rattle.mesa_pick_files.specs.Lent.{now_if_any}
use Rattle.mesa_catalog_table.specs.Meaning.{meta_of}
use Rattle.mesa_compare.specs.mesa_open_files.Opening.{Counted}
use Rattle.mesa_check.specs.Found.{Found}
use Rattle.mesa_check.specs.Faults.{exceeds_totals, range_faults}
use Rattle.mesa_check.specs.Held.{IsHeld}
use Rattle.mesa_check.specs.Shown.{is_found_in, tested_range}
use Rattle.mesa_check.specs.Tested.{IsRead}
use Rattle.mesa_check.proofs.Earlier.{IsEarlier}
use Rattle.mesa_check.proofs.faults.first_fault.Given as goal

-- none of those so far has a fault
abbrev pub invariant-faults : goal.invariant-faults
invariant-faults g l = record {
  unmoved : Unmoved (g.D.Disk.story l.fn.disk) (g.D.Disk.story l.disk);
  counted : Counted (g.D.Disk.story l.fn.disk) (g.D.Disk.story l.disk) false;
  none : (next : ℕ) (i : Image) (found : Found) → IsHeld next l.table → (g.D.Disk.story l.fn.disk).told ≡ Some i → AllByRecursion (IsRead i found l.table.evolving.value) l.tests → l.exceeds ≡ exceeds_totals found (meta_of next l.table)
      → flat_map (λ t. range_faults found (meta_of next l.table) (tested_range t)) (take l.one-index l.tests) ≡ [];
  before : IfSome (now_if_any l.before) (IsEarlier l.tests l.one-index);
  there : AllByRecursion (λ t. is_found_in t ≡ true) (take l.one-index l.tests);
}
