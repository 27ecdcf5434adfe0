use Rattle.std.proofs.Common.{◌≡◌, [], take, false, Some}
use Rattle.std.specs.Prelude.{flat_map}
use Rattle.std.specs.List.{AllByRecursion}
use Rattle.mesa_disk.specs.Image.{Image}
use Rattle.mesa_disk.specs.Story.{Unmoved}
use Rattle.mesa_store_spec.specs.Fitting.{live_files, meta_live}
use Rattle.mesa_compare.specs.mesa_open_files.Opening.{Counted}
use Rattle.mesa_check.specs.Found.{AreFound, Found}
use Rattle.mesa_check.specs.Faults.{table_faults}
use Rattle.mesa_check.specs.Tested.{HasRows}
use Rattle.mesa_check.proofs.store.check_tables.Given as goal

-- none of those so far has a fault
abbrev pub invariant-metas : goal.invariant-metas
invariant-metas g l = record {
  unmoved : Unmoved (g.D.Disk.story l.fn.disk) (g.D.Disk.story l.disk);
  counted : Counted (g.D.Disk.story l.fn.disk) (g.D.Disk.story l.disk) false;
  none : (i : Image) (found : Found) → (g.D.Disk.story l.fn.disk).told ≡ Some i → AreFound i found (live_files l.catalog.catalogue) → flat_map (table_faults found) (take l.number l.catalog.catalogue.tables) ≡ [];
  there : (i : Image) → (g.D.Disk.story l.fn.disk).told ≡ Some i → AllByRecursion (λ t. AllByRecursion (HasRows i) (meta_live t)) (take l.number l.catalog.catalogue.tables);
}
