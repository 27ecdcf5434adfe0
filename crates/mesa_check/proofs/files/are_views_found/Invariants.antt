use Rattle.std.proofs.Common.{◌≡◌, map, take, true, false, Some}
use Rattle.std.specs.List.{AllByRecursion, list_all}
use Rattle.mesa_disk.specs.Image.{Image}
use Rattle.mesa_disk.specs.Story.{Unmoved}
use Rattle.mesa_store_spec.specs.Fitting.{view_live}
use Rattle.mesa_compare.specs.mesa_open_files.Opening.{Counted}
use Rattle.mesa_check.specs.Found.{AreFound, Found}
use Rattle.mesa_check.specs.Faults.{is_view_found}
use Rattle.mesa_check.specs.Tested.{HasRows}
use Rattle.mesa_check.proofs.files.are_views_found.Given as goal

-- those so far are the recorded ones
abbrev pub invariant-views : goal.invariant-views
invariant-views g l = record {
  unmoved : Unmoved (g.D.Disk.story l.fn.disk) (g.D.Disk.story l.disk);
  counted : Counted (g.D.Disk.story l.fn.disk) (g.D.Disk.story l.disk) false;
  found : (i : Image) (found : Found) → (g.D.Disk.story l.fn.disk).told ≡ Some i → AreFound i found (map (view_live l.evolving.value) (take l.view-index l.views)) → true ≡ list_all (is_view_found found l.evolving.value) (take l.view-index l.views);
  there : (i : Image) → (g.D.Disk.story l.fn.disk).told ≡ Some i → AllByRecursion (HasRows i) (map (view_live l.evolving.value) (take l.view-index l.views));
}
