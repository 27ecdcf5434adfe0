use Rattle.std.proofs.Common.{◌≡◌, [], take, true, false, Some}
use Rattle.std.specs.Prelude.{flat_map, slice_get}
use Rattle.mesa_disk.specs.Image.{Image}
use Rattle.mesa_disk.specs.Story.{Unmoved}
use Rattle.mesa_record.specs.declared.record.ViewRef.{ViewRef}
use Rattle.mesa_schema.specs.Changes.{columns_of}
use Rattle.mesa_store_spec.specs.Contents.{present}
use Rattle.mesa_compare.specs.mesa_open_files.Opening.{Counted}
use Rattle.mesa_check.specs.Found.{Found, rows_found}
use Rattle.mesa_check.specs.Faults.{keep_bound, view_key}
use Rattle.mesa_check.specs.Held.{delta_of}
use Rattle.mesa_check.specs.Tested.{AreThere}
use Rattle.mesa_check.proofs.keys.first_view_key.Given as goal

-- none of those so far differs
abbrev pub invariant-views : goal.invariant-views
invariant-views g l = record {
  unmoved : Unmoved (g.D.Disk.story l.fn.disk) (g.D.Disk.story l.disk);
  counted : Counted (g.D.Disk.story l.fn.disk) (g.D.Disk.story l.disk) false;
  none : (i : Image) (found : Found) → (g.D.Disk.story l.fn.disk).told ≡ Some i → AreThere i found l.evolving.value (delta_of l.range) → keep_bound (columns_of l.evolving.value) (present (rows_found found) l.evolving.value (delta_of l.range)) ≡ true
      → flat_map (λ (v : ViewRef). view_key found l.evolving.value (delta_of l.range) v (slice_get l.evolving.value.views v.view)) (take l.view-index l.files.views) ≡ [];
}
