use Rattle.std.proofs.Common.{◌≡◌, drop}
use Rattle.std.specs.List.{position_from}
use Rattle.mesa_list.specs.Bytes.{same_bytes}
use Rattle.mesa_catalog.specs.mesa_columns.Columns.{place_of}
use Rattle.mesa_catalog.specs.mesa_catalog_table.Lookups.{view_names}
use Rattle.mesa_validate.proofs.lookups.view_place.Given as goal

-- the views that are left decide
abbrev pub invariant-loop-view : goal.invariant-loop-view
invariant-loop-view l = position_from (same_bytes l.name) l.view (drop l.view (view_names l.evolving)) ≡ place_of l.name (view_names l.evolving)
