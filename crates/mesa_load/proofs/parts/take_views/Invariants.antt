use Rattle.std.proofs.Common.{◌≡◌, ◌++◌, List, drop, length, take}
use Rattle.mesa_open_files.specs.Batches.{made_ids, view_ids}
use Rattle.mesa_open_files.specs.Made.{AreMadeViews, Content}
use Rattle.mesa_load.specs.Plans.{AreMade}
use Rattle.mesa_load.proofs.parts.take_views.Given as goal

abbrev pub invariant-views : goal.invariant-views
invariant-views g l = record {
  made : (contents rest : List Content) → length contents ≡ l.fn.views → AreMade g.M.Made.bytes g.M.Made.id_of (contents ++ rest) l.fn.files.items
      → AreMadeViews g.M.Made.bytes g.M.Made.id_of 0 (take l.view contents) l.taken.items × AreMade g.M.Made.bytes g.M.Made.id_of (drop l.view contents ++ rest) l.files.items;
  ids : view_ids g.M.Made.id_of l.taken.items ++ made_ids g.M.Made.id_of l.files.items ≡ made_ids g.M.Made.id_of l.fn.files.items;
}
