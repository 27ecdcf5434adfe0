use Rattle.std.proofs.Common.{◌≡◌, ℕ, List, drop, length}
use Rattle.std.specs.Prelude.{slice_get, Some}
use Rattle.mesa_open_files.specs.mesa_columns.declared.rows.Row.{Row}
use Rattle.mesa_open_files.specs.mesa_columns.declared.views.View.{View}
use Rattle.mesa_schema.specs.Changes.{columns_of}
use Rattle.mesa_file.specs.Serials.{after_drafts, drawn}
use Rattle.mesa_open_files.specs.Made.{IsMadeFile, content_of}
use Rattle.mesa_open_files.specs.declared.made.MadeView.{MadeView}
use Rattle.mesa_compact.specs.Grouping.{HavePut}
use Rattle.mesa_compact.proofs.views.view_files.Given as goal

abbrev pub invariant-views : goal.invariant-views
invariant-views g l = record {
  left : l.left.items ≡ drop l.view l.fn.groups.items;
  count : length l.made.items ≡ l.view;
  made : (rows : List Row) → HavePut l.fn.groups.items rows → (j : ℕ) (v : View) (m : MadeView g.row.M.Denot) → slice_get l.evolving.views j ≡ Some v → slice_get l.made.items j ≡ Some m
      → (m.view ≡ j) × IsMadeFile g.M.Made.bytes g.M.Made.id_of (content_of (columns_of l.evolving) rows v) m.file;
  numbered : (j : ℕ) (m : MadeView g.row.M.Denot) → slice_get l.made.items j ≡ Some m → g.M.Made.id_of m.file.made ≡ drawn (after_drafts j l.fn.ids);
  ids : l.ids ≡ after_drafts l.view l.fn.ids;
  faults : g.B.Bench.faults l.bench ≡ g.B.Bench.faults l.fn.bench;
}
