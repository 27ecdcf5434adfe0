use Rattle.std.proofs.Common.{◌≡◌, ◌≤◌, ◌+◌, ◌++◌, length}
use Rattle.std.specs.VecDeque.{deque_len}
use Rattle.std.specs.List.{list_all}
use Rattle.mesa_schema.specs.Changes.{columns_of}
use Rattle.mesa_schema.specs.Lineages.{is_view_of}
use Rattle.mesa_schema.specs.Views.{max_views}
use Rattle.mesa_table_records.proofs.restored_columns.take_views.Given as goal

abbrev pub decreases-views : goal.decreases-views
decreases-views l = deque_len l.left

-- the views so far, and those that are left
abbrev pub invariant-views : goal.invariant-views
invariant-views l = record {
  lineage : l.evolving ≡ record l.fn.changed.evolving { views = l.evolving.views };
  views : l.evolving.views ++ l.left.items ≡ l.fn.views;
  pass : list_all (is_view_of (columns_of l.fn.changed.evolving)) l.left.items ≡ list_all (is_view_of (columns_of l.fn.changed.evolving)) l.fn.views;
  few : length l.evolving.views + length l.left.items ≤ max_views;
}
