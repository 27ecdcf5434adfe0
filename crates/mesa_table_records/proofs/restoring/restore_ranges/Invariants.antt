use Rattle.std.proofs.Common.{◌≡◌, ◌++◌, map}
use Rattle.std.specs.VecDeque.{deque_len}
use Rattle.mesa_catalog_table.specs.Copied.{value_in}
use Rattle.mesa_table_records.specs.Stated.{delta_stated}
use Rattle.mesa_table_records.proofs.restoring.restore_ranges.Given as goal

abbrev pub decreases-deltas : goal.decreases-deltas
decreases-deltas l = deque_len l.left

-- the deltas so far, and what is left
abbrev pub invariant-deltas : goal.invariant-deltas
invariant-deltas l = map value_in l.deltas.items ++ map delta_stated l.left.items ≡ map delta_stated l.fn.stated
