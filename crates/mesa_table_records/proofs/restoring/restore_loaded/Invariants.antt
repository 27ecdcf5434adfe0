use Rattle.std.proofs.Common.{◌≡◌, ◌++◌, map}
use Rattle.std.specs.VecDeque.{deque_len}
use Rattle.mesa_catalog_table.specs.Copied.{loaded_as}
use Rattle.mesa_table_records.specs.Stated.{loaded_stated}
use Rattle.mesa_table_records.proofs.restoring.restore_loaded.Given as goal

abbrev pub decreases-singles : goal.decreases-singles
decreases-singles l = deque_len l.left

-- what was loaded so far, and what is left
abbrev pub invariant-singles : goal.invariant-singles
invariant-singles l = map loaded_as l.loaded.items ++ map loaded_stated l.left.items ≡ map loaded_stated l.fn.stated
