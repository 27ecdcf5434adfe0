use Rattle.std.proofs.Common.{◌≡◌, ◌++◌, map}
use Rattle.std.specs.VecDeque.Iter.{deque_iter_rest}
use Rattle.mesa_oracle_tables.specs.Kept.{all_shared, contents_lifted}
use Rattle.mesa_oracle_tables.proofs.changing.versions_lifted.Given as goal

-- the versions so far are lifted, and then come those that are left
abbrev pub invariant-versions : goal.invariant-versions
invariant-versions l = all_shared l.lifted.items ++ map (contents_lifted l.table l.lift) (all_shared (deque_iter_rest l.contents-iterator)) ≡ map (contents_lifted l.table l.lift) (all_shared l.versions.items)
