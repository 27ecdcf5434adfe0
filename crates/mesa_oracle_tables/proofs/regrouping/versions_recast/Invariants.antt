use Rattle.std.proofs.Common.{◌≡◌, ◌++◌, map}
use Rattle.std.specs.List.{AllByRecursion}
use Rattle.std.specs.VecDeque.Iter.{deque_iter_rest}
use Rattle.mesa_oracle_tables.specs.Kept.{all_shared, contents_in, contents_recast}
use Rattle.mesa_oracle_tables.specs.Sound.{CanGroup}
use Rattle.mesa_oracle_tables.proofs.regrouping.versions_recast.Given as goal

-- the versions so far are grouped, and then come those that are left, which may be grouped too
abbrev pub invariant-versions : goal.invariant-versions
invariant-versions l = record {
  may : AllByRecursion (CanGroup l.schema) (contents_in l.table (deque_iter_rest l.contents-iterator));
  made : all_shared l.recast.items ++ map (contents_recast l.table l.schema (record { keys = l.names.keys; values = l.names.values })) (all_shared (deque_iter_rest l.contents-iterator))
      ≡ map (contents_recast l.table l.schema (record { keys = l.names.keys; values = l.names.values })) (all_shared l.versions.items);
}
