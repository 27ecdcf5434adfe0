use Rattle.std.proofs.Common.{◌≡◌, ◌++◌}
use Rattle.std.specs.List.{AllByRecursion}
use Rattle.std.specs.List.Sorted.{IsStrictlySortedBy}
use Rattle.std.specs.Map.{keys_of}
use Rattle.mesa_answer.specs.Held.{Entry, StandsAt, key_cmp, rows_in}
use Rattle.mesa_answer.proofs.held.listed.Given as goal

-- the groups so far and those that are left are all, and those that are left stand at their places
abbrev pub invariant-loop-key : goal.invariant-loop-key
invariant-loop-key l = record {
  next : (goal.iterator-loop-key).can_next l.key-iterator;
  ends : (goal.iterator-loop-key).is_finite l.key-iterator;
  rise : IsStrictlySortedBy key_cmp (keys_of l.key-iterator);
  stand : AllByRecursion (λ (e : Entry). StandsAt l.groups.items e.1 e.0.items) l.key-iterator;
  done : l.rows.items ++ rows_in l.groups.items l.key-iterator ≡ rows_in l.fn.groups.items l.fn.places.entries;
}
