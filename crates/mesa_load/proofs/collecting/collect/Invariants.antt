use Rattle.std.proofs.Common.{◌≡◌, ◌≤◌, ◌+◌, ◌++◌, map, length, vec_capacity}
use Rattle.std.specs.Prelude.{IfErr, OnOk}
use Rattle.std.specs.List.{AllByRecursion}
use Rattle.std.specs.VecDeque.{deque_len}
use Rattle.mesa_load.specs.Collected.{HasCause, IsUnwritten, finished}
use Rattle.mesa_load.proofs.collecting.collect.Given as goal

abbrev pub decreases-files : goal.decreases-files
decreases-files g l = deque_len l.left

abbrev pub invariant-files : goal.invariant-files
invariant-files g l = record {
  told : AllByRecursion (HasCause g.B.Draft.Draft.faults) l.left.items;
  kept : OnOk l.kept (l.fn.written.items ≡ map finished l.files.items ++ l.left.items);
  room : length l.files.items + length l.left.items ≤ vec_capacity l.files;
  later : g.B.Bench.faults l.fn.bench ≤ g.B.Bench.faults l.bench;
  quiet : OnOk l.kept (g.B.Bench.faults l.bench ≡ g.B.Bench.faults l.fn.bench);
  refused : IfErr l.kept (IsUnwritten (g.B.Bench.faults l.fn.bench) (g.B.Bench.faults l.bench));
}
