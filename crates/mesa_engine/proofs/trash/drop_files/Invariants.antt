use Rattle.std.proofs.Common.{◌≡◌, ◌++◌, ◌+◌, ◌-◌, ◌≤◌, length, map, take, vec_len}
use Rattle.std.specs.Prelude.{vec_capacity}
use Rattle.mesa_commit.specs.Holding.{dropped_at}
use Rattle.mesa_engine.proofs.trash.drop_files.Given as goal

abbrev pub invariant-loop-id : goal.invariant-loop-id
invariant-loop-id l = record {
  items : l.trash.items ≡ l.fn.trash.items ++ map (dropped_at l.position) (take l.id-index l.gone);
  room : vec_len l.trash + (length l.gone - l.id-index) ≤ vec_capacity l.trash;
}
