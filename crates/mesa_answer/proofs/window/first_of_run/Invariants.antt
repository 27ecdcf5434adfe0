use Rattle.std.proofs.Common.{◌≡◌, ◌+◌, ◌≤◌, take}
use Rattle.std.specs.List.{range_with_len}
use Rattle.mesa_answer.proofs.window.first_of_run.Given as goal

abbrev pub invariant-loop-place : goal.invariant-loop-place
invariant-loop-place l = record {
  run : take l.place-index l.places ≡ range_with_len l.first l.place-index;
  next : l.next ≡ l.first + l.place-index;
  small : l.next ≤ 65536;
}
