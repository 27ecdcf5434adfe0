use Rattle.std.proofs.Common.{◌≡◌, ◌++◌, ◌≤◌, drop, length, vec_capacity}
use Rattle.mesa_split.specs.Lending.{answers_of, lists_in}
use Rattle.mesa_split.proofs.rounds.taken.Given as goal

abbrev pub invariant-parts : goal.invariant-parts
invariant-parts g l = record {
  answers : l.room.items ++ answers_of (drop l.i l.parts) ≡ answers_of l.fn.parts;
  inputs : lists_in l.parts ≡ lists_in l.fn.parts;
  count : length l.room.items ≡ l.i;
  room : length l.fn.parts ≤ vec_capacity l.room;
}
