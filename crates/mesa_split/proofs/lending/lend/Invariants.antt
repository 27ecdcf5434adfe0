use Rattle.std.proofs.Common.{◌≡◌, ◌+◌, length, vec_capacity}
use Rattle.mesa_split.specs.Lending.{AreLent, lists_in, lists_of}
use Rattle.mesa_split.proofs.lending.lend.Given as goal

abbrev pub invariant-spares : goal.invariant-spares
invariant-spares g l = record {
  count : length l.parts.items ≡ l.i + 1;
  lent : AreLent (lists_of l.fn.inputs l.fn.spare) (lists_of l.inputs l.spare) (lists_in l.parts.items);
  room : vec_capacity l.parts ≡ l.further + 1;
}
