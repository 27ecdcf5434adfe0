use Rattle.std.proofs.Common.{◌≡◌, ◌+◌, drop, take}
use Rattle.mesa_split.specs.Lending.{lists_in, lists_of, returned}
use Rattle.mesa_split.proofs.lending.give_back.Given as goal

abbrev pub invariant-spares : goal.invariant-spares
invariant-spares g l = record {
  left : l.left.items ≡ drop (l.i + 1) l.fn.parts.items;
  lists : lists_of l.inputs l.spare ≡ returned (lists_of l.fn.inputs l.fn.spare) (take (l.i + 1) (lists_in l.fn.parts.items));
}
