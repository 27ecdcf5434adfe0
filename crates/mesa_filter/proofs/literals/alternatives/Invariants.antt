use Rattle.std.proofs.Common.{◌≡◌, ◌+◌, ◌≤◌, length}
use Rattle.mesa_list.specs.Split.{split_at}
use Rattle.mesa_filter.specs.Filter.{each_some, unescaped}
use Rattle.mesa_filter.proofs.Texts.{after}
use Rattle.mesa_filter.proofs.literals.alternatives.Given as goal

-- the literals so far and those that are left are all
abbrev pub invariant-bars : goal.invariant-bars
invariant-bars l = record {
  count : length l.found + length l.parts ≡ length (split_at 124 l.bytes);
  room : length l.found ≤ 64;
  read : after l.found (each_some unescaped l.parts) ≡ each_some unescaped (split_at 124 l.bytes);
}

abbrev pub decreases-bars : goal.decreases-bars
decreases-bars l = length l.parts
