use Rattle.std.proofs.Common.{◌≡◌, drop}
use Rattle.std.specs.Prelude.{max}
use Rattle.mesa_filter.specs.Walk.{columns_named}
use Rattle.mesa_filter.proofs.matching.last_named.Given as goal

-- the columns named so far and those that the other terms name
abbrev pub invariant-loop-term : goal.invariant-loop-term
invariant-loop-term l = max l.named (columns_named (drop l.term-index l.terms)) ≡ columns_named l.terms
