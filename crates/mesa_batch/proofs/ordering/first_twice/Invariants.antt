use Rattle.std.proofs.Common.{map}
use Rattle.mesa_batch.specs.Flat.{IsFirstTwice}
use Rattle.mesa_batch.specs.Heads.{place_of}
use Rattle.mesa_batch.proofs.ordering.first_twice.Given as goal

-- the neighbours so far
abbrev pub invariant-places : goal.invariant-places
invariant-places l = IsFirstTwice l.rows (map place_of l.order) l.place l.found
