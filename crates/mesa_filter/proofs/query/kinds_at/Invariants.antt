use Rattle.std.proofs.Common.{◌≡◌, ◌++◌, drop}
use Rattle.mesa_fold.specs.mesa_columns.Columns.{chosen}
use Rattle.mesa_filter.proofs.query.kinds_at.Given as goal

-- the types so far and those at the places that are left are all
abbrev pub invariant-loop-place : goal.invariant-loop-place
invariant-loop-place l = l.found ++ chosen (drop l.place-index l.places) l.kinds ≡ chosen l.places l.kinds
