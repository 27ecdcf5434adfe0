use Rattle.std.proofs.Common.{◌≡◌, drop}
use Rattle.std.specs.Prelude.{find}
use Rattle.mesa_fold.specs.mesa_columns.Columns.{chosen, is_replace}
use Rattle.mesa_filter.proofs.asking.first_replace.Given as goal

-- none of the columns so far is a replace column
abbrev pub invariant-loop-place : goal.invariant-loop-place
invariant-loop-place l = find is_replace (chosen (drop l.place-index l.places) l.columns) ≡ find is_replace (chosen l.places l.columns)
