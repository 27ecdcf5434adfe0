use Rattle.std.proofs.Common.{◌≡◌, List, length, map, take}
use Rattle.std.specs.Prelude.{ℤ}
use Rattle.mesa_columns.specs.Lifting.{value_from}
use Rattle.mesa_columns.proofs.lifting.kept.Given as goal

-- the sources so far give the first values
abbrev pub invariant-loop-place : goal.invariant-loop-place
invariant-loop-place l = record {
  same : (values : List ℤ) → length values ≡ l.count → map (value_from values) l.sources.items ≡ take l.place values;
  count : length l.sources.items ≡ l.place;
}
