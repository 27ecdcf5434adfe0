use Rattle.std.proofs.Common.{◌≡◌, ◌<◌, take}
use Rattle.std.specs.List.{AllByRecursion}
use Rattle.mesa_delta.specs.mesa_columns.Columns.{chosen}
use Rattle.mesa_scan.specs.MatchingRows.{matching_rows}
use Rattle.mesa_scan.proofs.matching.matching_in.Given as goal

-- the places so far are those of the matching rows among the first
abbrev pub invariant-loop-place : goal.invariant-loop-place
invariant-loop-place l = record {
  within : AllByRecursion (λ place. place < l.place) l.places.items;
  rows : chosen l.places.items l.fn.block ≡ matching_rows l.filter (take l.place l.fn.block);
}
