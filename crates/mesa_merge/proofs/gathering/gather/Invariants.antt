use Rattle.std.proofs.Common.{◌≡◌, ℕ, ◌+◌, ◌-◌, ◌<◌, List, length}
use Rattle.std.specs.Prelude.{Option}
use Rattle.std.specs.List.{AllByRecursion}
use Rattle.mesa_scan.specs.mesa_columns.declared.rows.Row.{Row}
use Rattle.mesa_scan.specs.mesa_columns.Columns.{Columns, aggs_of}
use Rattle.mesa_scan.specs.Cursors.{IsInput}
use Rattle.mesa_merge.specs.Faults.{faults_of}
use Rattle.mesa_merge.specs.Hands.{hands_of}
use Rattle.mesa_merge.specs.Inputs.{knowns_of}
use Rattle.mesa_merge.specs.Matches.{IsTree}
use Rattle.mesa_merge.specs.Merging.{IsGathering}
use Rattle.mesa_merge.proofs.gathering.gather.Given as goal

-- the row so far is the last of the fold of what was given
abbrev pub invariant-same : goal.invariant-same
invariant-same g l = record {
  within : l.from < length l.inputs;
  count : length l.cursors ≡ length l.inputs;
  tree : IsTree (hands_of l.cursors) l.tree;
  known : knowns_of g.R.FileReader.bytes l.inputs ≡ knowns_of g.R.FileReader.bytes l.fn.inputs;
  inputs : AllByRecursion (IsInput g.R.FileReader.bytes) l.fn.inputs → AllByRecursion (IsInput g.R.FileReader.bytes) l.inputs;
  faults : faults_of g.R.FileReader.faults l.inputs ≡ faults_of g.R.FileReader.faults l.fn.inputs;
  key : l.row.key ≡ l.fn.row.key;
  stage : (low : Option (List ℕ)) (s : Columns) (front : List Row) (givens : List (List Row)) → l.aggs ≡ aggs_of s → IsGathering g.R.FileReader.bytes low s l.fn.inputs l.fn.cursors (l.fn.from + 1) l.fn.row front givens
      → (now : List (List Row)) × IsGathering g.R.FileReader.bytes low s l.inputs l.cursors (l.from + 1) l.row front now;
}

abbrev pub decreases-same : goal.decreases-same
decreases-same g l = length l.inputs - l.from
