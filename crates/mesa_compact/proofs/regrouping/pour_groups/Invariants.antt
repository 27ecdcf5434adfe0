use Rattle.std.proofs.Common.{◌≡◌, List}
use Rattle.std.specs.List.{AllByRecursion}
use Rattle.mesa_open_files.specs.mesa_columns.declared.rows.Row.{Row}
use Rattle.mesa_open_files.specs.mesa_columns.Columns.{aggs_of}
use Rattle.mesa_open_files.specs.mesa_fold.Folded.{folded}
use Rattle.mesa_open_files.specs.mesa_scan.Cursors.{IsInput}
use Rattle.mesa_merge.specs.Faults.{faults_of}
use Rattle.mesa_merge.specs.Inputs.{knowns_of}
use Rattle.mesa_merge.specs.Merged.{HasMerged, inputs_of}
use Rattle.mesa_answer.specs.Gathered.{HasPut, wanted_of}
use Rattle.mesa_compact.proofs.regrouping.pour_groups.Given as goal

abbrev pub invariant-rows : goal.invariant-rows
invariant-rows g l = record {
  known : knowns_of g.R.FileReader.bytes (inputs_of l.merge) ≡ knowns_of g.R.FileReader.bytes (inputs_of l.fn.merge);
  inputs : AllByRecursion (IsInput g.R.FileReader.bytes) (inputs_of l.fn.merge) → AllByRecursion (IsInput g.R.FileReader.bytes) (inputs_of l.merge);
  reads : faults_of g.R.FileReader.faults (inputs_of l.merge) ≡ faults_of g.R.FileReader.faults (inputs_of l.fn.merge);
  wanted : wanted_of l.groups ≡ wanted_of l.fn.groups;
  poured : (givens : List (List Row)) → HasMerged g.R.FileReader.bytes (wanted_of l.fn.groups).schema l.fn.merge givens → HasPut l.fn.groups (folded (aggs_of (wanted_of l.fn.groups).schema) givens)
      → (now : List (List Row)) × HasMerged g.R.FileReader.bytes (wanted_of l.fn.groups).schema l.merge now × HasPut l.groups (folded (aggs_of (wanted_of l.fn.groups).schema) now);
}
