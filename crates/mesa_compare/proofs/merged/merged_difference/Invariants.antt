use Rattle.std.proofs.Common.{◌≡◌, List}
use Rattle.mesa_schema.specs.mesa_columns.declared.rows.Row.{Row}
use Rattle.mesa_schema.specs.Changes.{columns_of}
use Rattle.mesa_schema.specs.mesa_columns.Columns.{aggs_of}
use Rattle.mesa_schema.specs.mesa_fold.Folded.{folded}
use Rattle.mesa_examine.specs.mesa_scan.Cursors.{HasGiven, IsInput, IsSameInput, reader_in}
use Rattle.mesa_merge.specs.Faults.{faults_of}
use Rattle.mesa_merge.specs.Inputs.{knowns_of}
use Rattle.mesa_merge.specs.Merged.{HasMerged, inputs_of}
use Rattle.mesa_compare.proofs.merged.merged_difference.Given as goal

-- both have given the same rows
abbrev pub invariant-rows : goal.invariant-rows
invariant-rows g l = record {
  known : knowns_of g.R.FileReader.bytes (inputs_of l.merge) ≡ knowns_of g.R.FileReader.bytes (inputs_of l.fn.merge);
  counts : faults_of g.R.FileReader.faults (inputs_of l.merge) ≡ faults_of g.R.FileReader.faults (inputs_of l.fn.merge);
  input : IsInput g.R.FileReader.bytes l.input;
  same : IsSameInput g.R.FileReader.bytes l.fn.input l.input;
  faults : g.R.FileReader.faults (reader_in l.input) ≡ g.R.FileReader.faults (reader_in l.fn.input);
  given : List Row;
  read : HasGiven g.R.FileReader.bytes l.input l.cursor given;
  givens : List (List Row);
  merged : HasMerged g.R.FileReader.bytes (columns_of l.fn.input.evolving.value) l.merge givens;
  alike : folded (aggs_of (columns_of l.fn.input.evolving.value)) givens ≡ given;
}
