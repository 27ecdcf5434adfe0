use Rattle.std.proofs.Common.{◌≡◌, ◌++◌, List}
use Rattle.mesa_schema.specs.mesa_columns.declared.rows.Row.{Row}
use Rattle.mesa_schema.specs.mesa_columns.Columns.{Columns, aggs_of}
use Rattle.mesa_schema.specs.mesa_fold.Folded.{folded}
use Rattle.mesa_merge.specs.Faults.{faults_of}
use Rattle.mesa_merge.specs.Inputs.{knowns_of}
use Rattle.mesa_merge.specs.Merged.{HasMerged, inputs_of}
use Rattle.mesa_compare.proofs.finishing.finish_merge.Given as goal

-- the fold has grown by the rows so far
abbrev pub invariant-rows : goal.invariant-rows
invariant-rows g l = record {
  known : knowns_of g.R.FileReader.bytes (inputs_of l.merge) ≡ knowns_of g.R.FileReader.bytes (inputs_of l.fn.merge);
  faults : faults_of g.R.FileReader.faults (inputs_of l.merge) ≡ faults_of g.R.FileReader.faults (inputs_of l.fn.merge);
  merged : (s : Columns) (givens : List (List Row)) → HasMerged g.R.FileReader.bytes s l.fn.merge givens
      → (after : List (List Row)) × (more : List Row) × HasMerged g.R.FileReader.bytes s l.merge after × (folded (aggs_of s) after ≡ folded (aggs_of s) givens ++ more);
}
