use Rattle.std.proofs.Common.{◌≡◌, ℕ, List, []}
use Rattle.std.specs.Prelude.{IsTrue, Option}
use Rattle.std.specs.List.{AllByRecursion}
use Rattle.mesa_compact.specs.mesa_columns.declared.rows.Row.{Row}
use Rattle.mesa_compact.specs.mesa_columns.Columns.{Columns, aggs_of}
use Rattle.mesa_open_files.specs.mesa_fold.Folded.{folded}
use Rattle.mesa_compact.specs.mesa_columns.Rows.{AreRowsOf}
use Rattle.mesa_compact.specs.mesa_scan.Cursors.{IsInput}
use Rattle.mesa_compact.specs.mesa_scan.Cut.{lies_in}
use Rattle.mesa_merge.specs.Faults.{faults_of}
use Rattle.mesa_merge.specs.Inputs.{knowns_of}
use Rattle.mesa_merge.specs.Merged.{HasMergedBetween, inputs_of}
use Rattle.mesa_split.proofs.collecting.collect.Given as goal

abbrev pub invariant-rows : goal.invariant-rows
invariant-rows g l = record {
  merging : (low high : Option (List ℕ)) (s : Columns) (givens : List (List Row)) → HasMergedBetween g.R.FileReader.bytes low high s l.fn.merge givens → folded (aggs_of s) givens ≡ []
      → (now : List (List Row)) × HasMergedBetween g.R.FileReader.bytes low high s l.merge now × (l.rows ≡ folded (aggs_of s) now) × AreRowsOf s l.rows × AllByRecursion (λ (row : Row). IsTrue (lies_in low high row.key)) l.rows;
  known : knowns_of g.R.FileReader.bytes (inputs_of l.merge) ≡ knowns_of g.R.FileReader.bytes (inputs_of l.fn.merge);
  inputs : AllByRecursion (IsInput g.R.FileReader.bytes) (inputs_of l.fn.merge) → AllByRecursion (IsInput g.R.FileReader.bytes) (inputs_of l.merge);
  reads : faults_of g.R.FileReader.faults (inputs_of l.merge) ≡ faults_of g.R.FileReader.faults (inputs_of l.fn.merge);
}
