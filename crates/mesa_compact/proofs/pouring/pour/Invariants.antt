use Rattle.std.proofs.Common.{◌≡◌, List, map}
use Rattle.std.specs.List.{AllByRecursion}
use Rattle.mesa_open_files.specs.mesa_columns.declared.rows.Row.{Row}
use Rattle.mesa_open_files.specs.mesa_columns.Columns.{aggs_of}
use Rattle.mesa_open_files.specs.mesa_fold.Folded.{folded}
use Rattle.mesa_delta.specs.Writing.{HasTaken, columns_of, draft_of, id_of}
use Rattle.mesa_open_files.specs.mesa_scan.Cursors.{IsInput}
use Rattle.mesa_merge.specs.Faults.{faults_of}
use Rattle.mesa_merge.specs.Inputs.{knowns_of}
use Rattle.mesa_merge.specs.Merged.{HasMerged, inputs_of}
use Rattle.mesa_answer.specs.Gathered.{wanted_of}
use Rattle.mesa_compact.specs.Grouping.{HavePut}
use Rattle.mesa_compact.proofs.pouring.pour.Given as goal

abbrev pub invariant-rows : goal.invariant-rows
invariant-rows g l = record {
  columns : columns_of l.writer ≡ columns_of l.fn.writer;
  id : id_of l.writer ≡ id_of l.fn.writer;
  draft : g.T.Draft.id_of (draft_of l.writer) ≡ g.T.Draft.id_of (draft_of l.fn.writer);
  faults : g.T.Draft.faults (draft_of l.writer) ≡ g.T.Draft.faults (draft_of l.fn.writer);
  known : knowns_of g.R.FileReader.bytes (inputs_of l.merge) ≡ knowns_of g.R.FileReader.bytes (inputs_of l.fn.merge);
  inputs : AllByRecursion (IsInput g.R.FileReader.bytes) (inputs_of l.fn.merge) → AllByRecursion (IsInput g.R.FileReader.bytes) (inputs_of l.merge);
  reads : faults_of g.R.FileReader.faults (inputs_of l.merge) ≡ faults_of g.R.FileReader.faults (inputs_of l.fn.merge);
  wanted : map wanted_of l.groups ≡ map wanted_of l.fn.groups;
  poured : (givens : List (List Row)) → HasMerged g.R.FileReader.bytes (columns_of l.fn.writer) l.fn.merge givens → HasTaken g.T.Draft.bytes l.fn.writer (folded (aggs_of (columns_of l.fn.writer)) givens)
      → HavePut l.fn.groups (folded (aggs_of (columns_of l.fn.writer)) givens)
      → (now : List (List Row)) × HasMerged g.R.FileReader.bytes (columns_of l.writer) l.merge now × HasTaken g.T.Draft.bytes l.writer (folded (aggs_of (columns_of l.writer)) now) × HavePut l.groups (folded (aggs_of (columns_of l.writer)) now);
}
