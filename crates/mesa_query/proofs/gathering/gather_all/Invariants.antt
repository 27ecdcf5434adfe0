use Rattle.std.proofs.Common.{◌≡◌, List}
use Rattle.mesa_group_blocks.specs.mesa_columns.declared.rows.Row.{Row}
use Rattle.mesa_group_blocks.specs.mesa_merge.Inputs.{AreTold, knowns_of}
use Rattle.mesa_group_blocks.specs.mesa_answer.Gathered.{HasPut, wanted_of}
use Rattle.mesa_group_blocks.specs.Moved.{inputs_in}
use Rattle.mesa_group_blocks.proofs.Contents.{matching_first}
use Rattle.mesa_query.proofs.Files.{Looked}
use Rattle.mesa_query.proofs.gathering.gather_all.Given as goal

-- the files so far are put in, all are the same, and of the others no block was taken
abbrev pub invariant-each_file : goal.invariant-each_file
invariant-each_file g l = record {
  put : (given : List Row) × HasPut l.groups given × ((contents : List (List Row)) → AreTold (knowns_of g.R.FileReader.bytes (inputs_in l.fn.files)) contents → given ≡ matching_first (wanted_of l.fn.groups).schema l.filter.terms l.view l.fn.files contents l.i);
  wanted : wanted_of l.groups ≡ wanted_of l.fn.groups;
  looked : Looked g.R.FileReader.bytes g.R.FileReader.size g.R.FileReader.faults (wanted_of l.fn.groups).schema l.view l.fn.files l.files l.i l.ahead;
}
