use Rattle.std.proofs.Common.{◌≡◌}
use Rattle.mesa_group_blocks.specs.mesa_delta.Ahead.{AreAhead}
use Rattle.mesa_group_blocks.specs.mesa_merge.Faults.{faults_of}
use Rattle.mesa_group_blocks.specs.mesa_merge.Inputs.{knowns_of, tolds_of}
use Rattle.mesa_group_blocks.specs.Moved.{AreMoved, inputs_in}
use Rattle.mesa_query.proofs.gathering.read_first.Given as goal

-- what waits is of the files, of which no block was taken
abbrev pub invariant-next_files : goal.invariant-next_files
invariant-next_files g l = record {
  moved : AreMoved g.R.FileReader.bytes g.R.FileReader.size l.fn.files l.files;
  faults : faults_of g.R.FileReader.faults (inputs_in l.files) ≡ faults_of g.R.FileReader.faults (inputs_in l.fn.files);
  ahead : AreAhead (tolds_of (knowns_of g.R.FileReader.bytes (inputs_in l.fn.files))) l.fn.ahead → AreAhead (tolds_of (knowns_of g.R.FileReader.bytes (inputs_in l.fn.files))) l.ahead;
}
