use Rattle.std.proofs.Common.{◌≡◌}
use Rattle.mesa_merge.specs.Faults.{faults_of}
use Rattle.mesa_group_blocks.specs.Moved.{inputs_in}
use Rattle.mesa_group_blocks.proofs.ReadBlocks.{GoOn}
use Rattle.mesa_group_blocks.proofs.beside.run_jobs.Given as goal

-- the jobs go on, and of the files no block was taken
abbrev pub invariant-each_round : goal.invariant-each_round
invariant-each_round g l = record {
  on : GoOn g.R.FileReader.bytes g.R.FileReader.size l.filter l.fn.files l.files l.fn.jobs l.jobs;
  faults : faults_of g.R.FileReader.faults (inputs_in l.files) ≡ faults_of g.R.FileReader.faults (inputs_in l.fn.files);
}
