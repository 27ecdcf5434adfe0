use Rattle.std.proofs.Common.{◌≡◌, ◌-◌, length}
use Rattle.mesa_answer.specs.Gathering.{Wanted}
use Rattle.mesa_merge.specs.Faults.{faults_of}
use Rattle.mesa_merge.specs.Inputs.{knowns_of}
use Rattle.mesa_group_blocks.specs.Moved.{AreMoved, inputs_in}
use Rattle.mesa_group_blocks.specs.Jobs.{IsJob}
use Rattle.mesa_group_blocks.proofs.reading.read_job.Given as goal

-- the job goes on, and of the files no block was taken
abbrev pub invariant-each_piece : goal.invariant-each_piece
invariant-each_piece g l = record {
  job : (w : Wanted) → IsJob (knowns_of g.R.FileReader.bytes (inputs_in l.fn.files)) w l.filter l.fn.job → IsJob (knowns_of g.R.FileReader.bytes (inputs_in l.fn.files)) w l.filter l.job;
  pieces : l.job.pieces ≡ l.fn.job.pieces;
  moved : AreMoved g.R.FileReader.bytes g.R.FileReader.size l.fn.files l.files;
  faults : faults_of g.R.FileReader.faults (inputs_in l.files) ≡ faults_of g.R.FileReader.faults (inputs_in l.fn.files);
}

abbrev pub decreases-each_piece : goal.decreases-each_piece
decreases-each_piece g l = length l.job.pieces.items - l.job.next
