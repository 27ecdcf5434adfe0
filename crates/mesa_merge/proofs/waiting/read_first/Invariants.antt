use Rattle.std.proofs.Common.{◌≡◌}
use Rattle.mesa_merge.specs.Faults.{faults_of}
use Rattle.mesa_merge.specs.Waiting.{AreWaiting}
use Rattle.mesa_merge.proofs.waiting.read_first.Given as goal

abbrev pub invariant-first : goal.invariant-first
invariant-first g l = record {
  waiting : AreWaiting g.R.FileReader.bytes l.cursors l.fn.inputs l.inputs l.fn.ahead l.ahead;
  faults : faults_of g.R.FileReader.faults l.inputs ≡ faults_of g.R.FileReader.faults l.fn.inputs;
}
