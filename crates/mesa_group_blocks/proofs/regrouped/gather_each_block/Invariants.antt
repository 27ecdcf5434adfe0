use Rattle.std.proofs.Common.{◌-◌, length}
use Rattle.mesa_delta.specs.Reading.{index_of}
use Rattle.mesa_scan.specs.Scanning.{next_of}
use Rattle.mesa_view.proofs.Waiting.{Waits}
use Rattle.mesa_group_blocks.proofs.Blocks.{Regroups}
use Rattle.mesa_group_blocks.proofs.regrouped.gather_each_block.Given as goal

abbrev pub invariant-each_block : goal.invariant-each_block
invariant-each_block g l = record {
  regroups : Regroups g.R.FileReader.bytes g.R.FileReader.size g.R.FileReader.faults l.fn.input l.input l.regrouping l.filter l.every l.scan l.fn.groups l.groups;
  waits : Waits g.R.FileReader.bytes l.fn.input l.place l.fn.ahead l.ahead;
}

abbrev pub decreases-each_block : goal.decreases-each_block
decreases-each_block g l = length (index_of l.input.reader).entries - next_of l.scan
