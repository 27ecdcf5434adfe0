use Rattle.std.proofs.Common.{take}
use Rattle.mesa_merge.specs.Inputs.{knowns_of}
use Rattle.mesa_group_blocks.specs.Moved.{inputs_in}
use Rattle.mesa_group_blocks.specs.Pieces.{AreLiftsOf}
use Rattle.mesa_group_blocks.proofs.decoding.lifts_of.Given as goal

abbrev pub invariant-each_file : goal.invariant-each_file
invariant-each_file g l = AreLiftsOf (take l.i (knowns_of g.R.FileReader.bytes (inputs_in l.files))) l.lifts.items
