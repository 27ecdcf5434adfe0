use Rattle.std.proofs.Common.{take}
use Rattle.mesa_split.specs.Sampling.{indexes_of}
use Rattle.mesa_split.proofs.Cuts.{Longest}
use Rattle.mesa_split.proofs.sampling.most_blocks.Given as goal

abbrev pub invariant-inputs : goal.invariant-inputs
invariant-inputs g l = Longest (indexes_of (take l.input-index l.inputs)) l.most
