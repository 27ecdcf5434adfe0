use Rattle.std.proofs.Common.{◌≡◌, [], take}
use Rattle.mesa_split.specs.Parts.{joined}
use Rattle.mesa_split.proofs.judging.are_empty.Given as goal

abbrev pub invariant-parts : goal.invariant-parts
invariant-parts l = joined (take l.part-index l.parts) ≡ []
