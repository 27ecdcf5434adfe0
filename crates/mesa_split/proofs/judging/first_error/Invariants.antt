use Rattle.std.proofs.Common.{take}
use Rattle.std.specs.List.{AllByRecursion}
use Rattle.mesa_split.specs.Split.{IsGained}
use Rattle.mesa_split.proofs.judging.first_error.Given as goal

abbrev pub invariant-parts : goal.invariant-parts
invariant-parts l = AllByRecursion IsGained (take l.part-index l.parts)
