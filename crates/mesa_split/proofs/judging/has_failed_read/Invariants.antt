use Rattle.std.proofs.Common.{take}
use Rattle.std.specs.List.{AllByRecursion}
use Rattle.mesa_delta.specs.declared.error.FileError.TheVariants.{Read}
use Rattle.mesa_split.specs.Split.{IsNotBy}
use Rattle.mesa_split.proofs.judging.has_failed_read.Given as goal

abbrev pub invariant-parts : goal.invariant-parts
invariant-parts l = AllByRecursion (IsNotBy Read) (take l.part-index l.parts)
