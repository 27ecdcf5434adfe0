use Rattle.mesa_delta.specs.declared.error.FileError.TheVariants.{Read}
use Rattle.mesa_split.proofs.Verdicts.{some_at}
use Rattle.mesa_split.proofs.judging.has_failed_read.Goals as goal

pub returns-then-is_failed_read-clause-some : goal.returns-then-is_failed_read-clause-some
returns-then-is_failed_read-clause-some c = λ _. some_at Read c.args.parts.now c.parts.part-index c.part-item.result c.parts-test.true c.part-item.is (c.is_failed_read.ensures.some c.if-is_failed_read.true)
