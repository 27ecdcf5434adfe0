use Rattle.mesa_split.proofs.Verdicts.{some_at}
use Rattle.mesa_split.proofs.judging.first_error.Goals as goal

pub returns-in-Some-clause-some : goal.returns-in-Some-clause-some
returns-in-Some-clause-some c = some_at c.in-Some.error c.args.parts.now c.parts.part-index c.part-item.result c.parts-test.true c.part-item.is c.in-Some.ensures.some
