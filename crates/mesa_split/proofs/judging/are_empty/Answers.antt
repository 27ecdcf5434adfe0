use Rattle.mesa_split.proofs.Verdicts.{joined_some}
use Rattle.mesa_split.proofs.judging.are_empty.Goals as goal

pub returns-then-has_rows-clause-some : goal.returns-then-has_rows-clause-some
returns-then-has_rows-clause-some c = λ _. joined_some c.args.parts.now c.parts.part-index c.part-item.result c.parts-test.true c.part-item.is (c.has_rows.ensures.some c.if-has_rows.true)
