use Rattle.std.proofs.Common.{subst, sym}
use Rattle.mesa_answer.specs.Answering.{KeepsSums}
use Rattle.mesa_bench.proofs.Sums.{keeps}
use Rattle.mesa_bench.proofs.answering.answer_page.Goals as goal

pub answer-requires-clause-bounded : goal.answer-requires-clause-bounded
answer-requires-clause-bounded c =
    subst (KeepsSums c.args.schema.now) (sym c.deref.ensures.value) (keeps c.args.schema.now c.in_ok-rows.rows.items c.args.rows c.requires.columns c.ranges.rows.fits c.in_ok-rows.ensures.few)
