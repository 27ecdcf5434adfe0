use Rattle.mesa_history_laws.proofs.ReachedAnswers.{answers_fold, pages_fold}
use Rattle.mesa_history_laws.proofs.answering.answers_from_the_fold.Goals as goal

pub returns : goal.returns
returns c = record { answered = answers_fold; printed = pages_fold }
