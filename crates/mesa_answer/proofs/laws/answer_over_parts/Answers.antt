use Rattle.mesa_answer.proofs.Parts.{answer_filtered, answer_parts}
use Rattle.mesa_answer.proofs.laws.answer_over_parts.Goals as goal

pub returns : goal.returns
returns c = record { fold = answer_parts; filtered = answer_filtered }
