use Rattle.mesa_history_laws.proofs.StayingAnswers.{answers_stay, tables_stay}
use Rattle.mesa_history_laws.proofs.versions.versions_stay.Goals as goal

pub returns : goal.returns
returns c = record { tables = tables_stay; answers = answers_stay }
