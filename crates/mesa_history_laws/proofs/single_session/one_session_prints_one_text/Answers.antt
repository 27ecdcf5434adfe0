use Rattle.mesa_history_laws.proofs.OneText.{prints_alone}
use Rattle.mesa_history_laws.proofs.single_session.one_session_prints_one_text.Goals as goal

pub returns : goal.returns
returns c = prints_alone
