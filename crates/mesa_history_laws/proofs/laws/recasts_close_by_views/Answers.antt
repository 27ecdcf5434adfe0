use Rattle.mesa_history_laws.proofs.Closing.{recasts_close}
use Rattle.mesa_history_laws.proofs.laws.recasts_close_by_views.Goals as goal

pub returns : goal.returns
returns c = recasts_close
